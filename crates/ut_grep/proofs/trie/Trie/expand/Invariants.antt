use Rattle.std.proofs.Common.{◌≡◌, ◌-◌}
use Rattle.ut_grep.specs.Tries.{state_at}
use Rattle.ut_grep.proofs.GrowingLemmas.{IsPart}
use Rattle.ut_grep.proofs.trie.Trie.expand.Given as goal

abbrev pub invariant-runs : goal.invariant-runs
invariant-runs l =
    IsPart l.initial.self l.self l.at l.low × (l.place ≡ (state_at l.initial.self l.at).length) × (l.high ≡ (state_at l.initial.self l.at).high)

abbrev pub decreases-runs : goal.decreases-runs
decreases-runs l = l.high - l.low
