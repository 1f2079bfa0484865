use Rattle.std.proofs.Common.{◌≡◌, ◌<◌, take}
use Rattle.ut_grep.specs.Tries.{count, front_at}
use Rattle.ut_grep.proofs.automaton.Automaton.is_text.Given as goal

abbrev pub invariant-loop-b : goal.invariant-loop-b
invariant-loop-b l = (l.at < count l.self.trie) × (front_at l.self.trie l.at ≡ take l.b-index l.line)
