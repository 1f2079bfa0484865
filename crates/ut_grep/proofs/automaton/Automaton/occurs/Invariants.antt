use Rattle.std.proofs.Common.{◌≡◌, ◌<◌, take, false}
use Rattle.ut_grep.specs.Reading.{longest}
use Rattle.ut_grep.specs.Standing.{stands_any}
use Rattle.ut_grep.specs.Tries.{texts_of, count, front_at}
use Rattle.ut_grep.proofs.automaton.Automaton.occurs.Given as goal

abbrev pub invariant-loop-b : goal.invariant-loop-b
invariant-loop-b l =
    (l.at < count l.self.trie) × (front_at l.self.trie l.at ≡ longest (texts_of l.self.trie) (take l.b-index l.line)) × (stands_any false (texts_of l.self.trie) (take l.b-index l.line) ≡ false)
