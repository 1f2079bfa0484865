use Rattle.std.proofs.Common.{◌≡◌, ◌≤◌, ◌∷◌, [], ◌++◌}
use Rattle.ut_grep.specs.Reading.{longest}
use Rattle.ut_grep.specs.Tries.{texts_of, front_at}
use Rattle.ut_grep.proofs.trie.Trie.step.Given as goal

abbrev pub invariant-links : goal.invariant-links
invariant-links l = (l.at ≤ l.from) × (longest (texts_of l.self) (front_at l.self l.at ++ l.b ∷ []) ≡ longest (texts_of l.self) (front_at l.self l.from ++ l.b ∷ []))

abbrev pub decreases-links : goal.decreases-links
decreases-links l = l.at
