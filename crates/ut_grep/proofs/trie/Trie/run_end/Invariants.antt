use Rattle.std.proofs.Common.{◌≡◌, ℕ, ◌<◌, Some}
use Rattle.std.specs.List.{slice_get}
use Rattle.ut_grep.specs.Tries.{text_at}
use Rattle.ut_grep.proofs.trie.Trie.run_end.Given as goal

abbrev pub invariant-loop-text : goal.invariant-loop-text
invariant-loop-text l = (k : ℕ) → l.low < k → k < l.text → slice_get (text_at l.self k) l.place ≡ Some l.b
