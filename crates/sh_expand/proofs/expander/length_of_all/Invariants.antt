use Rattle.std.proofs.Common.{◌≡◌, ◌+◌, drop, length}
use Rattle.sh_expand.specs.Means.{all_bytes}
use Rattle.sh_expand.proofs.expander.length_of_all.Given as goal

abbrev pub invariant-words : goal.invariant-words
invariant-words l = l.n + length (all_bytes (drop l.word-index l.words)) ≡ length (all_bytes l.words)
