use Rattle.std.proofs.Common.{◌≡◌, ◌++◌, drop}
use Rattle.sh_expand.specs.Values.{all_removed}
use Rattle.sh_expand.proofs.removal.all_removed.Given as goal

abbrev pub invariant-words : goal.invariant-words
invariant-words l = l.values ++ all_removed l.removal l.pattern (drop l.word-index l.words) ≡ all_removed l.removal l.pattern l.words
