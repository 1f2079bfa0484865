use Rattle.std.proofs.Common.{◌≡◌, ◌++◌, drop}
use Rattle.sh_split.specs.Joining.{after_each}
use Rattle.sh_split.proofs.joining.put_each.Given as goal

abbrev pub invariant-words : goal.invariant-words
invariant-words l = l.text.items ++ after_each l.separator (drop l.word-index l.words) ≡ l.initial.text.items ++ after_each l.separator l.words
