use Rattle.std.proofs.Common.{◌≡◌, take}
use Rattle.sh_special.proofs.invocation.copies.Given as goal

abbrev pub invariant-words : goal.invariant-words
invariant-words l = l.list.items ≡ take l.word-index l.words
