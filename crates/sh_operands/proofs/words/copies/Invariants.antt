use Rattle.std.proofs.Common.{◌≡◌, take}
use Rattle.sh_operands.proofs.words.copies.Given as goal

abbrev pub invariant-words : goal.invariant-words
invariant-words l = l.copies ≡ take l.word-index l.words
