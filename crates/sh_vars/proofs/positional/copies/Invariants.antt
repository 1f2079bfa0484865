use Rattle.std.proofs.Common.{◌≡◌, take}
use Rattle.sh_vars.proofs.positional.copies.Given as goal

abbrev pub invariant-words : goal.invariant-words
invariant-words l = l.copies ≡ take l.word-index l.words
