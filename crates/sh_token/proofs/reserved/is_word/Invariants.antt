use Rattle.std.proofs.Common.{◌≡◌, drop}
use Rattle.sh_token.specs.Folded.{folded}
use Rattle.sh_token.specs.Reserved.{is_word}
use Rattle.sh_token.proofs.reserved.is_word.Given as goal

-- the word stands there exactly where its rest stands behind what went by
abbrev pub invariant-loop-at : goal.invariant-loop-at
invariant-loop-at l = is_word l.word (folded l.text) ≡ is_word (drop l.at l.word) (folded l.left)
