-- What a call gives.
use Rattle.rk_calls.specs.Refs.{RefsHeld}
use Rattle.rk_calls.specs.declared.answer.Answer.{Answer}

-- the answer, and the command's descriptors and what the world means afterwards
pub record Given (W : Type 0) : Type 0 where
  pub answer : Answer
  pub refs : RefsHeld
  pub world : W
