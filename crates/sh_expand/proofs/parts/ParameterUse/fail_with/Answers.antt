use Rattle.std.proofs.Common.{refl}
use Rattle.sh_expand.proofs.parts.ParameterUse.fail_with.Goals as goal

pub returns-in_ok-parameter-in-Some-clause-does : goal.returns-in_ok-parameter-in-Some-clause-does
returns-in_ok-parameter-in-Some-clause-does c = λ e body k fail p. rw (c.in-Some.is, c.take.ensures.left, c.in_ok-inner-in-Some.ensures, c.in_ok-parameter-in-Some.ensures, c.spelling.ensures) refl
