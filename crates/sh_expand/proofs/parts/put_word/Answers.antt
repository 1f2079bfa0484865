use Rattle.std.proofs.Common.{refl}
use Rattle.sh_expand.proofs.parts.put_word.Goals as goal

pub returns-in_ok-word-in-Some-clause-does : goal.returns-in_ok-word-in-Some-clause-does
returns-in_ok-word-in-Some-clause-does c = λ e body k fail p. rw (c.in-Some.is, c.in_ok-word-in-Some.ensures) refl
