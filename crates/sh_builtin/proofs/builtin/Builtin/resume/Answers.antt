use Rattle.std.proofs.Common.{sym, subst}
use Rattle.sh_builtin.specs.declared.stage.Progress.{Progress}
use Rattle.sh_builtin.specs.Refused.{HasBegunAt, IsFewer, refusals, refusals_at}
use Rattle.sh_builtin.proofs.builtin.Builtin.resume.Goals as goal

pub returns-clause-refused : goal.returns-clause-refused
returns-clause-refused c =
    λ is begun. subst (λ (x : Progress). IsFewer (refusals_at x) c.in_ok-turn.field-0.turn (refusals c.in_ok-turn.field-0.stage)) c.replace-progress.ensures.value
    (c.in_ok-turn.ensures.refused is (subst HasBegunAt (sym c.replace-progress.ensures.value) begun))
