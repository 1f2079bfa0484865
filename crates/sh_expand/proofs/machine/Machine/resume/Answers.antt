use Rattle.std.proofs.Common.{◌≡◌, ◌<◌, ℕ, sym, ap, ◌∙◌, arith}
use Rattle.sh_expand.specs.declared.machine.Stage.{Stage}
use Rattle.sh_expand.specs.Machine.{at_stage, bodies_at}
use Rattle.sh_expand.proofs.Bodies.{none_due}
use Rattle.sh_expand.proofs.machine.Machine.resume.Goals as goal

pub returns-in_ok-wants-in-Before-clause-due : goal.returns-in_ok-wants-in-Before-clause-due
returns-in_ok-wants-in-Before-clause-due c = none_due c.in_ok-wants-in-Before.wants _ _ c.in_ok-wants-in-Before.ensures.no_body

pub returns-in-Piped-clause-talk : goal.returns-in-Piped-clause-talk
returns-in-Piped-clause-talk c =
    λ body k fail p.
    ap (λ (s : Stage). at_stage s c.args.self.now c.args.answer body k fail c.args.env.now p) (sym c.replace-stage.ensures.value ∙ c.in-Piped.is)

pub returns-in-Piped-clause-due : goal.returns-in-Piped-clause-due
returns-in-Piped-clause-due c =
    let due : bodies_at c.args.self.now.stage ≡ 1 = ap bodies_at (sym c.replace-stage.ensures.value ∙ c.in-Piped.is) in
    omega arith

pub returns-in_ok-wants-in-Reads-clause-due : goal.returns-in_ok-wants-in-Reads-clause-due
returns-in_ok-wants-in-Reads-clause-due c = none_due c.in_ok-wants-in-Reads.wants _ _ c.in_ok-wants-in-Reads.ensures.no_body
