use Rattle.std.proofs.Common.{sym, subst}
use Rattle.std.specs.Prelude.{Some, None}
use Rattle.sh_expand.specs.declared.acts.Acted.{Acted}
use Rattle.sh_expand.specs.declared.machine.Wants.TheVariants.{Pipe}
use Rattle.sh_expand.specs.declared.machine.Stage.TheVariants.{Piped}
use Rattle.sh_expand.specs.Machine.{ActedOn}
use Rattle.sh_expand.proofs.MachineLemmas.{entered, asked}
use Rattle.sh_expand.proofs.machine.on_acted.Goals as goal

pub returns-in_ok-enter-in-Enter : goal.returns-in_ok-enter-in-Enter
returns-in_ok-enter-in-Enter c =
    subst (λ (a : Acted). ActedOn c.args.x.now a c.args.env.now c.enter.new.x None) (sym c.in-Enter.is) (entered c.args.x.now c.enter.new.x c.in-Enter.inner c.in-Enter.splits c.in-Enter.then c.args.env.now c.in_ok-enter-in-Enter.ensures.level c.in_ok-enter-in-Enter.ensures.marks c.in_ok-enter-in-Enter.ensures.stack)

pub returns-in-Subst : goal.returns-in-Subst
returns-in-Subst c =
    subst (λ (a : Acted). ActedOn c.args.x.now a c.args.env.now (record c.args.x.now { stage = Piped c.in-Subst.n c.in-Subst.quoted c.args.env.now.next }) (Some Pipe)) (sym c.in-Subst.is) (asked c.args.x.now c.in-Subst.n c.in-Subst.quoted c.args.env.now)
