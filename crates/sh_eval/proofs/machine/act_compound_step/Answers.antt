use Rattle.std.proofs.Common.{sym, ap, ◌∙◌, arith}
use Rattle.sh_ast.specs.Commands as tree
use Rattle.sh_ast.specs.declared.command.Compound.{Compound}
use Rattle.sh_means.specs.declared.control.CompoundStep.{CompoundStep}
use Rattle.sh_means.specs.Eval.{compound_in}
use Rattle.sh_means.specs.Run.{run}
use Rattle.sh_means.specs.Stack.{context, resumed_compound}
use Rattle.sh_means.specs.Views.{shell_of}
use Rattle.sh_means.specs.Weights.{weigh_compound, weigh_compound_step}
use Rattle.sh_means.proofs.Weighing.{pays_lower, lowers_more, sinks_lower}
use Rattle.sh_eval.proofs.machine.act_compound_step.Goals as goal

pub returns-in_ok-control-in-Compound-clause-talk : goal.returns-in_ok-control-in-Compound-clause-talk
returns-in_ok-control-in-Compound-clause-talk c =
    let k = context c.args.shell.now.stack.items in
    let e = shell_of c.args.shell.now.state in
    λ p. ap (λ (x : CompoundStep). resumed_compound x k e p) c.in-Compound.is ∙ ap (λ (b : Compound). compound_in run (tree.compound b) c.in-Compound.place e k p) (sym c.deref.ensures) ∙ c.in_ok-control-in-Compound.ensures.talk p ∙ c.free.ensures.talk (context c.act_compound.new.shell.stack.items) (shell_of c.act_compound.new.shell.state) p

pub returns-in_ok-control-in-If-clause-talk : goal.returns-in_ok-control-in-If-clause-talk
returns-in_ok-control-in-If-clause-talk c =
    let k = context c.args.shell.now.stack.items in
    let e = shell_of c.args.shell.now.state in
    λ p. ap (λ (x : CompoundStep). resumed_compound x k e p) c.in-If.is ∙ c.in_ok-control-in-If.ensures.talk e p ∙ c.free-in-If.ensures.talk (context c.act_if.new.stack.items) e p

pub returns-in-Each-clause-talk : goal.returns-in-Each-clause-talk
returns-in-Each-clause-talk c =
    let k = context c.args.shell.now.stack.items in
    let e = shell_of c.args.shell.now.state in
    λ p. ap (λ (x : CompoundStep). resumed_compound x k e p) c.in-Each.is ∙ c.act_each.ensures.talk k e p

pub returns-in_ok-control-in-Compound-clause-costly : goal.returns-in_ok-control-in-Compound-clause-costly
returns-in_ok-control-in-Compound-clause-costly c = λ m le. c.free.ensures.costly m _ (omega (arith, ap weigh_compound_step c.in-Compound.is, ap weigh_compound c.deref.ensures, c.in_ok-control-in-Compound.ensures.weight))

pub returns-in-Called-clause-costly : goal.returns-in-Called-clause-costly
returns-in-Called-clause-costly c = pays_lower c.act_redirected.result _ _ _ c.act_redirected.ensures.costly

pub returns-in_ok-control-in-If-clause-costly : goal.returns-in_ok-control-in-If-clause-costly
returns-in_ok-control-in-If-clause-costly c = λ m le. c.free-in-If.ensures.costly m _ (omega (arith, ap weigh_compound_step c.in-If.is, c.in_ok-control-in-If.ensures.weight))

pub returns-in-Round-clause-costly : goal.returns-in-Round-clause-costly
returns-in-Round-clause-costly c = pays_lower c.act_round.result _ _ _ c.act_round.ensures.costly

pub returns-in-Each-clause-costly : goal.returns-in-Each-clause-costly
returns-in-Each-clause-costly c = λ m le. c.act_each.ensures.costly m _ (omega (arith, ap weigh_compound_step c.in-Each.is))

pub returns-in-Gives-clause-costly : goal.returns-in-Gives-clause-costly
returns-in-Gives-clause-costly c = lowers_more c.act_gives.result _ _ _ _ _ c.act_gives.ensures.costly (omega (arith, ap weigh_compound_step c.in-Gives.is))

pub returns-in-Case-clause-costly : goal.returns-in-Case-clause-costly
returns-in-Case-clause-costly c = sinks_lower c.act_case_at.result _ _ _ c.act_case_at.ensures.costly (omega (arith, ap weigh_compound_step c.in-Case.is))

pub returns-in-Stages-clause-costly : goal.returns-in-Stages-clause-costly
returns-in-Stages-clause-costly c = lowers_more c.act_stages.result _ _ _ _ _ c.act_stages.ensures.costly (omega (arith, ap weigh_compound_step c.in-Stages.is))
