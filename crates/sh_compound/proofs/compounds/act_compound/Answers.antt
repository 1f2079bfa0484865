use Rattle.std.proofs.Common.{ap, ◌∙◌, arith}
use Rattle.sh_ast.specs.Commands as tree
use Rattle.sh_ast.specs.declared.command.Compound.{Compound}
use Rattle.sh_means.specs.Eval.{compound_in}
use Rattle.sh_means.specs.Run.{run}
use Rattle.sh_means.specs.Stack.{context}
use Rattle.sh_means.specs.Views.{shell_of}
use Rattle.sh_means.proofs.Folding.{a_group_is, a_subshell_is, a_for_is, a_case_is, an_if_is, a_loop_is}
use Rattle.sh_compound.proofs.ByKind.{group_entered, if_entered}
use Rattle.sh_means.specs.Weights.{weigh_compound}
use Rattle.sh_means.proofs.Weighing.{group_weighs, subshell_weighs, for_weighs, case_weighs, if_weighs, loop_weighs, branches_same}
use Rattle.sh_compound.proofs.compounds.act_compound.Goals as goal

pub returns-in_ok-list-in-Group-clause-talk : goal.returns-in_ok-list-in-Group-clause-talk
returns-in_ok-list-in-Group-clause-talk c =
    λ p. ap (λ (t : tree.CompoundTree). compound_in run t c.args.place (shell_of c.args.shell.now.state) (context c.args.shell.now.stack.items) p) (ap (λ (x : Compound). tree.compound x) c.in-Group.is ∙ a_group_is c.in-Group.list)
    ∙ group_entered c.in-Group.list.value c.in_ok-list-in-Group.list c.args.place (context c.args.shell.now.stack.items) (shell_of c.args.shell.now.state) p c.in_ok-list-in-Group.ensures.cases

pub returns-in_ok-control-in-Subshell-clause-talk : goal.returns-in_ok-control-in-Subshell-clause-talk
returns-in_ok-control-in-Subshell-clause-talk c =
    λ p. ap (λ (t : tree.CompoundTree). compound_in run t c.args.place (shell_of c.args.shell.now.state) (context c.args.shell.now.stack.items) p) (ap (λ (x : Compound). tree.compound x) c.in-Subshell.is ∙ a_subshell_is c.in-Subshell.list)
    ∙ c.in_ok-control-in-Subshell.ensures.talk p

pub returns-in_ok-control-in-For-clause-talk : goal.returns-in_ok-control-in-For-clause-talk
returns-in_ok-control-in-For-clause-talk c =
    λ p. ap (λ (t : tree.CompoundTree). compound_in run t c.args.place (shell_of c.args.shell.now.state) (context c.args.shell.now.stack.items) p) (ap (λ (x : Compound). tree.compound x) c.in-For.is ∙ a_for_is c.in-For.name c.in-For.words c.in-For.body)
    ∙ c.in_ok-control-in-For.ensures.talk (context c.args.shell.now.stack.items) p

pub returns-in_ok-control-in-Case-clause-talk : goal.returns-in_ok-control-in-Case-clause-talk
returns-in_ok-control-in-Case-clause-talk c =
    λ p. ap (λ (t : tree.CompoundTree). compound_in run t c.args.place (shell_of c.args.shell.now.state) (context c.args.shell.now.stack.items) p) (ap (λ (x : Compound). tree.compound x) c.in-Case.is ∙ a_case_is c.in-Case.word c.in-Case.items)
    ∙ c.in_ok-control-in-Case.ensures.talk (context c.args.shell.now.stack.items) (shell_of c.args.shell.now.state) p

pub returns-in_ok-otherwise-in-If-clause-talk : goal.returns-in_ok-otherwise-in-If-clause-talk
returns-in_ok-otherwise-in-If-clause-talk c =
    λ p. ap (λ (t : tree.CompoundTree). compound_in run t c.args.place (shell_of c.args.shell.now.state) (context c.args.shell.now.stack.items) p) (ap (λ (x : Compound). tree.compound x) c.in-If.is ∙ an_if_is c.in-If.branches c.in-If.otherwise)
    ∙ if_entered c.in-If.branches.value c.in_ok-branches-in-If.branches c.in-If.otherwise.value c.in_ok-otherwise-in-If.otherwise c.args.place (context c.args.shell.now.stack.items) (shell_of c.args.shell.now.state) p c.in_ok-branches-in-If.ensures.cases c.in_ok-otherwise-in-If.ensures.cases

pub returns-in_ok-control-in-Loop-clause-talk : goal.returns-in_ok-control-in-Loop-clause-talk
returns-in_ok-control-in-Loop-clause-talk c =
    λ p. ap (λ (t : tree.CompoundTree). compound_in run t c.args.place (shell_of c.args.shell.now.state) (context c.args.shell.now.stack.items) p) (ap (λ (x : Compound). tree.compound x) c.in-Loop.is ∙ a_loop_is c.in-Loop.kind c.in-Loop.condition c.in-Loop.body)
    ∙ c.in_ok-control-in-Loop.ensures.talk (context c.args.shell.now.stack.items) (shell_of c.args.shell.now.state) p

pub returns-in_ok-list-in-Group-clause-weight : goal.returns-in_ok-list-in-Group-clause-weight
returns-in_ok-list-in-Group-clause-weight c = omega (arith, ap weigh_compound c.in-Group.is, group_weighs c.in-Group.list)

pub returns-in_ok-control-in-Subshell-clause-weight : goal.returns-in_ok-control-in-Subshell-clause-weight
returns-in_ok-control-in-Subshell-clause-weight c = omega (arith, ap weigh_compound c.in-Subshell.is, subshell_weighs c.in-Subshell.list, c.in_ok-control-in-Subshell.ensures.weight)

pub returns-in_ok-control-in-For-clause-weight : goal.returns-in_ok-control-in-For-clause-weight
returns-in_ok-control-in-For-clause-weight c =
    omega (arith, ap weigh_compound c.in-For.is, for_weighs c.in-For.name c.in-For.words c.in-For.body, c.in_ok-control-in-For.ensures.weight)

pub returns-in_ok-control-in-Case-clause-weight : goal.returns-in_ok-control-in-Case-clause-weight
returns-in_ok-control-in-Case-clause-weight c = omega (arith, ap weigh_compound c.in-Case.is, case_weighs c.in-Case.word c.in-Case.items, c.in_ok-control-in-Case.ensures.weight)

pub returns-in_ok-otherwise-in-If-clause-weight : goal.returns-in_ok-otherwise-in-If-clause-weight
returns-in_ok-otherwise-in-If-clause-weight c =
    omega (arith, ap weigh_compound c.in-If.is, if_weighs c.in-If.branches c.in-If.otherwise, branches_same c.in_ok-branches-in-If.branches.value c.in-If.branches.value 0 c.in_ok-branches-in-If.ensures.cases)

pub returns-in_ok-control-in-Loop-clause-weight : goal.returns-in_ok-control-in-Loop-clause-weight
returns-in_ok-control-in-Loop-clause-weight c =
    omega (arith, ap weigh_compound c.in-Loop.is, loop_weighs c.in-Loop.kind c.in-Loop.condition c.in-Loop.body, c.in_ok-control-in-Loop.ensures.weight)
