use Rattle.std.proofs.Common.{ap, ◌∙◌, arith}
use Rattle.sh_redirect.specs.declared.descriptors.DescriptorTable.{DescriptorTable}
use Rattle.sh_redirect.specs.DescriptorTable.{put_back}
use Rattle.sh_means.specs.declared.control.Undo.{Undo}
use Rattle.sh_means.specs.Stack.{redirects_from, undone}
use Rattle.sh_means.specs.Words.{named}
use Rattle.sh_means.specs.Views.{shell_of}
use Rattle.sh_means.proofs.Undone.{descriptors_back, variables_back, positional_back, shell_back, word_back}
use Rattle.sh_means.specs.Weights.{weigh_undo}
use Rattle.sh_compound.proofs.leaving.leave_undo.Goals as goal

pub returns-in_ok-put_back-in-Redirected-clause-talk : goal.returns-in_ok-put_back-in-Redirected-clause-talk
returns-in_ok-put_back-in-Redirected-clause-talk c =
    let e = shell_of c.args.state.now in
    λ k p. ap (λ (u : Undo). undone u k c.args.flow e p) c.in-Redirected.is
    ∙ descriptors_back c.in-Redirected.redirects c.deref.result.now c.in-Redirected.before c.put_back.new.now.value k c.args.flow e p c.deref.ensures (c.in_ok-put_back-in-Redirected.ensures ∙ ap (λ (b : DescriptorTable). put_back (named (redirects_from c.deref.result.now 0)) b e.descriptors) c.deref-in-Redirected.ensures)

pub returns-in_ok-put_back_variables-in-Assigned-clause-talk : goal.returns-in_ok-put_back_variables-in-Assigned-clause-talk
returns-in_ok-put_back_variables-in-Assigned-clause-talk c =
    let e = shell_of c.args.state.now in
    λ k p. ap (λ (u : Undo). undone u k c.args.flow e p) c.in-Assigned.is
    ∙ variables_back c.in-Assigned.assignments c.deref-in-Assigned.result.now c.in-Assigned.before c.put_back_variables.new.now k c.args.flow e p c.deref-in-Assigned.ensures c.in_ok-put_back_variables-in-Assigned.ensures

pub returns-in-Function-clause-talk : goal.returns-in-Function-clause-talk
returns-in-Function-clause-talk c =
    let e = shell_of c.args.state.now in
    λ k p. ap (λ (u : Undo). undone u k c.args.flow e p) c.in-Function.is
    ∙ positional_back c.in-Function.positional c.set_positional.new.self k c.args.flow e p c.set_positional.ensures
    ∙ c.returned.ensures.talk k _ p

pub returns-in-Subshell-clause-talk : goal.returns-in-Subshell-clause-talk
returns-in-Subshell-clause-talk c =
    let e = shell_of c.args.state.now in
    λ k p. ap (λ (u : Undo). undone u k c.args.flow e p) c.in-Subshell.is
    ∙ shell_back c.in-Subshell.saved k c.args.flow e (shell_of c.come_back.new.self) p c.come_back.ensures

pub returns-in-Substitution-clause-talk : goal.returns-in-Substitution-clause-talk
returns-in-Substitution-clause-talk c =
    let e = shell_of c.args.state.now in
    λ k p. ap (λ (u : Undo). undone u k c.args.flow e p) c.in-Substitution.is
    ∙ word_back c.in-Substitution.wording c.in-Substitution.saved k c.args.flow e (shell_of c.come_back-in-Substitution.new.self) p c.come_back-in-Substitution.ensures

pub returns-in_ok-put_back-in-Redirected-clause-weight : goal.returns-in_ok-put_back-in-Redirected-clause-weight
returns-in_ok-put_back-in-Redirected-clause-weight c = omega (arith, ap weigh_undo c.in-Redirected.is)

pub returns-in_ok-put_back_variables-in-Assigned-clause-weight : goal.returns-in_ok-put_back_variables-in-Assigned-clause-weight
returns-in_ok-put_back_variables-in-Assigned-clause-weight c = omega (arith, ap weigh_undo c.in-Assigned.is)

pub returns-in-Function-clause-weight : goal.returns-in-Function-clause-weight
returns-in-Function-clause-weight c = omega (arith, ap weigh_undo c.in-Function.is, c.returned.ensures.weight)

pub returns-in-Script-clause-weight : goal.returns-in-Script-clause-weight
returns-in-Script-clause-weight c = omega (arith, ap weigh_undo c.in-Script.is, c.returned-in-Script.ensures.weight)

pub returns-in-Subshell-clause-weight : goal.returns-in-Subshell-clause-weight
returns-in-Subshell-clause-weight c = omega (arith, ap weigh_undo c.in-Subshell.is)

pub returns-in-Substitution-clause-weight : goal.returns-in-Substitution-clause-weight
returns-in-Substitution-clause-weight c = omega (arith, ap weigh_undo c.in-Substitution.is)
