use Rattle.std.proofs.Common.{List, ap, ◌∙◌}
use Rattle.rk_base.specs.Text.{Text}
use Rattle.sh_vars.specs.Held.{Held}
use Rattle.sh_means.specs.Simple.{behind_first}
use Rattle.sh_means.specs.State.{with_held}
use Rattle.sh_means.specs.Stack.{context}
use Rattle.sh_means.specs.Views.{shell_of}
use Rattle.sh_means.proofs.Calling.{called}
use Rattle.sh_simple.proofs.launching.call.Goals as goal

pub returns-clause-talk : goal.returns-clause-talk
returns-clause-talk c =
    let e = shell_of c.args.shell.now.state in
    λ p. called c.args.callee c.args.fields.now c.args.place e _ (context c.args.shell.now.stack.items) (context c.put_undo.new.stack.items) c.in_ok-positional.positional p c.in_ok-put_undo.ensures.talk c.in_ok-positional.ensures
    (ap (λ (vs : Held). with_held vs e) (c.set_positional.ensures ∙ ap (λ (w : List Text). record c.args.shell.now.state.env.vars { positional = w }) (c.in_ok-words.ensures ∙ ap behind_first c.as_slice.ensures)))
    ∙ c.paid.ensures.talk (context c.put_undo.new.stack.items) _ p
