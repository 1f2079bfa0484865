use Rattle.std.proofs.Common.{ap, ◌∙◌}
use Rattle.sh_vars.specs.Held.{Held}
use Rattle.sh_means.specs.Starts.{first_variables}
use Rattle.sh_means.specs.Views.{functions_of}
use Rattle.sh_eval.proofs.Beginning.{begins_so}
use Rattle.sh_eval.proofs.shell.first_state.Goals as goal

pub returns : goal.returns
returns c =
    begins_so c.set_positional.new.self (record (first_variables c.args.vars.now c.args.wd.now) { positional = c.args.words }) c.args.zero c.in_ok-wd.wd c.args.wd.now (functions_of c.in_ok-functions.functions.value) c.in_ok-descriptors.descriptors.value
    (c.set_positional.ensures ∙ ap (λ (h : Held). record h { positional = c.args.words }) c.in_ok-vars.ensures) c.in_ok-wd.ensures.copy (ap functions_of c.in_ok-functions.ensures.ok ∙ c.new.ensures) (c.in_ok-descriptors.ensures.ok ∙ c.own.ensures)
