use Rattle.std.proofs.Common.{ap, ◌∙◌}
use Rattle.std.specs.Result.{is_ok}
use Rattle.sh_means.specs.Views.{functions_of}
use Rattle.sh_means.proofs.Copied.{own_put}
use Rattle.sh_means.proofs.state.put_function.Goals as goal

pub returns : goal.returns
returns c =
    own_put c.args.functions.now.value c.in_ok-own.own.now (c.make_mut.follows.lender c.put.new.self).value c.args.name.now c.args.callee c.in_ok-own.ensures.value
    (ap functions_of (c.make_mut.follows.holds c.put.new.self (ap is_ok c.in_ok-own.was)) ∙ c.in_ok-put.ensures)
