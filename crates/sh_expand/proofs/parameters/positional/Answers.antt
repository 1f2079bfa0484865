use Rattle.std.proofs.Common.{◌≤◌, arith}
use Rattle.sh_expand.specs.Values.{number}
use Rattle.sh_expand.proofs.NumberLemmas.{past_last}
use Rattle.sh_expand.proofs.parameters.positional.Goals as goal

pub returns-in-None : goal.returns-in-None
returns-in-None c =
    let great : 18446744073709551616 ≤ number c.args.digits.now = c.in-None.ensures in
    past_last c.args.env.now (number c.args.digits.now) (omega (arith, great, c.how_many-count.ensures, c.how_many-count.type_inv))
