use Rattle.sh_expand.proofs.NumberLemmas.{spilled}
use Rattle.sh_expand.proofs.decimal.number.Goals as goal

pub returns-in-None : goal.returns-in-None
returns-in-None c = spilled c.args.digits.now c.digits.b-index c.digits.n 18446744073709551616 c.digits-test.true c.digits.invariant c.in-None.ensures
