use Rattle.std.proofs.Common.{arith, sym, ◌∙◌}
use Rattle.sh_operands.proofs.Values.{stopped, goes_on, ended}
use Rattle.sh_operands.proofs.number.value.Goals as goal

pub returns-in-None : goal.returns-in-None
returns-in-None c = stopped c.args.most c.digits.n c.args.digits.now c.digits.b-index (omega arith) c.digits.invariant.0 c.in-None.ensures

pub returns : goal.returns
returns c = ended c.args.most c.digits.n c.args.digits.now c.digits.b-index c.digits-test.false c.digits.invariant.0 c.digits.invariant.1

pub digits-preserved : goal.digits-preserved
digits-preserved c =
    goes_on c.args.most c.digits.n c.in-Some.more c.args.digits.now c.digits.b-index c.digits-test.true c.digits.invariant.0 (sym c.in-Some.is ∙ c.with_digit.ensures)
