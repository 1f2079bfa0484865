use Rattle.sh_operands.proofs.Capping.{capped_next, capped_done, capped_within}
use Rattle.sh_operands.proofs.count.value.Goals as goal

pub returns : goal.returns
returns c =
    capped_done 18446744073709551615 c.digits.n c.args.digits.now c.digits.b-index c.digits-test.false c.digits.invariant.1 c.digits.invariant.0

pub digits-preserved : goal.digits-preserved
digits-preserved c =
    (capped_next 18446744073709551615 c.digits.n c.with_digit-n.result c.args.digits.now c.digits.b-index c.digits-test.true c.with_digit-n.ensures c.digits.invariant.0, capped_within 18446744073709551615 _ c.with_digit-n.result c.with_digit-n.ensures)
