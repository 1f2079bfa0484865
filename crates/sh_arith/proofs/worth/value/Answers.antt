use Rattle.sh_arith.proofs.Valued.{valued}
use Rattle.sh_arith.proofs.worth.value.Goals as goal

pub returns-in-Ok : goal.returns-in-Ok
returns-in-Ok g c = valued c.args.nounset c.args.text.now c.as_slice.result.now c.in-Ok.steps.items _ _ c.evaluate.result c.as_slice.ensures.value c.in-Ok.ensures.ok c.evaluate.ensures
