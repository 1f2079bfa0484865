use Rattle.sh_compound.proofs.Entered.{pipes_one, pipes_more}
use Rattle.sh_compound.proofs.commands.pipe.Goals as goal

pub returns-then-is_one : goal.returns-then-is_one
returns-then-is_one c = λ k e p. pipes_one c.args.commands c.deref.result.now c.is_one.result c.args.place k e p c.deref.ensures c.is_one.ensures c.if-is_one.true

pub returns-else-is_one : goal.returns-else-is_one
returns-else-is_one c = λ k e p. pipes_more c.args.commands c.deref.result.now c.is_one.result c.args.place k e p c.deref.ensures c.is_one.ensures c.if-is_one.false
