use Rattle.sh_means.proofs.Weighing.{popped_weighs}
use Rattle.sh_means.proofs.stack.pop.Goals as goal

pub returns-clause-weight : goal.returns-clause-weight
returns-clause-weight c = popped_weighs c.pop.result c.args.stack.now.items c.pop.new.self.items c.pop.ensures.items
