use Rattle.sh_means.specs.declared.control.Frame.TheVariants.{Continuation}
use Rattle.sh_means.proofs.Weighing.{pushed_weighs}
use Rattle.sh_means.proofs.stack.put_continuation.Goals as goal

pub returns-clause-weight : goal.returns-clause-weight
returns-clause-weight c = pushed_weighs c.args.stack.now.items c.push.new.self.items (Continuation c.args.frame) c.in_ok-push.ensures.items
