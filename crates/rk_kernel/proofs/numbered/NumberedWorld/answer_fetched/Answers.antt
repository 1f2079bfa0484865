use Rattle.rk_kernel.proofs.FromLemmas.{answered-from}
use Rattle.rk_kernel.proofs.LookLemmas.{answered-by}
use Rattle.rk_kernel.proofs.numbered.NumberedWorld.answer_fetched.Goals as goal

pub returns-clause-given : goal.returns-clause-given
returns-clause-given g c = answered-by _ c.args.self.now.world c.look.new.self.world c.answer_id.new.self.world c.args.refs.now _ c.args.call.now _ c.in_ok-look.ensures.full c.in_ok-look.ensures.sees c.in_ok-answer.ensures.given

pub returns-clause-from : goal.returns-clause-from
returns-clause-from g c = answered-from _ c.look.new.self.world c.answer_id.new.self.world c.args.refs.now _ c.args.call.now _ c.in_ok-answer.ensures.given c.in_ok-look.ensures.from
