use Rattle.std.proofs.Common.{rules, ap, ◌≡◌}
use Rattle.rk_plan.specs.Retracing.{Command}
use Rattle.rk_plan.proofs.RetraceLemmas.{call-so, call-left, after_call}
use Rattle.rk_plan.proofs.retrace.Retrace.call.Goals as goal

pub returns : goal.returns
returns g c =
    let is : c.resume.new.self ≡ after_call c.args.self.now c.args.command c.answer.new.refs c.answer.new.world.world = search rules in
    record {
      called =
          call-so (g.G.Fetch.told c.args.fetch.now) c.args.self.now c.resume.new.self c.args.command c.command.inside.owner c.answer.new.refs
          c.answer.new.world.world c.args.call.now c.in_ok-foot.foot (ap (λ (it : Command). it.owner) c.command.view_is)
          (λ key map e. c.in_default.not-Launch key map e) (search rules) (search rules) is;
      left = call-left c.args.self.now c.resume.new.self c.args.command c.answer.new.refs c.answer.new.world.world is;
      table = search rules;
      from = search rules;
      told = search rules;
      keeps = search rules;
      stays = search rules;
      steady = search rules;
      caused = search rules;
    }
