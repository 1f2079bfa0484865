use Rattle.std.proofs.Common.{ap}
use Rattle.rk_kernel.proofs.NumberLemmas.{asked}
use Rattle.rk_kernel.proofs.numbered.NumberedWorld.asks.Goals as goal

pub invariant_of-self-2 : goal.invariant_of-self-2
invariant_of-self-2 c =
    asked c.self.inside.world c.answer.new.self c.args.refs.now _ c.args.call.now _ c.self.inside.contents c.self.inside.numbers.items _ _ _
    c.self.invariant c.file_changed-changed.ensures (ap (λ v. v.items) c.replace-numbers.ensures.value) c.without_number.ensures c.in_ok-answer.ensures.given
