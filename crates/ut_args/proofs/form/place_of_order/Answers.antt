use Rattle.std.proofs.Common.{length, arith, sym, ◌∙◌}
use Rattle.std.proofs.lemmas.List.Sums.{position_or_len_is}
use Rattle.ut_args.specs.Forms.{is_order}
use Rattle.ut_args.proofs.form.place_of_order.Goals as goal

pub returns-then-is_order-clause-place : goal.returns-then-is_order-clause-place
returns-then-is_order-clause-place c =
    sym (position_or_len_is is_order c.args.text.now c.loop-i.i 0 (omega arith) c.loop-i.invariant (λ h. sym c.is_order.ensures ∙ c.if-is_order.true))

pub returns-clause-place : goal.returns-clause-place
returns-clause-place c =
    sym (position_or_len_is is_order c.args.text.now (length c.args.text.now) 0 (omega arith) (λ k h. c.loop-i.invariant k (omega arith)) (λ h. absurd (omega arith)))
