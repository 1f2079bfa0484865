use Rattle.std.proofs.Common.{length, arith, sym, eq-eqb}
use Rattle.std.specs.Prelude.{◌==◌}
use Rattle.std.proofs.lemmas.List.Sums.{position_or_len_is}
use Rattle.ut_args.proofs.form.place.Goals as goal

pub returns-then-b-at-clause-place : goal.returns-then-b-at-clause-place
returns-then-b-at-clause-place c =
    sym (position_or_len_is (λ b. b == c.args.at) c.args.text.now c.loop-i.i 0 (omega arith) c.loop-i.invariant (λ h. eq-eqb _ _ c.if-b-at.true))

pub returns-clause-place : goal.returns-clause-place
returns-clause-place c =
    sym (position_or_len_is (λ b. b == c.args.at) c.args.text.now (length c.args.text.now) 0 (omega arith) (λ k h. c.loop-i.invariant k (omega arith)) (λ h. absurd (omega arith)))
