use Rattle.std.proofs.Common.{length, arith, sym, eq-eqb}
use Rattle.rk_base.specs.Text.{is_slash}
use Rattle.std.proofs.lemmas.List.Sums.{position_or_len_is}
use Rattle.ut_files.proofs.operands.component.Goals as goal

pub returns-then-b-eq47-clause-place : goal.returns-then-b-eq47-clause-place
returns-then-b-eq47-clause-place c =
    sym (position_or_len_is is_slash c.args.text.now c.loop-i.i 0 (omega arith) c.loop-i.invariant (λ h. eq-eqb _ _ c.if-b-eq47.true))

pub returns-clause-place : goal.returns-clause-place
returns-clause-place c =
    sym (position_or_len_is is_slash c.args.text.now (length c.args.text.now) 0 (omega arith) (λ k h. c.loop-i.invariant k (omega arith)) (λ h. absurd (omega arith)))
