use Rattle.std.proofs.Common.{length, arith, sym}
use Rattle.std.proofs.lemmas.Bool.{not_from_false, ne_eqb}
use Rattle.ut_files.specs.Operands.{is_other}
use Rattle.std.proofs.lemmas.List.Sums.{position_or_len_is}
use Rattle.ut_files.proofs.operands.slashes.Goals as goal

pub returns-then-b-ne47-clause-place : goal.returns-then-b-ne47-clause-place
returns-then-b-ne47-clause-place c =
    sym (position_or_len_is is_other c.args.text.now c.loop-i.i 0 (omega arith) c.loop-i.invariant (λ h. not_from_false _ (ne_eqb _ _ c.if-b-ne47.true)))

pub returns-clause-place : goal.returns-clause-place
returns-clause-place c =
    sym (position_or_len_is is_other c.args.text.now (length c.args.text.now) 0 (omega arith) (λ k h. c.loop-i.invariant k (omega arith)) (λ h. absurd (omega arith)))
