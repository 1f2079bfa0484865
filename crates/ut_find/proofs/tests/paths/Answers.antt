use Rattle.std.proofs.Common.{length, arith, sym, ap, ◌∙◌, []}
use Rattle.std.proofs.lemmas.List.{get_or_default}
use Rattle.std.proofs.lemmas.List.Sums.{position_or_len_is}
use Rattle.ut_find.specs.Words.{is_dashed}
use Rattle.ut_find.proofs.tests.paths.Goals as goal

pub returns-then-is_dashed-clause-place : goal.returns-then-is_dashed-clause-place
returns-then-is_dashed-clause-place c =
    sym (position_or_len_is is_dashed c.args.words.now c.loop-i.i [] (omega arith) c.loop-i.invariant
    (λ h. ap is_dashed (get_or_default c.args.words.now c.loop-i.i [] c.index-words-i.result h ∙ (sym c.index-words-i.is ∙ sym c.as_slice.ensures)) ∙ (sym c.is_dashed.ensures ∙ c.if-is_dashed.true)))

pub returns-clause-place : goal.returns-clause-place
returns-clause-place c =
    sym (position_or_len_is is_dashed c.args.words.now (length c.args.words.now) [] (omega arith) (λ k h. c.loop-i.invariant k (omega arith)) (λ h. absurd (omega arith)))
