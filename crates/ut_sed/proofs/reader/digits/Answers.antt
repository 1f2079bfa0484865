use Rattle.std.proofs.Common.{arith, sym, ◌∙◌}
use Rattle.std.proofs.lemmas.List.Sums.{prefix_len_is}
use Rattle.ut_sed.specs.Scanning.{is_digit}
use Rattle.ut_sed.proofs.reader.digits.Goals as goal

pub returns-then-not-is_digit-clause-run : goal.returns-then-not-is_digit-clause-run
returns-then-not-is_digit-clause-run c =
    sym (prefix_len_is is_digit c.args.text.now c.digits.at 0 (omega arith) c.digits.invariant.passed (λ h. sym c.is_digit.ensures ∙ c.if-not-is_digit.true))

pub returns-clause-run : goal.returns-clause-run
returns-clause-run c =
    sym (prefix_len_is is_digit c.args.text.now c.digits.at 0 (omega arith) c.digits.invariant.passed (λ h. absurd (omega arith)))
