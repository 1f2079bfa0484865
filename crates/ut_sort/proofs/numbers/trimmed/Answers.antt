use Rattle.std.proofs.Common.{◌∙◌}
use Rattle.ut_sort.proofs.NumberLemmas.{without_zero, with_digit}
use Rattle.ut_sort.proofs.numbers.trimmed.Goals as goal

pub returns-then-last-ne48 : goal.returns-then-last-ne48
returns-then-last-ne48 c = with_digit c.digits.rest.now c.in-len1-up.len_at_least c.if-last-ne48.true ∙ c.digits.invariant

pub digits-preserved : goal.digits-preserved
digits-preserved c = without_zero c.digits.rest.now c.in-len1-up.len_at_least c.if-last-ne48.false ∙ c.digits.invariant
