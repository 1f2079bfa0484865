use Rattle.sh_arith.proofs.Texts.{is_or, one_expression, one_fault, not_both}
use Rattle.sh_arith.proofs.laws.one_reading.Goals as goal

pub returns : goal.returns
returns c = record { each = is_or; expression = one_expression; fault = one_fault; not_both = not_both }
