use Rattle.std.proofs.Common.{rules, sym}
use Rattle.rk_request.proofs.DecimalLemmas.{number-too_great}
use Rattle.rk_request.proofs.decimal.number.Goals as goal

pub returns-in_default : goal.returns-in_default
returns-in_default c =
    let a = c.args in
    sym (number-too_great _ a.most a.low a.high a.text.now c.in_default.field-0 (search rules) (search rules) c.in_default.ensures.value.0)
