use Rattle.std.proofs.Common.{arith}
use Rattle.ut_select.proofs.FieldLemmas.{fields_more, fields_last}
use Rattle.ut_select.proofs.fields.front_field.Goals as goal

pub returns-then-place-text-clause-cut : goal.returns-then-place-text-clause-cut
returns-then-place-text-clause-cut c = fields_more c.args.at c.args.text.now _ _ (omega (arith, c.place.ensures.place)) c.before-then-place-text.ensures c.after.ensures

pub returns-clause-cut : goal.returns-clause-cut
returns-clause-cut c = fields_last c.args.at c.args.text.now (omega (arith, c.place.ensures.place))
