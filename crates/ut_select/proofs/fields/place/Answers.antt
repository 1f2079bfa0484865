use Rattle.ut_select.proofs.FieldLemmas.{place_none, place_some}
use Rattle.ut_select.proofs.fields.place.Goals as goal

pub returns-in-None-clause-place : goal.returns-in-None-clause-place
returns-in-None-clause-place c = place_none c.args.at c.args.text.now c.in-None.ensures

pub returns-in-Some-clause-place : goal.returns-in-Some-clause-place
returns-in-Some-clause-place c = place_some c.args.at c.args.text.now _ c.in-Some.ensures.0.high c.in-Some.ensures.0.before c.in-Some.ensures.1
