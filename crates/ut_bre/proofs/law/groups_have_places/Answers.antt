use Rattle.ut_bre.proofs.Numbered.{each-group-has-its-place}
use Rattle.ut_bre.proofs.law.groups_have_places.Goals as goal

pub returns : goal.returns
returns c = each-group-has-its-place
