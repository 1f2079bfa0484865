use Rattle.ut_sed.proofs.TakenLemmas.{each-match-is-taken, each-is-replaced}
use Rattle.ut_sed.proofs.laws.s_replaces_each_match.Goals as goal

pub returns : goal.returns
returns c = record { taken = each-match-is-taken; replaced = each-is-replaced }
