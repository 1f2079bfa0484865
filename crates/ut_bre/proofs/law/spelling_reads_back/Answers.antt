use Rattle.ut_bre.proofs.SpellLemmas.{each-is-read-back}
use Rattle.ut_bre.proofs.law.spelling_reads_back.Goals as goal

pub returns : goal.returns
returns c = each-is-read-back
