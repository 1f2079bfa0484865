use Rattle.tr_kept.proofs.KeptSealLemmas.{one_kept, apart_from_table, apart_from_old, earlier_apart}
use Rattle.tr_kept.proofs.laws.one_kept.Goals as goal

pub returns-clause-one : goal.returns-clause-one
returns-clause-one c = one_kept

pub returns-clause-table : goal.returns-clause-table
returns-clause-table c = apart_from_table

pub returns-clause-old : goal.returns-clause-old
returns-clause-old c = apart_from_old

pub returns-clause-earlier : goal.returns-clause-earlier
returns-clause-earlier c = earlier_apart
