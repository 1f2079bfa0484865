use Rattle.rk_changes.proofs.AttributesLemmas.{rows-keep, plain-held, built-held}
use Rattle.rk_changes.proofs.attributes.rows_keep.Goals as goal

pub returns-clause-keep : goal.returns-clause-keep
returns-clause-keep c = rows-keep

pub returns-clause-plain : goal.returns-clause-plain
returns-clause-plain c = plain-held

pub returns-clause-built : goal.returns-clause-built
returns-clause-built c = built-held
