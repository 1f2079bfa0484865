use Rattle.rk_build.proofs.FoundLemmas.{tables-damaged, tables-read}
use Rattle.rk_build.proofs.kept.tables_in.Goals as goal

pub returns-in-Ok : goal.returns-in-Ok
returns-in-Ok c = tables-read c.args.db.now _ c.as_slice.result.now c.in-Ok.kept c.in-Some.is c.as_slice.ensures c.in-Ok.ensures.found c.in-Ok.ensures.only

pub returns-in-Err-Damaged : goal.returns-in-Err-Damaged
returns-in-Err-Damaged c =
    tables-damaged c.args.db.now _ c.as_slice.result.now c.in-Err-Damaged.field-0 c.in-Err-Damaged.damage c.damaged.result c.in-Some.is c.as_slice.ensures c.in-Err-Damaged.field-0-is c.in-Err-Damaged.ensures.damage c.in-Err-Damaged.ensures.only c.damaged.ensures
