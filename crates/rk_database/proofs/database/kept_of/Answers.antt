use Rattle.rk_database.proofs.TextLemmas.{told-damaged}
use Rattle.rk_database.proofs.database.kept_of.Goals as goal

pub returns-in-Err-Damaged-clause-refused : goal.returns-in-Err-Damaged-clause-refused
returns-in-Err-Damaged-clause-refused c = told-damaged c.args.db.now _ c.in-Err-Damaged.damage c.in-Err-Damaged.field-0-is c.in-Err-Damaged.ensures.damage c.in-Err-Damaged.ensures.only
