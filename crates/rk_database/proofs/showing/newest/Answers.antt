use Rattle.std.proofs.Common.{◌∙◌, sym}
use Rattle.rk_database.proofs.TextLemmas.{newest, no-table}
use Rattle.rk_database.proofs.showing.newest.Goals as goal

pub returns-in-Some : goal.returns-in-Some
returns-in-Some c = c.as_slice.ensures.value ∙ newest c.args.kept.now c.in-Some.table.now c.in-Some.ensures

pub returns-in-None : goal.returns-in-None
returns-in-None c = sym (no-table c.args.kept.now c.in-None.ensures)
