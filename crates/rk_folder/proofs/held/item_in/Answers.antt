use Rattle.std.proofs.Common.{sym, ◌∙◌}
use Rattle.rk_folder.proofs.HeldLemmas.{item_in-nameless}
use Rattle.rk_folder.proofs.held.item_in.Goals as goal

pub returns-in-None : goal.returns-in-None
returns-in-None c = item_in-nameless c.args.dir.now c.args.path.now c.args.it.now (sym c.in_ok-last.ensures ∙ c.in-None.is)
