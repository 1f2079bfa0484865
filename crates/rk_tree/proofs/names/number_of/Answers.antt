use Rattle.std.proofs.Common.{sym, ◌∙◌}
use Rattle.rk_tree.proofs.NamesLemmas.{get_named}
use Rattle.rk_tree.proofs.names.number_of.Goals as goal

pub returns-in-None : goal.returns-in-None
returns-in-None c = c.in-None.ensures.value ∙ sym (get_named c.args.rows.now.entries c.args.name.now)

pub returns-in-Some : goal.returns-in-Some
returns-in-Some c = c.in-Some.ensures.value ∙ sym (get_named c.args.rows.now.entries c.args.name.now)
