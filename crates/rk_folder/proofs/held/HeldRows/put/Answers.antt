use Rattle.std.proofs.Common.{ap, ◌∙◌}
use Rattle.rk_tree.proofs.RowsLemmas.{map_of-put}
use Rattle.rk_folder.specs.Told.{Places, with_standing}
use Rattle.rk_folder.proofs.held.HeldRows.put.Goals as goal

pub returns-clause-ok : goal.returns-clause-ok
returns-clause-ok c = ap (λ (m : Places). record { places = m; odd = c.self.inside.odd.items }) (map_of-put c.self.inside.rows.entries c.insert.new.self.entries c.args.path c.args.it c.in_ok-insert.ensures.updates.0) ∙ ap (with_standing c.args.path c.args.it) c.self.view_is
