use Rattle.std.proofs.Common.{sym, ap, ◌∙◌}
use Rattle.rk_folder.specs.Told.{Held, standing}
use Rattle.rk_tree.proofs.RowsLemmas.{get-map_of}
use Rattle.rk_folder.proofs.held.HeldRows.at.Goals as goal

pub returns : goal.returns
returns c = c.get.ensures.value ∙ sym (get-map_of c.self.inside.rows.entries c.args.path.now) ∙ ap (λ (h : Held). standing h c.args.path.now) c.self.view_is
