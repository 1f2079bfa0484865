use Rattle.std.proofs.Common.{sym, ap, ◌∙◌}
use Rattle.std.specs.FinMap.{get}
use Rattle.rk_tree.specs.Entries.{Entries}
use Rattle.rk_tree.proofs.RowsLemmas.{get-map_of}
use Rattle.rk_tree.proofs.snapshot.Snapshot.get.Goals as goal

pub returns : goal.returns
returns c = c.get.ensures.value ∙ sym (get-map_of c.self.inside.rows.entries c.args.path.now) ∙ ap (λ (m : Entries). get m c.args.path.now) c.self.view_is
