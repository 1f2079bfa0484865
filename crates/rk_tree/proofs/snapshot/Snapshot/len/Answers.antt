use Rattle.std.proofs.Common.{sym, ap, ◌∙◌}
use Rattle.std.specs.FinMap.{len}
use Rattle.rk_tree.specs.Entries.{Entries}
use Rattle.rk_tree.proofs.RowsLemmas.{len-map_of}
use Rattle.rk_tree.proofs.snapshot.Snapshot.len.Goals as goal

pub returns : goal.returns
returns c = c.len.ensures.len ∙ sym (len-map_of c.self.inside.rows.entries c.len.ensures.ordered) ∙ ap (λ (m : Entries). len m) c.self.view_is
