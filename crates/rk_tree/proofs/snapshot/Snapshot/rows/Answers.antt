use Rattle.std.proofs.Common.{sym, ap, ◌∙◌}
use Rattle.std.specs.FinMap.{entries}
use Rattle.rk_tree.specs.Entries.{Entries}
use Rattle.rk_tree.proofs.RowsLemmas.{entries-map_of}
use Rattle.rk_tree.proofs.snapshot.Snapshot.rows.Goals as goal

pub returns : goal.returns
returns c = sym (entries-map_of c.self.inside.rows.entries c.self.invariant) ∙ ap (λ (m : Entries). entries m) c.self.view_is
