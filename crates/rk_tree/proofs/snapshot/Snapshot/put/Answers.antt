use Rattle.std.proofs.Common.{ap, ◌∙◌}
use Rattle.std.specs.FinMap.{insert}
use Rattle.rk_tree.specs.Entries.{Entries}
use Rattle.rk_tree.specs.Node.{Node}
use Rattle.rk_tree.proofs.RowsLemmas.{map_of-put}
use Rattle.rk_tree.proofs.snapshot.Snapshot.put.Goals as goal

pub returns-clause-ok : goal.returns-clause-ok
returns-clause-ok c =
    map_of-put c.self.inside.rows.entries c.insert.new.self.entries c.args.path c.new.result c.in_ok-insert.ensures.updates.0
    ∙ ap (λ (m : Entries). insert m c.args.path c.new.result) c.self.view_is
    ∙ ap (λ (it : Node). insert c.args.self.now c.args.path it) c.new.ensures
