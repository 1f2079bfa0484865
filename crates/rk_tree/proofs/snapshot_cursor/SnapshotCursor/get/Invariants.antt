use Rattle.std.proofs.Common.{◌≡◌, length}
use Rattle.std.specs.Prelude.{All}
use Rattle.std.specs.List.{cons_option}
use Rattle.rk_tree.specs.Rows.{IsRowOf}
use Rattle.rk_tree.proofs.snapshot_cursor.SnapshotCursor.get.Given as goal

abbrev pub invariant-loop-self : goal.invariant-loop-self
invariant-loop-self l = record {
  same : l.self-inside.snapshot.now ≡ l.initial.self-inside.snapshot.now;
  rows : All (IsRowOf l.self-inside.snapshot.now) (cons_option l.self-inside.next l.self-inside.rows);
}

abbrev pub decreases-loop-self : goal.decreases-loop-self
decreases-loop-self l = length (cons_option l.self-inside.next l.self-inside.rows)
