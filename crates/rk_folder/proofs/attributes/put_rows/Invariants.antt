use Rattle.std.proofs.Common.{◌≡◌, drop}
use Rattle.rk_folder.specs.Attributes.{with_rows}
use Rattle.rk_folder.proofs.attributes.put_rows.Given as goal

abbrev pub invariant-rows : goal.invariant-rows
invariant-rows l = with_rows l.snapshot (drop l.path-index l.rows) ≡ with_rows l.fn.snapshot l.rows
