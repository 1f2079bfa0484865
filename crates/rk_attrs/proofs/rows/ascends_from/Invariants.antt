use Rattle.std.proofs.Common.{◌≡◌, drop}
use Rattle.rk_attrs.specs.Rows.{ascend_from}
use Rattle.rk_attrs.proofs.rows.ascends_from.Given as goal

abbrev pub invariant-rows : goal.invariant-rows
invariant-rows l = ascend_from l.last (drop l.path-index l.rows) ≡ ascend_from l.first l.rows
