use Rattle.std.proofs.Common.{◌≡◌, ◌&&◌, drop}
use Rattle.std.specs.List.{list_all}
use Rattle.rk_base.specs.Canonical.{is_name}
use Rattle.rk_base.specs.Names.{ascend_from}
use Rattle.rk_base.proofs.names.ascends_from.Given as goal

abbrev pub invariant-names : goal.invariant-names
invariant-names l = (list_all is_name (drop l.name-index l.names) && ascend_from l.last (drop l.name-index l.names)) ≡ (list_all is_name l.names && ascend_from l.first l.names)
