use Rattle.std.proofs.Common.{◌≡◌, drop}
use Rattle.rk_calls.specs.RefMaps.{rise_from}
use Rattle.rk_calls.proofs.refmap.rises_from.Given as goal

abbrev pub invariant-pairs : goal.invariant-pairs
invariant-pairs l = rise_from l.last (drop l.d-index l.pairs) ≡ rise_from l.first l.pairs
