use Rattle.std.proofs.Common.{◌≡◌, drop}
use Rattle.rk_calls.specs.RefMaps.{number_of}
use Rattle.rk_calls.proofs.refmap.RefMap.number_of.Given as goal

abbrev pub invariant-pairs : goal.invariant-pairs
invariant-pairs l = number_of l.descriptor (drop l.d-index l.d-items) ≡ number_of l.descriptor l.self
