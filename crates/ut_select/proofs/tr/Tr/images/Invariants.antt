use Rattle.std.proofs.Common.{◌≡◌, ◌++◌, drop, map}
use Rattle.ut_select.specs.Trs.{image}
use Rattle.ut_select.proofs.tr.Tr.images.Given as goal

abbrev pub invariant-bytes : goal.invariant-bytes
invariant-bytes l = l.output.items ++ map (image l.self.from l.self.to) (drop l.b-index l.text) ≡ map (image l.self.from l.self.to) l.text
