use Rattle.std.proofs.Common.{take}
use Rattle.tr_matching.specs.Parting.{AreParts}
use Rattle.tr_matching.proofs.parting.part.Given as goal

abbrev pub invariant-members : goal.invariant-members
invariant-members l = AreParts l.earlier l.at (take l.k l.members) l.parting
