use Rattle.std.specs.List.{AllByRecursion as Each}
use Rattle.std.proofs.Common.{take}
use Rattle.tr_matching.specs.Groups.{HasStep}
use Rattle.tr_matching.specs.declared.member.Member.{Member}
use Rattle.tr_matching.proofs.common.have_alike.Given as goal

abbrev pub invariant-members : goal.invariant-members
invariant-members l = Each (λ (m : Member). HasStep l.earlier.records l.at l.step m.number) (take l.k l.members)
