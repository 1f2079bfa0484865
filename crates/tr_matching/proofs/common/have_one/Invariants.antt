use Rattle.std.specs.List.{AllByRecursion as Each}
use Rattle.std.proofs.Common.{◌≡◌, take}
use Rattle.tr_record.specs.Rec.{rec_at}
use Rattle.tr_matching.specs.Left.{next_at}
use Rattle.tr_matching.specs.declared.member.Member.{Member}
use Rattle.tr_matching.proofs.common.have_one.Given as goal

abbrev pub invariant-members : goal.invariant-members
invariant-members l =
    Each (λ (m : Member). next_at l.at (rec_at m.number l.earlier.records) ≡ next_at l.at (rec_at l.first.number l.earlier.records)) (take l.k l.members)
