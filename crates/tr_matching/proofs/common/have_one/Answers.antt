use Rattle.std.proofs.Common.{◌≡◌, true, get_or}
use Rattle.tr_record.specs.Rec.{rec_at}
use Rattle.tr_matching.specs.declared.member.Member.{Member}
use Rattle.tr_matching.specs.Left.{next_at}
use Rattle.tr_matching.proofs.EachLemmas.{each-full}
use Rattle.tr_matching.proofs.MemberLemmas.{have-one, one-next}
use Rattle.tr_matching.proofs.common.have_one.Goals as goal

pub returns-then-not-is_alike-clause-torn : goal.returns-then-not-is_alike-clause-torn
returns-then-not-is_alike-clause-torn c =
    λ t s h.
    let e : c.is_alike.result ≡ true = c.is_alike.ensures.1 (one-next c.args.earlier.now.records c.args.at c.args.members.now c.members.k _ _ s c.requires.some c.members-test.true h.0) in
    absurd cc

pub returns-clause-one : goal.returns-clause-one
returns-clause-one c =
    λ t.
    let yes : c.is_dear.result ≡ true = cc in
    have-one c.args.earlier.now.records c.args.at c.args.members.now _ c.requires.some
    (each-full (λ (m : Member). next_at c.args.at (rec_at m.number c.args.earlier.now.records) ≡ next_at c.args.at (rec_at (get_or c.args.members.now 0 _).number c.args.earlier.now.records)) c.args.members.now c.members.k c.members-test.false c.members.invariant)
    (c.is_dear.ensures.0 yes)
