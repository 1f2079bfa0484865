use Rattle.std.proofs.Common.{List, refl, subst}
use Rattle.tr_matching.specs.declared.member.Member.{Member}
use Rattle.tr_matching.specs.Groups.{HaveAlike, numbers_in}
use Rattle.tr_matching.proofs.GroupLemmas.{common-more}
use Rattle.tr_matching.proofs.MemberLemmas.{alike-go_on}
use Rattle.tr_matching.proofs.group.look.Goals as goal

pub advance-requires : goal.advance-requires
advance-requires c =
    alike-go_on c.args.earlier.now c.args.group.now.alike c.args.group.now.members c.requires.common.members
    (subst (λ (l : List Member). HaveAlike c.args.earlier.now.records c.args.group.now.alike (numbers_in l)) c.as_slice.ensures c.in-Some.ensures.1)

pub returns-in-Some-clause-common : goal.returns-in-Some-clause-common
returns-in-Some-clause-common c =
    common-more c.args.earlier.now c.args.group.now _ c.requires.common c.requires.unknown
    (subst (λ (l : List Member). HaveAlike c.args.earlier.now.records c.args.group.now.alike (numbers_in l)) c.as_slice.ensures c.in-Some.ensures.1)
    c.advance.ensures.numbers c.advance.ensures.members c.in-Some.ensures.0 refl
