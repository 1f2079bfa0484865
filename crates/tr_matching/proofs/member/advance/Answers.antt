use Rattle.std.proofs.Common.{◌∙◌, ◌+◌, ◌<◌, length, sym, ap, subst, arith, rules, take}
use Rattle.std.proofs.lemmas.Grind.{common_steps}
use Rattle.std.proofs.lemmas.List.{get_or_default, take_more_set}
use Rattle.tr_matching.specs.declared.member.Member.{Member}
use Rattle.tr_matching.specs.Groups.{AreMembers, GoesOn, IsMember}
use Rattle.tr_matching.proofs.MemberLemmas.{each-left, each-now, each-push, numbers-set, same-many}
use Rattle.tr_matching.proofs.member.advance.Goals as goal

pub members-preserved : goal.members-preserved
members-preserved c =
    let e = c.args.earlier.now in
    let items = c.members.members.items in
    let m : Member = c.index-member.result.now in
    let next : Member = record { number = c.index-member.result.now.number; rest = c.in-Some.rest } in
    let many = same-many c.members.members.items c.args.members.now.items c.members.invariant.numbers in
    let lt : c.members.k < length c.members.members.items = first_of (search rules, grind (arith, common_steps), omega (arith, many, c.len-k-end.ensures, c.members-test.true)) in
    let on = each-now (GoesOn e c.args.at) items c.members.k m lt c.members.invariant.left c.index-member.ensures in
    record {
      numbers = numbers-set items c.members.k next (ap (λ (y : Member). y.number) (c.index-member.ensures ∙ get_or_default items c.members.k m next lt)) ∙ c.members.invariant.numbers;
      done =
          subst (AreMembers e (c.args.at + 1)) (sym (take_more_set items c.members.k next lt))
          (each-push (IsMember e (c.args.at + 1)) (take c.members.k items) next c.members.invariant.done (record { here = on.0.here; within = (let l = on.1 in omega arith); rest = c.in-Some.ensures.rest }));
      left = each-left (GoesOn e c.args.at) items c.members.k next lt c.members.invariant.left;
    }
