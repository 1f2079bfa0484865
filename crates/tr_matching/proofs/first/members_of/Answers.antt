use Rattle.std.proofs.Common.{◌∙◌, ◌<◌, ◌∷◌, ◌++◌, [], ℕ, List, length, get_or, sym, ap, subst, arith}
use Rattle.std.proofs.lemmas.List.{take_more}
use Rattle.tr_matching.specs.declared.member.Member.{Member}
use Rattle.tr_matching.specs.Groups.{AreMembers, IsMember, numbers_in}
use Rattle.tr_matching.proofs.EachLemmas.{each-at}
use Rattle.tr_matching.proofs.MemberLemmas.{each-push, numbers-push}
use Rattle.tr_matching.proofs.first.members_of.Goals as goal

pub head-rest-requires-clause-in_old : goal.head-rest-requires-clause-in_old
head-rest-requires-clause-in_old c = each-at (λ i. i < length c.args.earlier.now.records) c.args.numbers.now c.numbers.k 0 c.requires.in_old c.numbers-test.true

pub numbers-preserved : goal.numbers-preserved
numbers-preserved c =
    let m : Member = record { number = get_or c.args.numbers.now c.numbers.k 0; rest = c.head-rest.result } in
    let here = each-at (λ i. i < length c.args.earlier.now.records) c.args.numbers.now c.numbers.k 0 c.requires.in_old c.numbers-test.true in
    record {
      numbers =
          ap numbers_in c.in_ok-push.ensures ∙ numbers-push c.numbers.members m ∙ ap (λ (l : List ℕ). l ++ get_or c.args.numbers.now c.numbers.k 0 ∷ []) c.numbers.invariant.numbers
          ∙ sym (take_more c.args.numbers.now c.numbers.k 0 c.numbers-test.true);
      members =
          subst (AreMembers c.args.earlier.now 0) (sym c.in_ok-push.ensures)
          (each-push (IsMember c.args.earlier.now 0) c.numbers.members m c.numbers.invariant.members (record { here = here; within = omega arith; rest = c.head-rest.ensures.rest }));
    }
