use Rattle.std.proofs.Common.{◌≡◌, ◌∙◌, ◌<◌, ℕ, true, List, length, sym, ap, subst, arith, inr}
use Rattle.tr_record.specs.Rec.{rec_at}
use Rattle.tr_matching.specs.declared.group.Group.{Group}
use Rattle.tr_matching.specs.Earlier.{IsRest}
use Rattle.tr_matching.specs.Groups.{first_of, group_at}
use Rattle.tr_matching.specs.Matching.{head_of}
use Rattle.tr_matching.specs.Places.{IsNext, IsNextOf}
use Rattle.tr_matching.proofs.GroupLemmas.{first-here}
use Rattle.tr_matching.proofs.TalkLemmas.{next-is}
use Rattle.tr_matching.proofs.talks.next_from.Goals as goal

pub first-first-requires : goal.first-first-requires
first-first-requires c =
    λ z.
    let h : c.args.place.group < length c.know.new.groups.items = omega (arith, c.know.ensures.grows.more, c.requires.at.here) in
    (c.know.ensures.groups c.args.place.group h).common.some (sym (ap (λ (y : Group). y.members) c.group_of.ensures) ∙ z)

pub next_of-requires-clause-in_old : goal.next_of-requires-clause-in_old
next_of-requires-clause-in_old c =
    let h : c.args.place.group < length c.know.new.groups.items = omega (arith, c.know.ensures.grows.more, c.requires.at.here) in
    let eq : c.first-first.result ≡ first_of (group_at c.args.place.group c.know.new.groups.items) = c.first-first.ensures ∙ ap (λ (y : Group). first_of y) c.group_of.ensures in
    subst (λ i. i < length c.args.earlier.now.records) (sym eq) (first-here c.args.earlier.now (group_at c.args.place.group c.know.new.groups.items) (c.know.ensures.groups c.args.place.group h).common)

pub next_of-requires-clause-rest : goal.next_of-requires-clause-rest
next_of-requires-clause-rest c =
    let eq : c.first-first.result ≡ first_of (group_at c.args.place.group c.know.new.groups.items) = c.first-first.ensures ∙ ap (λ (y : Group). first_of y) c.group_of.ensures in
    subst (λ i. IsRest c.args.earlier.now i c.args.place.at c.args.place.rest) (sym (eq ∙ ap head_of (c.know.ensures.grows.same c.args.place.group c.requires.at.here))) c.requires.at.rest

pub returns-clause-next : goal.returns-clause-next
returns-clause-next c =
    let yes : c.know.result ≡ true = cc in
    let h : c.args.place.group < length c.know.new.groups.items = omega (arith, c.know.ensures.grows.more, c.requires.at.here) in
    let eq : c.first-first.result ≡ first_of (group_at c.args.place.group c.know.new.groups.items) = c.first-first.ensures ∙ ap (λ (y : Group). first_of y) c.group_of.ensures in
    subst (λ (l : List ℕ). IsNext c.args.earlier.now.records c.args.place.at l c.in_ok-next.next) (c.know.ensures.grows.same c.args.place.group c.requires.at.here)
    (next-is c.args.earlier.now (group_at c.args.place.group c.know.new.groups.items) c.args.place.at c.in_ok-next.next (c.know.ensures.groups c.args.place.group h).common (c.know.ensures.known yes)
    (subst (λ i. IsNextOf c.args.place.at (rec_at i c.args.earlier.now.records) c.in_ok-next.next) eq c.in_ok-next.ensures))

pub returns-clause-known : goal.returns-clause-known
returns-clause-known c =
    let yes : c.know.result ≡ true = cc in
    inr (c.know.ensures.known yes)
