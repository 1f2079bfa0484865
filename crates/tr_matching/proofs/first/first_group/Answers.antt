use Rattle.std.proofs.Common.{◌≡◌, ◌∙◌, ◌<◌, false, length, refl, sym, ap, subst, arith, rules}
use Rattle.tr_matching.specs.declared.group.Group.{Group}
use Rattle.tr_matching.specs.Earlier.{IsRest}
use Rattle.tr_matching.specs.Groups.{numbers_of}
use Rattle.tr_matching.proofs.TalkLemmas.{first-begun, first-groups, first-grows, first-in, first-last, some-in}
use Rattle.tr_matching.proofs.first.first_group.Goals as goal

pub first-requires : goal.first-requires
first-requires c = some-in c.in_ok-members.members c.args.numbers.now c.in_ok-members.ensures.numbers c.requires.some

pub head-start-requires-clause-in_old : goal.head-start-requires-clause-in_old
head-start-requires-clause-in_old c =
    subst (λ i. i < length c.args.earlier.now.records) (sym c.first.ensures)
    (first-in c.args.earlier.now 0 c.in_ok-members.members (some-in c.in_ok-members.members c.args.numbers.now c.in_ok-members.ensures.numbers c.requires.some) c.in_ok-members.ensures.members)

pub returns-clause-groups : goal.returns-clause-groups
returns-clause-groups c =
    let it : Group = record { members = c.in_ok-members.members; alike = 0; agreed = false; start = c.head-start.result; from = 0; parted = false; parts = c.new-parts.result } in
    first-groups c.args.earlier.now it (some-in c.in_ok-members.members c.args.numbers.now c.in_ok-members.ensures.numbers c.requires.some) refl refl refl c.in_ok-members.ensures.members c.args.groups.now.items
    c.push.new.self.items c.requires.groups c.in_ok-push.ensures.items

pub returns-clause-grows : goal.returns-clause-grows
returns-clause-grows c =
    let it : Group = record { members = c.in_ok-members.members; alike = 0; agreed = false; start = c.head-start.result; from = 0; parted = false; parts = c.new-parts.result } in
    first-grows c.args.groups.now.items c.push.new.self.items it c.in_ok-push.ensures.items

pub returns-clause-begun : goal.returns-clause-begun
returns-clause-begun c =
    let it : Group = record { members = c.in_ok-members.members; alike = 0; agreed = false; start = c.head-start.result; from = 0; parted = false; parts = c.new-parts.result } in
    let here : c.len-g.result ≡ length c.args.groups.now.items = first_of (search rules, omega (arith, c.len-g.ensures, c.args.groups.now.ok.0)) in
    first-begun c.args.earlier.now c.args.groups.now.items c.push.new.self.items it c.len-g.result c.in_ok-push.ensures.items here
    (subst (λ i. IsRest c.args.earlier.now i 0 c.head-start.result) c.first.ensures c.head-start.ensures.rest)

pub returns-clause-all : goal.returns-clause-all
returns-clause-all c =
    let it : Group = record { members = c.in_ok-members.members; alike = 0; agreed = false; start = c.head-start.result; from = 0; parted = false; parts = c.new-parts.result } in
    let here : c.len-g.result ≡ length c.args.groups.now.items = first_of (search rules, omega (arith, c.len-g.ensures, c.args.groups.now.ok.0)) in
    ap numbers_of (first-last c.args.groups.now.items c.push.new.self.items it c.len-g.result c.in_ok-push.ensures.items here) ∙ c.in_ok-members.ensures.numbers
