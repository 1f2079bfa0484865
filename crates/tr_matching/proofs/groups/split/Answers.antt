use Rattle.std.proofs.Common.{◌≡◌, ◌∙◌, true, List, length, refl, sym, ap, subst}
use Rattle.std.specs.List.{AllByRecursion as Each}
use Rattle.tr_matching.specs.declared.group.Group.{Group}
use Rattle.tr_matching.specs.declared.member.Member.{Member}
use Rattle.tr_matching.specs.Groups.{AreGroups, GoesOn, Grows, IsSplit, group_at}
use Rattle.tr_matching.specs.Parted.{with_parts}
use Rattle.tr_matching.specs.Parting.{AreParts}
use Rattle.tr_matching.proofs.ReadLemmas.{grows_same}
use Rattle.tr_matching.proofs.SplitLemmas.{parted-groups, parted-grows, parted-split, parted-still}
use Rattle.tr_matching.proofs.groups.split.Goals as goal

pub returns-then-group-clause-split : goal.returns-then-group-clause-split
returns-then-group-clause-split c =
    let was : c.group_of-group.result.now.parted ≡ true = cc in
    ((c.requires.groups c.args.g c.requires.here).split (ap (λ (y : Group). y.parted) (sym c.group_of-group.ensures) ∙ was)).1

pub part-requires : goal.part-requires
part-requires c =
    subst (λ (l : List Member). Each (GoesOn c.args.earlier.now c.group_of-group.result.now.alike) l) (sym c.as_slice.ensures)
    (subst (λ (y : Group). Each (GoesOn c.args.earlier.now y.alike) y.members) (sym c.group_of-group.ensures) c.requires.go_on)

pub returns-in_err-set_parts-clause-groups : goal.returns-in_err-set_parts-clause-groups
returns-in_err-set_parts-clause-groups c = subst (AreGroups c.args.earlier.now) (sym c.in_err-set_parts.ensures.err) c.requires.groups

pub returns-in_err-set_parts-clause-grows : goal.returns-in_err-set_parts-clause-grows
returns-in_err-set_parts-clause-grows c = grows_same c.args.groups.now.items c.set_parts.new.groups.items c.in_err-set_parts.ensures.err

pub returns-in_err-set_parts-clause-still : goal.returns-in_err-set_parts-clause-still
returns-in_err-set_parts-clause-still c = ap (λ (l : List Group). (group_at c.args.g l).alike) c.in_err-set_parts.ensures.err

pub returns-clause-groups : goal.returns-clause-groups
returns-clause-groups c =
    let parts = subst (λ (y : Group). AreParts c.args.earlier.now y.alike y.members c.in_ok-parting.parting) c.group_of-group.ensures
    (subst (λ (l : List Member). AreParts c.args.earlier.now c.group_of-group.result.now.alike l c.in_ok-parting.parting) c.as_slice.ensures c.in_ok-parting.ensures) in
    subst (AreGroups c.args.earlier.now) (sym c.in_ok-set_parts.ensures.ok)
    (parted-groups c.args.earlier.now c.args.groups.now.items c.args.g (with_parts (group_at c.args.g c.args.groups.now.items) (length c.args.groups.now.items) c.in_ok-parting.parting) c.in_ok-parting.parting c.requires.groups c.requires.here c.requires.agreed c.requires.go_on parts refl)

pub returns-clause-grows : goal.returns-clause-grows
returns-clause-grows c =
    let parts = subst (λ (y : Group). AreParts c.args.earlier.now y.alike y.members c.in_ok-parting.parting) c.group_of-group.ensures
    (subst (λ (l : List Member). AreParts c.args.earlier.now c.group_of-group.result.now.alike l c.in_ok-parting.parting) c.as_slice.ensures c.in_ok-parting.ensures) in
    subst (Grows c.args.groups.now.items) (sym c.in_ok-set_parts.ensures.ok)
    (parted-grows c.args.earlier.now c.args.groups.now.items c.args.g (with_parts (group_at c.args.g c.args.groups.now.items) (length c.args.groups.now.items) c.in_ok-parting.parting) c.in_ok-parting.parting c.requires.groups c.requires.here c.requires.agreed c.requires.go_on parts refl)

pub returns-clause-still : goal.returns-clause-still
returns-clause-still c =
    let parts = subst (λ (y : Group). AreParts c.args.earlier.now y.alike y.members c.in_ok-parting.parting) c.group_of-group.ensures
    (subst (λ (l : List Member). AreParts c.args.earlier.now c.group_of-group.result.now.alike l c.in_ok-parting.parting) c.as_slice.ensures c.in_ok-parting.ensures) in
    subst (λ (l : List Group). (group_at c.args.g l).alike ≡ (group_at c.args.g c.args.groups.now.items).alike) (sym c.in_ok-set_parts.ensures.ok)
    (parted-still c.args.earlier.now c.args.groups.now.items c.args.g (with_parts (group_at c.args.g c.args.groups.now.items) (length c.args.groups.now.items) c.in_ok-parting.parting) c.in_ok-parting.parting c.requires.groups c.requires.here c.requires.agreed c.requires.go_on parts refl)

pub returns-clause-split : goal.returns-clause-split
returns-clause-split c =
    let parts = subst (λ (y : Group). AreParts c.args.earlier.now y.alike y.members c.in_ok-parting.parting) c.group_of-group.ensures
    (subst (λ (l : List Member). AreParts c.args.earlier.now c.group_of-group.result.now.alike l c.in_ok-parting.parting) c.as_slice.ensures c.in_ok-parting.ensures) in
    subst (λ (l : List Group). IsSplit c.args.earlier.now l (group_at c.args.g l)) (sym c.in_ok-set_parts.ensures.ok)
    (parted-split c.args.earlier.now c.args.groups.now.items c.args.g (with_parts (group_at c.args.g c.args.groups.now.items) (length c.args.groups.now.items) c.in_ok-parting.parting) c.in_ok-parting.parting c.requires.groups c.requires.here c.requires.agreed c.requires.go_on parts refl)
