use Rattle.std.proofs.Common.{◌≡◌, ◌∙◌, ap, subst, sym}
use Rattle.std.specs.Prelude.{slice_set}
use Rattle.tr_matching.specs.declared.group.Group.{Group}
use Rattle.tr_matching.specs.Groups.{IsKnown, group_at, numbers_of}
use Rattle.tr_matching.specs.Matching.{AreTorn}
use Rattle.tr_matching.proofs.ReadLemmas.{looked-at, looked-groups, looked-grows, read-group, read-is}
use Rattle.tr_matching.proofs.groups.look_at.Goals as goal

pub look-requires : goal.look-requires
look-requires c = record {
  common = (read-group c.args.earlier.now c.args.groups.now.items c.args.g c.index_mut.result.now c.requires.groups c.requires.here c.index_mut.ensures.value).common;
  unknown = ap (λ (y : Group). y.agreed) (read-is c.args.earlier.now c.args.groups.now.items c.args.g c.index_mut.result.now c.requires.groups c.requires.here c.index_mut.ensures.value) ∙ c.requires.unknown;
}

pub returns : goal.returns
returns c =
    let e = c.args.earlier.now in
    let was : Group = c.index_mut.result.now in
    let now : Group = c.look.new.group in
    let is = read-is e c.args.groups.now.items c.args.g was c.requires.groups c.requires.here c.index_mut.ensures.value in
    let behind : c.index_mut.result.now.alike ≡ c.args.at = ap (λ (y : Group). y.alike) is ∙ sym c.requires.behind in
    let unknown = ap (λ (y : Group). y.agreed) is ∙ c.requires.unknown in
    let l = c.look.ensures in
    let there = looked-at e c.args.groups.now.items c.args.g was c.requires.groups c.requires.here c.index_mut.ensures.value now l.common unknown l.numbers l.alike l.start l.parted in
    record {
      groups = looked-groups e c.args.groups.now.items c.args.g was c.requires.groups c.requires.here c.index_mut.ensures.value now l.common unknown l.numbers l.alike l.start l.parted;
      grows = looked-grows e c.args.groups.now.items c.args.g was c.requires.groups c.requires.here c.index_mut.ensures.value now l.common unknown l.numbers l.alike l.start l.parted;
      known = λ t.
          subst (λ n. IsKnown n (group_at c.args.g (slice_set c.args.groups.now.items c.args.g now))) behind
          (subst (IsKnown c.index_mut.result.now.alike) (sym there) (l.known t));
      torn = λ t.
          subst (λ n. AreTorn e.records n (numbers_of (group_at c.args.g c.args.groups.now.items))) behind
          (subst (λ (y : Group). AreTorn e.records c.index_mut.result.now.alike (numbers_of y)) is (l.torn t));
    }
