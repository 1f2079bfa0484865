-- Groups that are read, and looked at.
use Rattle.std.proofs.Common.{◌≡◌, ℕ, ◌≤◌, ◌<◌, true, false, List, ◌++◌, length, get_or, sym, ◌∙◌, ap, subst, arith, length-append}
use Rattle.std.specs.Prelude.{slice_set}
use Rattle.std.proofs.Math.ListN.{get_or-append}
use Rattle.std.proofs.lemmas.List.{get_or_default, get_or-set_same, set-get_or}
use Rattle.tr_matching.specs.declared.group.Group.{Group}
use Rattle.tr_matching.specs.Earlier.{EarlierRecords}
use Rattle.tr_matching.specs.Groups.{AreGroups, Grows, IsCommon, IsGroup, IsKnown, group_at, no_group, numbers_of}
use Rattle.tr_matching.proofs.GroupLemmas.{grows-itself, grows-set, groups-set}
use Rattle.tr_matching.proofs.KnownLemmas.{known-more}

module _ (e : EarlierRecords) (groups : List Group) (g : ℕ) (it : Group) (a : AreGroups e groups) (h : g < length groups) (read : it ≡ get_or groups g it) where
  pub read-is : it ≡ group_at g groups
  read-is = read ∙ get_or_default groups g it no_group h

  pub read-group : IsGroup e groups it
  read-group = subst (IsGroup e groups) (sym read-is) (a g h)

  -- one that stays as it is
  pub read-same : slice_set groups g it ≡ groups
  read-same = ap (slice_set groups g) read ∙ set-get_or groups g it

  -- one of which more is known
  module _ (now : Group) (c : IsCommon e now) (unknown : it.agreed ≡ false) (numbers : numbers_of now ≡ numbers_of it) (alike : it.alike ≤ now.alike) (start : now.start ≡ it.start) (parted : now.parted ≡ it.parted) where
    pub looked-grows : Grows groups (slice_set groups g now)
    looked-grows =
        grows-set groups g now h (numbers ∙ ap numbers_of read-is)
        (let x : it.alike ≡ (group_at g groups).alike = ap (λ (y : Group). y.alike) read-is in omega arith)
        (start ∙ ap (λ (y : Group). y.start) read-is)
        (λ at k. known-more it now unknown alike at (subst (IsKnown at) (sym read-is) k))

    pub looked-groups : AreGroups e (slice_set groups g now)
    looked-groups =
        groups-set e groups g now a h looked-grows c
        (λ z. let t = (read-group.split (sym parted ∙ z)).0 in let f : false ≡ true = sym unknown ∙ t in absurd cc)

    pub looked-at : group_at g (slice_set groups g now) ≡ now
    looked-at = get_or-set_same groups g now no_group h

-- a group that is read behind the others
pub read-front : (groups more : List Group) (g : ℕ) (it : Group) → g < length groups → it ≡ get_or (groups ++ more) g it → it ≡ group_at g groups
read-front groups more g it h read =
    read ∙ get_or_default (groups ++ more) g it no_group (let y = length-append groups more in omega arith) ∙ get_or-append groups more no_group g h

-- groups that stay as they are
pub grows_same : (before now : List Group) → now ≡ before → Grows before now
grows_same before now e = subst (Grows before) (sym e) (grows-itself before)
