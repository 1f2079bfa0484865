-- Where a path goes when all within a path goes to another place.
use Rattle.std.proofs.Common.{◌≡◌, [], ◌∷◌, ◌++◌, drop, length, Bool, true, false, cond, ◌&&◌, inl, inr, refl, sym, ap, ◌∙◌, append-nil}
use Rattle.std.proofs.lemmas.List.{append_cancel_left, append_assoc}
use Rattle.rk_base.specs.Text.{Text, is_slash, is_root, or_root, stem, parent, join, is_within, moved}
use Rattle.rk_base.specs.Canonical.{is_canonical}
use Rattle.rk_base.proofs.CanonicalLemmas.{both, join-canonical}
use Rattle.rk_base.proofs.PathLemmas.{parent-join}
use Rattle.rk_base.proofs.WithinLemmas.{within-is, within-itself, within-not_root, within-down, within-join, stem-below, drop-front, by_steps}

clash : (b : Bool) → b ≡ true → b ≡ false → ⊥
clash b t f = cc

pub moved-in : (from to path : Text) → is_within from path ≡ true → moved from to path ≡ to ++ drop (length from) path
unfolding moved
moved-in from to path h = ap (λ (b : Bool). cond b (to ++ drop (length from) path) path) h

pub moved-out : (from to path : Text) → is_within from path ≡ false → moved from to path ≡ path
unfolding moved
moved-out from to path h = ap (λ (b : Bool). cond b (to ++ drop (length from) path) path) h

drop-all : (front : Text) → drop (length front) front ≡ []
drop-all [] = refl
drop-all (f ∷ fs) = drop-all fs

pub moved-from : (from to : Text) → moved from to from ≡ to
moved-from from to = moved-in from to from (within-itself from) ∙ ap (λ (t : Text). to ++ t) (drop-all from) ∙ append-nil to

and_false : (b : Bool) → (b && false) ≡ false
and_false true = refl
and_false false = refl

-- a text that begins with a path below the root is no root
longer : (front back : Text) → is_canonical front ≡ true → is_root front ≡ false → is_root (front ++ back) ≡ false
unfolding is_canonical
longer [] back c r = cc
longer (x ∷ []) back c r = absurd (clash _ (ap (λ (b : Bool). b && true) (both (is_slash x) _ c).0) r)
longer (x ∷ y ∷ ys) back c r = and_false (is_slash x)

-- two paths below the root, of which the first goes to the place of the second
module _ (from to : Text) (from_is : is_canonical from ≡ true) (from_below : is_root from ≡ false) (to_is : is_canonical to ≡ true) (to_below : is_root to ≡ false) where
  pub moved-not_root : (path : Text) → is_within from path ≡ true → is_root (moved from to path) ≡ false
  moved-not_root path h = ap is_root (moved-in from to path h) ∙ longer to (drop (length from) path) to_is to_below

  -- a name in a directory goes with the directory
  pub moved-join : (dir name : Text) → is_within from dir ≡ true → moved from to (join dir name) ≡ join (moved from to dir) name
  unfolding join
  moved-join dir name h =
      let is : dir ≡ from ++ drop (length from) dir = within-is from dir from_below h in
      let back : drop (length from) (dir ++ 47 ∷ name) ≡ drop (length from) dir ++ 47 ∷ name =
      ap (λ (t : Text). drop (length from) (t ++ 47 ∷ name)) is ∙ ap (drop (length from)) (append_assoc from (drop (length from) dir) (47 ∷ name)) ∙ drop-front from (drop (length from) dir ++ 47 ∷ name) in
      moved-in from to (join dir name) (within-down from dir name h)
      ∙ ap (λ (t : Text). to ++ drop (length from) (t ++ 47 ∷ name)) (stem-below dir (within-not_root from dir from_is from_below h))
      ∙ ap (λ (t : Text). to ++ t) back ∙ sym (append_assoc to (drop (length from) dir) (47 ∷ name)) ∙ ap (λ (t : Text). t ++ 47 ∷ name) (sym (moved-in from to dir h))
      ∙ ap (λ (t : Text). t ++ 47 ∷ name) (sym (stem-below (moved from to dir) (moved-not_root dir h)))

  pub within-canonical : (path : Text) → is_canonical path ≡ true → is_within from path ≡ true → is_canonical (moved from to path) ≡ true
  within-canonical = by_steps (λ path. is_canonical (moved from to path) ≡ true) from from_is from_below (ap is_canonical (moved-from from to) ∙ to_is)
      (λ dir name d n h is. ap is_canonical (moved-join dir name h) ∙ join-canonical (moved from to dir) name is n)

  pub moved-canonical : (path : Text) → is_canonical path ≡ true → is_canonical (moved from to path) ≡ true
  moved-canonical path c = elim (is_within from path) as (λ (b : Bool). is_within from path ≡ b → is_canonical (moved from to path) ≡ true) [
    | true ↦ λ h. within-canonical path c h
    | false ↦ λ h. ap is_canonical (moved-out from to path h) ∙ c
  ] refl

  -- what goes comes to stand within the new place
  pub moved-within : (path : Text) → is_canonical path ≡ true → is_within from path ≡ true → is_within to (moved from to path) ≡ true
  moved-within = by_steps (λ path. is_within to (moved from to path) ≡ true) from from_is from_below (ap (is_within to) (moved-from from to) ∙ within-itself to)
      (λ dir name d n h is. ap (is_within to) (moved-join dir name h) ∙ within-down to (moved from to dir) name is)

  -- no two paths go to one
  pub moved-apart : (a b : Text) → is_within from a ≡ true → is_within from b ≡ true → moved from to a ≡ moved from to b → a ≡ b
  moved-apart a b h k e =
      within-is from a from_below h ∙ ap (λ (t : Text). from ++ t) (append_cancel_left to _ _ (sym (moved-in from to a h) ∙ e ∙ moved-in from to b k)) ∙ sym (within-is from b from_below k)

  -- nothing goes to what another path holds, unless the new place is there
  pub moved-outside : (above path : Text) → or_root (stem above) ≡ above → is_root (parent above) ≡ true → is_within above to ≡ false → is_canonical path ≡ true → is_within from path ≡ true → is_within above (moved from to path) ≡ false
  moved-outside above path a p out = by_steps (λ path. is_within above (moved from to path) ≡ false) from from_is from_below (ap (is_within above) (moved-from from to) ∙ out)
      (λ dir name d n h is. elim (is_within above (moved from to (join dir name))) as (λ (b : Bool). is_within above (moved from to (join dir name)) ≡ b → b ≡ false) [
        | false ↦ λ e. refl
        | true ↦ λ e. elim (within-join above (moved from to dir) name a (within-canonical dir d h) n (ap (is_within above) (sym (moved-join dir name h)) ∙ e)) [
          | inl same ↦ absurd (clash _ (ap is_root (sym (parent-join (moved from to dir) name (within-canonical dir d h) n) ∙ ap parent same) ∙ p) (moved-not_root dir h))
          | inr within ↦ absurd (clash _ within is)
        ]
      ] refl) path

-- what the code puts together
pub moved-made : (from to path text front at whole back : Text) (holds : Bool) → is_canonical from ≡ true → is_root from ≡ false → is_canonical to ≡ true → is_root to ≡ false → is_canonical path ≡ true → holds ≡ is_within from path → holds ≡ true
    → front ≡ to → at ≡ from → whole ≡ path → back ≡ drop (length at) whole → text ≡ front ++ back → is_canonical text ≡ true
moved-made from to path text front at whole back holds from_is from_below to_is to_below c is h f a w b t =
    let within : is_within from path ≡ true = sym is ∙ h in
    ap is_canonical (t ∙ ap (λ (u : Text). u ++ back) f ∙ ap (λ (u : Text). to ++ u) (b ∙ ap (λ (u : Text). drop (length u) whole) a ∙ ap (drop (length from)) w) ∙ sym (moved-in from to path within))
    ∙ within-canonical from to from_is from_below to_is to_below path c within
