-- What is within a path.
use Rattle.std.proofs.Common.{◌≡◌, ◌≤◌, ◌+◌, ℕ, zero, suc, [], ◌∷◌, ◌++◌, drop, length, Bool, true, false, cond, ◌&&◌, ◌||◌, ◌⊎◌, inl, inr, refl, sym, ap, subst, ◌∙◌, eqb, arith, append-nil}
use Rattle.std.proofs.lemmas.Bool.{eqb-true, eq-eqb}
use Rattle.std.proofs.lemmas.Cmp.{tied_itself}
use Rattle.std.proofs.lemmas.List.{take-append-drop}
use Rattle.std.specs.List.{list_any}
use Rattle.std.specs.Ordering.{eq_by_cmp, is_eq}
use Rattle.std.specs.Cmp.{Equal-is}
use Rattle.std.specs.Cmp.Lexicographic.{nat_list_cmp_total, texts_ties}
use Rattle.std.specs.FinMap.{IsAntisymmetric, slice_cmp-IsAntisymmetric, nat_cmp-IsAntisymmetric}
use Rattle.rk_base.specs.Text.{Text, text_cmp, same_text, is_slash, is_root, root, or_root, stem, parent, name_of, join, depth, begins_with, is_within}
use Rattle.rk_base.specs.Canonical.{is_barred, is_name, is_canonical}
use Rattle.rk_base.proofs.CanonicalLemmas.{both, either, name-unbarred}
use Rattle.rk_base.proofs.PathLemmas.{path-is_cut, depth-join}

pub one_of : (a b : Bool) → (a || b) ≡ true → (a ≡ true) ⊎ (b ≡ true)
one_of true b h = inl refl
one_of false b h = inr h

pub or_right : (a b : Bool) → b ≡ true → (a || b) ≡ true
or_right true b h = refl
or_right false b h = h

-- texts that compare alike are one
pub exact_texts : IsAntisymmetric text_cmp
exact_texts = slice_cmp-IsAntisymmetric nat_cmp-IsAntisymmetric

pub same_is : (a b : Text) → same_text a b ≡ true → a ≡ b
same_is a b e = exact_texts a b ((Equal-is (text_cmp a b)).0 (sym (texts_ties a b) ∙ e))

pub ties_itself : (a : Text) → eq_by_cmp text_cmp a a ≡ true
ties_itself a = ap is_eq (tied_itself nat_list_cmp_total a)

pub same_itself : (a : Text) → same_text a a ≡ true
same_itself a = texts_ties a a ∙ ties_itself a

-- Names have no slash.

unbarred : (name : Text) → list_any is_barred name ≡ false → list_any is_slash name ≡ false
unbarred [] h = refl
unbarred (b ∷ bs) h =
    let e = either (is_barred b) (list_any is_barred bs) h in
    ap (λ (s : Bool). s || list_any is_slash bs) (either (is_slash b) _ e.0).0 ∙ unbarred bs e.1

name-unslashed : (name : Text) → is_name name ≡ true → list_any is_slash name ≡ false
name-unslashed name h = unbarred name (name-unbarred name h)

-- what a name is put after gives the directory back
pub stem-back : (dir : Text) → is_canonical dir ≡ true → or_root (stem dir) ≡ dir
unfolding is_canonical
stem-back [] h = cc
stem-back (b ∷ bs) h = elim (is_root (b ∷ bs)) as (λ (r : Bool). is_root (b ∷ bs) ≡ r → or_root (cond r [] (b ∷ bs)) ≡ b ∷ bs) [
  | true ↦ λ e. sym (same_is (b ∷ bs) root e)
  | false ↦ λ e. refl
] refl

-- What is within a path.

slash_begins : (front name : Text) → begins_with name (front ++ 47 ∷ []) ≡ true → list_any is_slash name ≡ true
slash_begins [] [] h = cc
slash_begins [] (n ∷ ns) h = ap (λ (s : Bool). s || list_any is_slash ns) (both (is_slash n) _ h).0
slash_begins (f ∷ fs) [] h = cc
slash_begins (f ∷ fs) (n ∷ ns) h = or_right (is_slash n) _ (slash_begins fs ns (both (eqb n f) _ h).1)

clashes : (b : Bool) → b ≡ true → b ≡ false → ⊥
clashes b t f = cc

begins-join : (front dir name : Text) → list_any is_slash name ≡ false → begins_with (dir ++ 47 ∷ name) (front ++ 47 ∷ []) ≡ true → (front ≡ dir) ⊎ (begins_with dir (front ++ 47 ∷ []) ≡ true)
begins-join [] [] name n h = inl refl
begins-join [] (d ∷ ds) name n h = inr h
begins-join (f ∷ fs) [] name n h = absurd (clashes _ (slash_begins fs name (both (eqb 47 f) _ h).1) n)
begins-join (f ∷ fs) (d ∷ ds) name n h =
    let e = both (eqb d f) (begins_with (ds ++ 47 ∷ name) (fs ++ 47 ∷ [])) h in
    elim (begins-join fs ds name n e.1) [
      | inl same ↦ inl (ap (λ (b : ℕ). b ∷ fs) (sym (eqb-true d f e.0)) ∙ ap (λ (t : Text). d ∷ t) same)
      | inr below ↦ inr (ap (λ (s : Bool). s && begins_with ds (fs ++ 47 ∷ [])) e.0 ∙ below)
    ]

root_begins : (dir front : Text) → begins_with (stem dir) (front ++ 47 ∷ []) ≡ true → stem dir ≡ dir
root_begins dir front h = (elim (is_root dir) as (λ (r : Bool). begins_with (cond r [] dir) (front ++ 47 ∷ []) ≡ true → cond r [] dir ≡ dir) [
  | true ↦ λ e. absurd (nothing front e)
  | false ↦ λ e. refl
]) h where
  nothing : (front : Text) → begins_with [] (front ++ 47 ∷ []) ≡ true → ⊥
  nothing [] e = cc
  nothing (f ∷ fs) e = cc

-- a name in a directory is within a path only where it is that path, or the directory is within it
pub within-join : (above dir name : Text) → or_root (stem above) ≡ above → is_canonical dir ≡ true → is_name name ≡ true → is_within above (join dir name) ≡ true → (join dir name ≡ above) ⊎ (is_within above dir ≡ true)
unfolding is_within join
within-join above dir name a d n h = elim (one_of (same_text (stem dir ++ 47 ∷ name) above) _ h) [
  | inl same ↦ inl (same_is _ above same)
  | inr below ↦ elim (begins-join (stem above) (stem dir) name (name-unslashed name n) below) [
    | inl same ↦ inr (subst (λ (t : Text). (same_text dir t || begins_with dir (stem t ++ 47 ∷ [])) ≡ true) (sym (stem-back dir d) ∙ ap or_root (sym same) ∙ a) (ap (λ (b : Bool). b || begins_with dir (stem dir ++ 47 ∷ [])) (same_itself dir)))
    | inr deep ↦ inr (or_right _ _ (subst (λ (t : Text). begins_with t (stem above ++ 47 ∷ []) ≡ true) (root_begins dir (stem above) deep) deep))
  ]
]

-- What begins with a text.

pub begins-is : (front text : Text) → begins_with text front ≡ true → text ≡ front ++ drop (length front) text
begins-is front text h = sym (take-append-drop (length front) text) ∙ ap (λ (t : Text). t ++ drop (length front) text) (same_is _ front h)

and_assoc : (a b c : Bool) → ((a && b) && c) ≡ (a && (b && c))
and_assoc true b c = refl
and_assoc false b c = refl

pub begins-append : (front text back : Text) → begins_with text (front ++ back) ≡ (begins_with text front && begins_with (drop (length front) text) back)
begins-append [] text back = refl
begins-append (f ∷ fs) [] back = refl
begins-append (f ∷ fs) (t ∷ ts) back = ap (λ (b : Bool). eqb t f && b) (begins-append fs ts back) ∙ sym (and_assoc (eqb t f) _ _)

eqb_itself : (n : ℕ) → eqb n n ≡ true
eqb_itself n = eq-eqb n n refl

pub begins-front : (front back : Text) → begins_with (front ++ back) front ≡ true
begins-front [] back = refl
begins-front (f ∷ fs) back = ap (λ (b : Bool). b && begins_with (fs ++ back) fs) (eqb_itself f) ∙ begins-front fs back

begins-more : (front text more : Text) → begins_with text front ≡ true → begins_with (text ++ more) front ≡ true
begins-more [] text more h = refl
begins-more (f ∷ fs) [] more h = cc
begins-more (f ∷ fs) (t ∷ ts) more h =
    let e = both (eqb t f) (begins_with ts fs) h in
    ap (λ (b : Bool). b && begins_with (ts ++ more) fs) e.0 ∙ begins-more fs ts more e.1

pub drop-front : (front back : Text) → drop (length front) (front ++ back) ≡ back
drop-front [] back = refl
drop-front (f ∷ fs) back = drop-front fs back

begins_slash : (front : Text) → begins_with (47 ∷ []) (front ++ 47 ∷ []) ≡ true → front ≡ []
begins_slash [] h = refl
begins_slash (f ∷ []) h = absurd (clashes _ (both (eqb 47 f) false h).1 refl)
begins_slash (f ∷ g ∷ fs) h = absurd (clashes _ (both (eqb 47 f) false h).1 refl)

-- Within.

pub within-itself : (path : Text) → is_within path path ≡ true
unfolding is_within
within-itself path = ap (λ (b : Bool). b || begins_with path (stem path ++ 47 ∷ [])) (same_itself path)

pub is_the_root : (path : Text) → is_root path ≡ true → path ≡ root
is_the_root path h = same_is path root h

pub stem-below : (path : Text) → is_root path ≡ false → stem path ≡ path
stem-below path h = ap (λ (b : Bool). cond b [] path) h

pub stem-root : (path : Text) → is_root path ≡ true → stem path ≡ []
stem-root path h = ap (λ (b : Bool). cond b [] path) h

-- what stands below a path doesn't end at once
pub below-within : (above path : Text) → is_root above ≡ false → begins_with path (above ++ 47 ∷ []) ≡ true → is_within above path ≡ true
unfolding is_within
below-within above path r h = or_right (same_text path above) _ (ap (λ (t : Text). begins_with path (t ++ 47 ∷ [])) (stem-below above r) ∙ h)

pub within-begins : (above path : Text) → is_root above ≡ false → is_within above path ≡ true → begins_with path above ≡ true
unfolding is_within
within-begins above path r h = elim (one_of (same_text path above) _ h) [
  | inl same ↦ ap (λ (t : Text). begins_with t above) (same_is path above same ∙ sym (append-nil above)) ∙ begins-front above []
  | inr below ↦ (both (begins_with path above) _ (sym (begins-append above path (47 ∷ [])) ∙ ap (λ (t : Text). begins_with path (t ++ 47 ∷ [])) (sym (stem-below above r)) ∙ below)).0
]

pub within-is : (above path : Text) → is_root above ≡ false → is_within above path ≡ true → path ≡ above ++ drop (length above) path
within-is above path r h = begins-is above path (within-begins above path r h)

canonical_some : is_canonical [] ≡ true → ⊥
unfolding is_canonical
canonical_some h = cc

pub within-not_root : (above path : Text) → is_canonical above ≡ true → is_root above ≡ false → is_within above path ≡ true → is_root path ≡ false
unfolding is_within
within-not_root above path c r h = elim (is_root path) as (λ (b : Bool). is_root path ≡ b → b ≡ false) [
  | false ↦ λ e. refl
  | true ↦ λ e. elim (one_of (same_text path above) _ h) [
    | inl same ↦ absurd (clashes _ (ap is_root (sym (same_is path above same)) ∙ e) r)
    | inr below ↦ absurd (canonical_some (ap is_canonical (sym (begins_slash above (ap (λ (t : Text). begins_with t (above ++ 47 ∷ [])) (sym (is_the_root path e)) ∙ ap (λ (t : Text). begins_with path (t ++ 47 ∷ [])) (sym (stem-below above r)) ∙ below))) ∙ c))
  ]
] refl

-- what is in a directory within a path is within it
pub within-down : (above dir name : Text) → is_within above dir ≡ true → is_within above (join dir name) ≡ true
unfolding is_within join
within-down above dir name h = or_right (same_text (stem dir ++ 47 ∷ name) above) _ (elim (one_of (same_text dir above) _ h) [
  | inl same ↦ ap (λ (t : Text). begins_with (stem t ++ 47 ∷ name) (stem above ++ 47 ∷ [])) (same_is dir above same) ∙ at_slash (stem above)
  | inr below ↦ elim (is_root dir) as (λ (b : Bool). is_root dir ≡ b → begins_with (cond b [] dir ++ 47 ∷ name) (stem above ++ 47 ∷ []) ≡ true) [
    | true ↦ λ e. ap (λ (t : Text). begins_with (47 ∷ name) (t ++ 47 ∷ [])) (begins_slash (stem above) (ap (λ (t : Text). begins_with t (stem above ++ 47 ∷ [])) (sym (is_the_root dir e)) ∙ below))
    | false ↦ λ e. begins-more (stem above ++ 47 ∷ []) dir (47 ∷ name) below
  ] refl
]) where
  at_slash : (front : Text) → begins_with (front ++ 47 ∷ name) (front ++ 47 ∷ []) ≡ true
  at_slash [] = refl
  at_slash (f ∷ fs) = ap (λ (b : Bool). b && begins_with (fs ++ 47 ∷ name) (fs ++ 47 ∷ [])) (eqb_itself f) ∙ at_slash fs

-- what holds of a path, and in each directory within it that it holds of holds of each name, holds of all within it
module _ (P : Text → Type 0) (above : Text) (c : is_canonical above ≡ true) (r : is_root above ≡ false) (here : P above) (step : (dir name : Text) → is_canonical dir ≡ true → is_name name ≡ true → is_within above dir ≡ true → P dir → P (join dir name)) where
  by_depth : (k : ℕ) (path : Text) → depth path ≤ k → is_canonical path ≡ true → is_within above path ≡ true → P path
  by_depth zero path d p h =
      let it = path-is_cut path p (within-not_root above path c r h) in
      let deeper : depth path ≡ depth (parent path) + 1 = ap depth (sym it.whole) ∙ depth-join (parent path) (name_of path) it.name in
      absurd (omega (arith, deeper, d))
  by_depth (suc k) path d p h =
      let it = path-is_cut path p (within-not_root above path c r h) in
      let deeper : depth path ≡ depth (parent path) + 1 = ap depth (sym it.whole) ∙ depth-join (parent path) (name_of path) it.name in
      elim (within-join above (parent path) (name_of path) (stem-back above c) it.dir it.name (ap (is_within above) it.whole ∙ h)) [
        | inl same ↦ subst P (sym same ∙ it.whole) here
        | inr within ↦ subst P it.whole (step (parent path) (name_of path) it.dir it.name within (by_depth k (parent path) (omega (arith, deeper, d)) it.dir within))
      ]

  pub by_steps : (path : Text) → is_canonical path ≡ true → is_within above path ≡ true → P path
  by_steps path = by_depth (depth path) path (omega arith)
