-- What is within a directory.
use Rattle.std.proofs.Common.{zero, suc, ◌≡◌, ◌≤◌, ◌⊎◌, inl, inr, ℕ, [], ◌∷◌, ◌++◌, append_assoc, length, drop, Bool, true, false, ◌&&◌, ◌||◌, arith, refl, sym, ap, ◌∙◌, cond, eqb}
use Rattle.std.proofs.Math.Seq.{take-append_seam}
use Rattle.std.proofs.lemmas.List.{take-append-drop}
use Rattle.rk_base.specs.Text.{Text, root, is_root, join, stem, parent, name_of, is_within, is_slash, begins_with, same_text, depth}
use Rattle.rk_base.specs.Canonical.{is_canonical, is_name}
use Rattle.rk_base.proofs.CanonicalLemmas.{both, join-canonical}
use Rattle.rk_base.proofs.PathLemmas.{IsCut, path-is_cut, depth-is_in, join-not_root}
use Rattle.rk_tree.proofs.TextLemmas.{same_is, same_itself, one_of, or_right, stem-back, hidden-back, within-join}
use Rattle.rk_folder.specs.Told.{Held, standing, is_nothing}
use Rattle.rk_folder.specs.Whole.{IsWhole}
use Rattle.rk_folder.specs.Hidden.{hidden_dir}
use Rattle.rk_folder.proofs.HeldLemmas.{dir_there}
use Rattle.rk_folder.proofs.WholeLemmas.{is_below}
use Rattle.rk_folder.proofs.OrderLemmas.{joined, within-tail}

pub within-itself : (path : Text) → is_within path path ≡ true
unfolding is_within
within-itself path = ap (λ (b : Bool). b || begins_with path (stem path ++ 47 ∷ [])) (same_itself path)

-- all is within the root
pub within-root : (path : Text) → is_canonical path ≡ true → is_within root path ≡ true
unfolding is_within is_canonical
within-root [] c = cc
within-root (b ∷ bs) c = or_right (same_text (b ∷ bs) root) _ (ap (λ (s : Bool). s && true) (both (is_slash b) _ c).0)

begins-append : (front more : Text) → begins_with (front ++ more) front ≡ true
begins-append front more = ap (λ (t : Text). same_text t front) (take-append_seam front more) ∙ same_itself front

-- what stands in a directory within a path is within it too
within_below : (above dir name : Text) → is_root dir ≡ false → is_within above dir ≡ true → is_within above (join dir name) ≡ true
unfolding is_within join
within_below above dir name r h =
    let out : stem dir ≡ dir = ap (λ (b : Bool). cond b [] dir) r in
    or_right (same_text (stem dir ++ 47 ∷ name) above) _ (elim (one_of (same_text dir above) _ h) [
      | inl same ↦ ap (λ (t : Text). begins_with (stem dir ++ 47 ∷ name) (stem t ++ 47 ∷ [])) (sym (same_is dir above same))
          ∙ ap (λ (t : Text). begins_with t (stem dir ++ 47 ∷ [])) (sym (append_assoc (stem dir) (47 ∷ []) name)) ∙ begins-append (stem dir ++ 47 ∷ []) name
      | inr below ↦
          let front : Text = stem above ++ 47 ∷ [] in
          let whole : dir ≡ front ++ drop (length front) dir = sym (take-append-drop (length front) dir) ∙ ap (λ (t : Text). t ++ drop (length front) dir) (same_is _ front below) in
          ap (λ (t : Text). begins_with (t ++ 47 ∷ name) front) (out ∙ whole)
          ∙ ap (λ (t : Text). begins_with t front) (append_assoc front (drop (length front) dir) (47 ∷ name)) ∙ begins-append front (drop (length front) dir ++ 47 ∷ name)
    ])

nothing_begins : (front : Text) → begins_with [] (front ++ 47 ∷ []) ≡ true → ⊥
nothing_begins [] h = cc
nothing_begins (f ∷ fs) h = cc

root_begins : (above : Text) → is_canonical above ≡ true → begins_with root (above ++ 47 ∷ []) ≡ true → ⊥
unfolding is_canonical
root_begins [] c h = cc
root_begins (b ∷ bs) c h = nothing_begins bs (both (eqb 47 b) (begins_with [] (bs ++ 47 ∷ [])) h).1

-- only the root is above the root
pub above_root : (above : Text) → is_canonical above ≡ true → is_within above root ≡ true → above ≡ root
unfolding is_within
above_root above c h = elim (one_of (same_text root above) _ h) [
  | inl same ↦ sym (same_is root above same)
  | inr below ↦ (elim (is_root above) as (λ (b : Bool). is_root above ≡ b → begins_with root (cond b [] above ++ 47 ∷ []) ≡ true → above ≡ root) [
    | true ↦ λ r k. same_is above root r
    | false ↦ λ r k. absurd (root_begins above c k)
  ]) refl below
]

pub within-child : (above dir name : Text) → is_canonical above ≡ true → is_canonical dir ≡ true → is_name name ≡ true → is_within above dir ≡ true → is_within above (join dir name) ≡ true
within-child above dir name a d n h = elim (is_root dir) as (λ (b : Bool). is_root dir ≡ b → is_within above (join dir name) ≡ true) [
  | true ↦ λ r.
      let top : above ≡ root = above_root above a (ap (is_within above) (sym (same_is dir root r)) ∙ h) in
      ap (λ (t : Text). is_within t (join dir name)) top ∙ within-root (join dir name) (join-canonical dir name d n)
  | false ↦ λ r. within_below above dir name r h
] refl

-- what is within a name of a directory is within the directory
pub within-parent : (dir name path : Text) → is_name name ≡ true → is_within (join dir name) path ≡ true → is_within dir path ≡ true
unfolding is_within
within-parent dir name path n h =
    let t = within-tail (join dir name) path (join-not_root dir name n) h in
    or_right (same_text path dir) _ (ap (λ (x : Text). begins_with x (stem dir ++ 47 ∷ [])) (t.1 ∙ joined dir name t.0) ∙ begins-append (stem dir ++ 47 ∷ []) (name ++ t.0))

-- a name in a directory that isn't within the hidden one isn't either, but for the hidden one itself
pub seen-child : (dir name : Text) → is_canonical dir ≡ true → is_name name ≡ true → is_within hidden_dir dir ≡ false → same_text (join dir name) hidden_dir ≡ false → is_within hidden_dir (join dir name) ≡ false
seen-child dir name d n seen other = elim (is_within hidden_dir (join dir name)) as (λ (b : Bool). is_within hidden_dir (join dir name) ≡ b → b ≡ false) [
  | true ↦ λ h. elim (within-join hidden_dir dir name hidden-back d n h) [
    | inl same ↦ absurd (clash _ (ap (λ (t : Text). same_text t hidden_dir) same ∙ same_itself hidden_dir) other)
    | inr above ↦ absurd (clash _ above seen)
  ]
  | false ↦ λ h. refl
] refl where
  clash : (b : Bool) → b ≡ true → b ≡ false → ⊥
  clash b t f = cc

-- What stands within a directory is the directory, or within a name that stands in it.

-- such a name
pub record IsOver (held : Held) (dir path name : Text) : Type 0 where
  pub named : is_name name ≡ true
  pub stands : is_nothing (standing held (join dir name)) ≡ false
  pub within : is_within (join dir name) path ≡ true

top_case : (dir path : Text) → is_canonical dir ≡ true → is_root path ≡ true → is_within dir path ≡ true → path ≡ dir
top_case dir path d r h =
    let is : path ≡ root = same_is path root r in
    is ∙ sym (above_root dir d (ap (is_within dir) (sym is) ∙ h))

abbrev pub Over : Held → Text → Text → Type 0
Over held dir path = (path ≡ dir) ⊎ ((name : Text) × IsOver held dir path name)

-- by what the parent is within
over_parent : (held : Held) (dir path : Text) → is_canonical dir ≡ true → IsCut path → is_nothing (standing held path) ≡ false → Over held dir (parent path) → Over held dir path
over_parent held dir path d cut stands up = elim up [
  | inl same ↦
      let is : join dir (name_of path) ≡ path = ap (λ (t : Text). join t (name_of path)) (sym same) ∙ cut.whole in
      inr (
        name_of path,
        record {
          named = cut.name;
          stands = ap (λ (t : Text). is_nothing (standing held t)) is ∙ stands;
          within = ap (λ (t : Text). is_within t path) is ∙ within-itself path;
        },
      )
  | inr found ↦ inr (
    found.0,
    record {
      named = found.1.named;
      stands = found.1.stands;
      within = ap (is_within (join dir found.0)) (sym cut.whole) ∙ within-child (join dir found.0) (parent path) (name_of path) (join-canonical dir found.0 d found.1.named) cut.dir cut.name found.1.within;
    },
  )
]

pub over : (n : ℕ) (held : Held) (dir path : Text) → depth path ≤ n → IsWhole held → is_canonical dir ≡ true → is_nothing (standing held path) ≡ false → is_within dir path ≡ true → Over held dir path
over zero held dir path low whole d stands h = elim (is_root path) as (λ (b : Bool). is_root path ≡ b → Over held dir path) [
  | true ↦ λ r. inl (top_case dir path d r h)
  | false ↦ λ r. let deep = depth-is_in (parent path) path (whole.paths path stands) (is_below (parent path) path r refl) in absurd (omega (arith, deep, low))
] refl
over (suc n) held dir path low whole d stands h = elim (is_root path) as (λ (b : Bool). is_root path ≡ b → Over held dir path) [
  | true ↦ λ r. inl (top_case dir path d r h)
  | false ↦ λ r.
      let c = whole.paths path stands in
      let cut = path-is_cut path c r in
      let deep = depth-is_in (parent path) path c (is_below (parent path) path r refl) in
      let up : depth (parent path) ≤ n = omega (arith, deep, low) in
      elim (within-join dir (parent path) (name_of path) (stem-back dir d) cut.dir cut.name (ap (is_within dir) cut.whole ∙ h)) [
        | inl same ↦ inl (sym cut.whole ∙ same)
        | inr above ↦ over_parent held dir path d cut stands (over n held dir (parent path) up whole d (dir_there (standing held (parent path)) (whole.parents path stands)) above)
      ]
] refl
