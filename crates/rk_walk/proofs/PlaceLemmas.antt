-- What is known of the place that a path leads to.
use Rattle.std.proofs.Common.{◌≡◌, ℕ, zero, suc, List, [], ◌∷◌, ◌++◌, Bool, true, false, cond, not, ◌&&◌, ◌||◌, Option, Some, None, Ok, Err, IfOk, refl, ap, ◌∙◌, eqb}
use Rattle.std.proofs.lemmas.Bool.{eq-eqb}
use Rattle.std.specs.Option.{option_and_then}
use Rattle.rk_base.specs.Text.{Text, is_slash, same_text, hidden, dot, dot_dot, join, parent}
use Rattle.rk_base.specs.Canonical.{has_nul, is_empty, is_name}
use Rattle.rk_base.specs.declared.errno.Errno.TheVariants.{NoEntry, NotDir, Denied, Loops, Invalid}
use Rattle.rk_tree.specs.Entries.{is_dir}
use Rattle.rk_tree.specs.Hierarchy.{Hierarchy, top, node, mode_of, has_x, child, number_at, parent_of, path_of}
use Rattle.rk_tree.specs.Refusals.{is_there}
use Rattle.rk_tree.specs.Whole.{IsWhole, MayHold}
use Rattle.rk_tree.specs.Node.{Node, File, Dir, Link}
use Rattle.rk_tree.proofs.HierarchyLemmas.{path_stands}
use Rattle.rk_tree.proofs.TextLemmas.{same_itself}
use Rattle.rk_walk.specs.Places.{IsNameOf, StandsUnder, IsPlaceOf}
use Rattle.rk_walk.specs.Walk.{Spot, Part, parts, ends_slash, at_node, at_child, at_parent, at_part, walk, start, leads, resolve, begins_slash, here_at, as_spot}
use Rattle.rk_walk.specs.declared.place.Here.{Here}
use Rattle.rk_walk.specs.declared.place.Place.TheVariants.{Found, Absent}

abbrev pub IsSpotOf : Hierarchy → Spot → Type 0
IsSpotOf tree spot = IfOk spot (IsPlaceOf tree)

not_not : (b : Bool) → not b ≡ false → b ≡ true
not_not true h = refl
not_not false h = cc

clash : (b : Bool) → b ≡ true → b ≡ false → ⊥
clash b t f = cc

same_some : {o : Option ℕ} (n m : ℕ) → o ≡ Some n → o ≡ Some m → n ≡ m
same_some n m p q = cc

none_is : (n : ℕ) → None ≡ Some n → ⊥
none_is n h = cc

-- a child is a node of the tree
child-there : (tree : Hierarchy) → IsWhole tree → (dir : ℕ) (name : Text) (n : ℕ) → child tree dir name ≡ Some n → is_there (node tree n) ≡ true
unfolding child
child-there tree whole dir name n = elim (is_name name) as (λ (b : Bool). cond b (option_and_then (λ path. number_at tree (join path name)) (path_of tree dir)) None ≡ Some n → is_there (node tree n) ≡ true) [
  | true ↦ elim (path_of tree dir) as (λ (o : Option Text). option_and_then (λ path. number_at tree (join path name)) o ≡ Some n → is_there (node tree n) ≡ true) [
    | None ↦ λ h. absurd (none_is n h)
    | Some path ↦ λ h. ap is_there (whole.known (join path name) n h).1
  ]
  | false ↦ λ h. absurd (none_is n h)
]

-- what a directory stands in is a directory
pub parent-dir : (tree : Hierarchy) → IsWhole tree → (dir up : ℕ) → parent_of tree dir ≡ Some up → is_dir (node tree up) ≡ true
unfolding parent_of
parent-dir tree whole dir up = (elim (path_of tree dir) as (λ (o : Option Text). path_of tree dir ≡ o → option_and_then (λ path. number_at tree (parent path)) o ≡ Some up → is_dir (node tree up) ≡ true) [
  | None ↦ λ at h. absurd (none_is up h)
  | Some path ↦ λ at h.
      let p = whole.placed path dir (path_stands tree dir path at) in
      ap (λ (n : ℕ). is_dir (node tree n)) (same_some up p.up h p.stands) ∙ p.in_dir
]) refl

-- each of these gives the place of a path that goes on from a node, or from a directory by the text of a link

abbrev Leads_on : Hierarchy → (Here → Spot) → Type 0
Leads_on tree on = (here : Here) → StandsUnder tree here.node here.up → IsSpotOf tree (on here)

abbrev Leads_again : Hierarchy → (Text → Text → Spot) → Type 0
Leads_again tree again = (text after : Text) → IsSpotOf tree (again text after)

there : (o : Option Node) → is_dir o ≡ true → is_there o ≡ true
there None h = cc
there (Some it) h = refl

stands-there : (tree : Hierarchy) (n : ℕ) (up : Option (ℕ × Text)) → StandsUnder tree n up → is_there (node tree n) ≡ true
stands-there tree n None is = there (node tree n) is
stands-there tree n (Some up) is = is.there

node-place : (tree : Hierarchy) (follow : Bool) (again : Text → Text → Spot) (on : Here → Spot) (at : ℕ) (part : Part) (n : ℕ) (o : Option Node) → Leads_again tree again → Leads_on tree on → IsNameOf tree n at part.name → IsSpotOf tree (at_node as_spot follow again on at part n o)
node-place tree follow again on at part n None a o is = tt
node-place tree follow again on at part n (Some (File mode bytes)) a o is = elim (ends_slash part) as (λ (b : Bool). IsSpotOf tree (cond b (Err NotDir) (Ok (Found (record { node = n; up = Some (at, part.name); slash = false }))))) [ true ↦ tt | false ↦ record { there = is.there; under = is } ]
node-place tree follow again on at part n (Some (Dir mode)) a o is = o _ is
node-place tree follow again on at part n (Some (Link text)) a o is = elim (ends_slash part || follow) as (λ (b : Bool). IsSpotOf tree (cond b (again text part.after) (Ok (Found (record { node = n; up = Some (at, part.name); slash = false }))))) [ true ↦ a text part.after | false ↦ record { there = is.there; under = is } ]

child-place : (tree : Hierarchy) → IsWhole tree → (follow : Bool) (again : Text → Text → Spot) (on : Here → Spot) (at : ℕ) (part : Part) (last : Bool) (o : Option ℕ) → Leads_again tree again → Leads_on tree on → MayHold tree at part.name → is_name part.name ≡ true → child tree at part.name ≡ o → IsSpotOf tree (at_child as_spot tree follow again on at part last o)
child-place tree whole follow again on at part last None a o may named is =
    elim last as (λ (b : Bool). IsSpotOf tree (cond b (Ok (Absent at part.name (ends_slash part))) (Err NoEntry))) [ true ↦ record { holds = may; named = named; absent = is } | false ↦ tt ]
child-place tree whole follow again on at part last (Some n) a o may named is =
    node-place tree follow again on at part n (node tree n) a o (record { holds = may; named = named; there = child-there tree whole at part.name n is; child_is = is })

parent-place : (tree : Hierarchy) → IsWhole tree → (on : Here → Spot) (at : ℕ) (part : Part) (o : Option ℕ) → Leads_on tree on → parent_of tree at ≡ o → IsSpotOf tree (at_parent as_spot on part o)
parent-place tree whole on at part None o is = tt
parent-place tree whole on at part (Some up) o is = o _ (parent-dir tree whole at up is)

unhidden : (at : ℕ) (name : Text) → (eqb at top && same_text name hidden) ≡ false → at ≡ top → name ≡ hidden → ⊥
unhidden at name h is named = clash _ (ap (λ (b : Bool). b && same_text name hidden) (eq-eqb at top is) ∙ ap (λ (t : Text). same_text t hidden) named ∙ same_itself hidden) h

part-place : (tree : Hierarchy) → IsWhole tree → (follow : Bool) (again : Text → Text → Spot) (on : Here → Spot) (at : ℕ) (part : Part) (last : Bool) → (is_dir (node tree at) ≡ true → Leads_again tree again) → Leads_on tree on → IsSpotOf tree (at_part as_spot tree follow again on at part last)
part-place tree whole follow again on at part last a o =
    let unseen = λ (dir : is_dir (node tree at) ≡ true) (named : is_name part.name ≡ true). elim (eqb at top && same_text part.name hidden) as (λ (b : Bool). (eqb at top && same_text part.name hidden) ≡ b → IsSpotOf tree (cond b (Err Denied) (at_child as_spot tree follow again on at part last (child tree at part.name)))) [
      | true ↦ λ h. tt
      | false ↦ λ h. child-place tree whole follow again on at part last (child tree at part.name) (a dir) o (record { in_dir = dir; seen = unhidden at part.name h }) named refl
    ] refl in
    let named = λ (dir : is_dir (node tree at) ≡ true). elim (not (is_name part.name)) as (λ (b : Bool). not (is_name part.name) ≡ b → IsSpotOf tree (cond b (Err Invalid) (cond (eqb at top && same_text part.name hidden) (Err Denied) (at_child as_spot tree follow again on at part last (child tree at part.name))))) [
      | true ↦ λ h. tt
      | false ↦ λ h. unseen dir (not_not _ h)
    ] refl in
    let goes = λ (dir : is_dir (node tree at) ≡ true).
    elim (same_text part.name dot) as (λ (b : Bool). IsSpotOf tree (cond b (on (record { node = at; up = None; slash = ends_slash part })) (cond (same_text part.name dot_dot) (at_parent as_spot on part (parent_of tree at)) (cond (not (is_name part.name)) (Err Invalid) (cond (eqb at top && same_text part.name hidden) (Err Denied) (at_child as_spot tree follow again on at part last (child tree at part.name))))))) [
      | true ↦ o _ dir
      | false ↦ elim (same_text part.name dot_dot) as (λ (b : Bool). IsSpotOf tree (cond b (at_parent as_spot on part (parent_of tree at)) (cond (not (is_name part.name)) (Err Invalid) (cond (eqb at top && same_text part.name hidden) (Err Denied) (at_child as_spot tree follow again on at part last (child tree at part.name)))))) [
        | true ↦ parent-place tree whole on at part (parent_of tree at) o refl
        | false ↦ named dir
      ]
    ] in
    elim (not (is_dir (node tree at))) as (λ (b : Bool). not (is_dir (node tree at)) ≡ b → IsSpotOf tree (cond b (Err NotDir) (cond (not (has_x (mode_of (node tree at)))) (Err Denied) (cond (same_text part.name dot) (on (record { node = at; up = None; slash = ends_slash part })) (cond (same_text part.name dot_dot) (at_parent as_spot on part (parent_of tree at)) (cond (not (is_name part.name)) (Err Invalid) (cond (eqb at top && same_text part.name hidden) (Err Denied) (at_child as_spot tree follow again on at part last (child tree at part.name))))))))) [
      | true ↦ λ h. tt
      | false ↦ λ h. elim (not (has_x (mode_of (node tree at)))) as (λ (b : Bool). IsSpotOf tree (cond b (Err Denied) (cond (same_text part.name dot) (on (record { node = at; up = None; slash = ends_slash part })) (cond (same_text part.name dot_dot) (at_parent as_spot on part (parent_of tree at)) (cond (not (is_name part.name)) (Err Invalid) (cond (eqb at top && same_text part.name hidden) (Err Denied) (at_child as_spot tree follow again on at part last (child tree at part.name)))))))) [ true ↦ tt | false ↦ goes (not_not _ h) ]
    ] refl

walk-place : (tree : Hierarchy) → IsWhole tree → (follow : Bool) (again : ℕ → Text → Text → Spot) → ((at : ℕ) → is_dir (node tree at) ≡ true → Leads_again tree (again at)) → (here : Here) (later : List Part) → StandsUnder tree here.node here.up → IsSpotOf tree (walk as_spot tree follow again here later)
walk-place tree whole follow again a here [] is = record { there = stands-there tree here.node here.up is; under = is }
walk-place tree whole follow again a here (part ∷ later) is = part-place tree whole follow (again here.node) (λ on. walk as_spot tree follow again on later) here.node part (is_empty later) (a here.node) (λ on. walk-place tree whole follow again a on later)

start-place : (tree : Hierarchy) → IsWhole tree → (at : ℕ) (text : Text) → is_dir (node tree at) ≡ true → StandsUnder tree (start at text).node (start at text).up
start-place tree whole at text dir = elim (begins_slash text) as (λ (b : Bool). StandsUnder tree (cond b (here_at top) (here_at at)).node (cond b (here_at top) (here_at at)).up) [ true ↦ whole.root_dir | false ↦ dir ]

leads-place : (links : ℕ) (tree : Hierarchy) → IsWhole tree → (follow : Bool) (at : ℕ) → is_dir (node tree at) ≡ true → (text after : Text) → IsSpotOf tree (leads as_spot links tree follow at text after)
unfolding leads
leads-place zero tree whole follow at dir text after = walk-place tree whole follow (λ _ _ _. Err Loops) (λ _ _ _ _. tt) (start at text) (parts (text ++ after)) (start-place tree whole at text dir)
leads-place (suc links) tree whole follow at dir text after = walk-place tree whole follow (leads as_spot links tree follow) (leads-place links tree whole follow) (start at text) (parts (text ++ after)) (start-place tree whole at text dir)

pub path-place : (tree : Hierarchy) → IsWhole tree → (follow : Bool) (path : Text) → IsSpotOf tree (leads as_spot 32 tree follow top path [])
path-place tree whole follow path = leads-place 32 tree whole follow top whole.root_dir path []

-- what is known of the place that a path leads to in a whole tree
pub resolve-place : (tree : Hierarchy) → IsWhole tree → (path : Text) (follow : Bool) → IsSpotOf tree (resolve tree path follow)
resolve-place tree whole [] follow = tt
resolve-place tree whole (b ∷ bs) follow = elim (not (is_slash b) || has_nul (b ∷ bs)) as (λ (c : Bool). IsSpotOf tree (cond c (Err Invalid) (leads as_spot 32 tree follow top (b ∷ bs) []))) [ true ↦ tt | false ↦ path-place tree whole follow (b ∷ bs) ]
