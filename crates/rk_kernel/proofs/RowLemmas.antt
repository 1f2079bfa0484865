-- What the tree refuses at a place is what the rows say.
use Rattle.std.proofs.Common.{◌≡◌, ℕ, List, [], ◌∷◌, ◌++◌, Bool, true, false, cond, not, ◌&&◌, Option, Some, None, length, refl, sym, ap, ◌∙◌, eqb}
use Rattle.std.specs.Prelude.{nat_lt}
use Rattle.rk_base.specs.Text.{Text, join}
use Rattle.rk_base.specs.declared.errno.Errno.{Errno}
use Rattle.rk_base.specs.declared.errno.Errno.TheVariants.{NoEntry, NotDir, IsDir, Exists, Denied, NotEmpty, Invalid}
use Rattle.rk_calls.specs.Given.{Given}
use Rattle.rk_calls.specs.Refs.{RefsHeld}
use Rattle.rk_tree.specs.Entries.{is_dir}
use Rattle.rk_tree.specs.Hierarchy.{Hierarchy, added, node, child, is_same, moved_paths, path_of, renamed, with_path}
use Rattle.rk_tree.specs.Refusals.{first_of, entry_checks, mode_checks, is_there, has_names, lacks_w, goes_below, rename_checks, rename_found, add_refusal, link_refusal, remove_refusal, remove_found, rename_refusal, mode_refusal}
use Rattle.rk_tree.specs.declared.content.Content.TheVariants.{Own}
use Rattle.rk_tree.specs.Node.{Node, File, Dir, Link}
use Rattle.rk_calls.specs.declared.call.How.{How}
use Rattle.rk_kernel.specs.Opening.{is_read, open_at, opened}
use Rattle.rk_kernel.specs.World.{World}
use Rattle.rk_kernel.specs.Changes.{moved_at, rename_refusals}
use Rattle.rk_kernel.specs.Rows.{changed, done, refused, giving, unless}
use Rattle.rk_calls.specs.declared.answer.Answer.TheVariants as answer
use Rattle.rk_walk.specs.declared.place.Place.TheVariants.{Found, Absent}

first_refused : (world : World) (refs : RefsHeld) (checks : List (Bool × Errno)) (tree : Hierarchy) → changed world refs (first_of checks) tree ≡ unless world refs checks (done world refs tree)
first_refused world refs [] tree = refl
first_refused world refs (check ∷ checks) tree = elim check.0 as (λ (b : Bool). changed world refs (cond b (Some check.1) (first_of checks)) tree ≡ cond b (refused world refs check.1) (unless world refs checks (done world refs tree))) [
  | true ↦ refl
  | false ↦ first_refused world refs checks tree
]

-- a change that the tree refuses by the first of these checks
pub changed-unless : (world : World) (refs : RefsHeld) (refusal : Option Errno) (checks : List (Bool × Errno)) (tree : Hierarchy) → refusal ≡ first_of checks → changed world refs refusal tree ≡ unless world refs checks (done world refs tree)
changed-unless world refs refusal checks tree is = ap (λ (o : Option Errno). changed world refs o tree) is ∙ first_refused world refs checks tree

-- under a name that stands for nothing
pub add-checks : (tree : Hierarchy) (dir : ℕ) (name : Text) (it : Node) → child tree dir name ≡ None → add_refusal tree dir name it ≡ first_of (entry_checks it ++ (lacks_w tree dir, Denied) ∷ [])
unfolding add_refusal
add-checks tree dir name (File mode bytes) none = ap (λ (o : Option ℕ). first_of (mode_checks mode ++ (is_there o, Exists) ∷ (lacks_w tree dir, Denied) ∷ [])) none
add-checks tree dir name (Dir mode) none = ap (λ (o : Option ℕ). first_of (mode_checks mode ++ (is_there o, Exists) ∷ (lacks_w tree dir, Denied) ∷ [])) none
add-checks tree dir name (Link text) none = ap (λ (o : Option ℕ). first_of (entry_checks (Link text) ++ (is_there o, Exists) ∷ (lacks_w tree dir, Denied) ∷ [])) none

-- An empty file under a name that stands for nothing.

file_checks : (tree : Hierarchy) (dir : ℕ) (name : Text) → child tree dir name ≡ None → add_refusal tree dir name (File 420 (Own [])) ≡ cond (lacks_w tree dir) (Some Denied) None
file_checks tree dir name none = add-checks tree dir name (File 420 (Own [])) none

denied_not : (w : Bool) → cond w (Some Denied) None ≡ None → w ≡ false
denied_not true h = cc
denied_not false h = refl

denied_is : (w : Bool) (e : Errno) → cond w (Some Denied) None ≡ Some e → (w ≡ true) × (e ≡ Denied)
denied_is true e h = (refl, cc)
denied_is false e h = cc

pub made : (tree : Hierarchy) (dir : ℕ) (name : Text) → child tree dir name ≡ None → add_refusal tree dir name (File 420 (Own [])) ≡ None → lacks_w tree dir ≡ false
made tree dir name none h = denied_not (lacks_w tree dir) (sym (file_checks tree dir name none) ∙ h)

pub not_made : (tree : Hierarchy) (dir : ℕ) (name : Text) (e : Errno) → child tree dir name ≡ None → add_refusal tree dir name (File 420 (Own [])) ≡ Some e → (lacks_w tree dir ≡ true) × (e ≡ Denied)
not_made tree dir name e none h = denied_is (lacks_w tree dir) e (sym (file_checks tree dir name none) ∙ h)

-- and then Open is refused, and nothing changes
pub open_refused : (world : World) (refs : RefsHeld) (how : How) (dir : ℕ) (name : Text) (slash : Bool) (e : Errno) (now : World) → false ≡ is_read how → child world.tree dir name ≡ None → add_refusal world.tree dir name (File 420 (Own [])) ≡ Some e → now ≡ world
    → ◌≡◌ {A = Given World} (record { answer = answer.No e; refs = refs; world = now }) (open_at world refs how (Absent dir name slash))
open_refused world refs how dir name slash e now reads none h same =
    let d = not_made world.tree dir name e none h in
    ap (λ (w : World). record { answer = answer.No e; refs = refs; world = w }) same
    ∙ ap (λ (e : Errno). refused world refs e) d.1
    ∙ sym (ap (λ (b : Bool). cond b (refused world refs NoEntry) (cond (lacks_w world.tree dir) (refused world refs Denied) (opened world refs (added world.tree dir name (File 420 (Own []))) how (length world.tree.nodes)))) (sym reads)
    ∙ ap (λ (b : Bool). cond b (refused world refs Denied) (opened world refs (added world.tree dir name (File 420 (Own []))) how (length world.tree.nodes))) d.0)

pub link-checks : (tree : Hierarchy) (dir : ℕ) (name : Text) (n : ℕ) → is_there (node tree n) ≡ true → child tree dir name ≡ None → link_refusal tree dir name n ≡ first_of ((is_dir (node tree n), Denied) ∷ (lacks_w tree dir, Denied) ∷ [])
unfolding link_refusal
link-checks tree dir name n there none =
    ap (λ (b : Bool). first_of ((not b, NoEntry) ∷ (is_dir (node tree n), Denied) ∷ (is_there (child tree dir name), Exists) ∷ (lacks_w tree dir, Denied) ∷ [])) there
    ∙ ap (λ (o : Option ℕ). first_of ((is_dir (node tree n), Denied) ∷ (is_there o, Exists) ∷ (lacks_w tree dir, Denied) ∷ [])) none

pub remove-checks : (tree : Hierarchy) (dir : ℕ) (name : Text) (n : ℕ) → child tree dir name ≡ Some n → remove_refusal tree dir name ≡ first_of ((has_names tree n, NotEmpty) ∷ (lacks_w tree dir, Denied) ∷ [])
unfolding remove_refusal
remove-checks tree dir name n is = ap (remove_found tree dir) is

pub mode-checks : (tree : Hierarchy) (n mode : ℕ) → is_there (node tree n) ≡ true → mode_refusal tree n mode ≡ first_of ((nat_lt 511 mode, Invalid) ∷ [])
unfolding mode_refusal
mode-checks tree n mode there = ap (λ (b : Bool). first_of ((nat_lt 511 mode, Invalid) ∷ (not b, NoEntry) ∷ [])) there

-- Rename.

not_one : (d slash below w1 w2 : Bool) → (slash && not d) ≡ false
    → first_of ((w1, Denied) ∷ (w2, Denied) ∷ (below, Invalid) ∷ [])
    ≡ first_of ((w1, Denied) ∷ (w2, Denied) ∷ (d && false, NotDir) ∷ (not d && slash, NotDir) ∷ (not d && false, IsDir) ∷ (below, Invalid) ∷ (false, NotEmpty) ∷ [])
not_one true slash below w1 w2 h = elim below as (λ (b : Bool). first_of ((w1, Denied) ∷ (w2, Denied) ∷ (b, Invalid) ∷ []) ≡ first_of ((w1, Denied) ∷ (w2, Denied) ∷ (b, Invalid) ∷ (false, NotEmpty) ∷ [])) [ true ↦ refl | false ↦ refl ]
not_one false true below w1 w2 h = cc
not_one false false below w1 w2 h = elim below as (λ (b : Bool). first_of ((w1, Denied) ∷ (w2, Denied) ∷ (b, Invalid) ∷ []) ≡ first_of ((w1, Denied) ∷ (w2, Denied) ∷ (b, Invalid) ∷ (false, NotEmpty) ∷ [])) [ true ↦ refl | false ↦ refl ]

pub no_slash : (slash d : Bool) → slash ≡ false → (slash && not d) ≡ false
no_slash slash d h = ap (λ (b : Bool). b && not d) h

pub slash_at_dir : (slash d : Bool) → true ≡ d → (slash && not d) ≡ false
slash_at_dir true d h = ap not (sym h)
slash_at_dir false d h = refl

-- to a name that stands for nothing
pub rename-to : (world : World) (refs : RefsHeld) (n : ℕ) (from to : ℕ × Text) (slash : Bool) → child world.tree from.0 from.1 ≡ Some n → child world.tree to.0 to.1 ≡ None → (slash && not (is_dir (node world.tree n))) ≡ false
    → changed world refs (rename_refusal world.tree from.0 from.1 to.0 to.1) (renamed world.tree from.0 from.1 to.0 to.1) ≡ moved_at world refs (Found (record { node = n; up = Some from; slash = false })) (Absent to.0 to.1 slash)
unfolding rename_refusal
rename-to world refs n from to slash is none h =
    changed-unless world refs (rename_refusal world.tree from.0 from.1 to.0 to.1) (rename_refusals world (Found (record { node = n; up = Some from; slash = false })) (Absent to.0 to.1 slash)) (renamed world.tree from.0 from.1 to.0 to.1)
    (ap (λ (o : Option ℕ). rename_found world.tree from.0 to.0 o (child world.tree to.0 to.1)) is ∙ ap (rename_found world.tree from.0 to.0 (Some n)) none
    ∙ not_one (is_dir (node world.tree n)) slash (goes_below world.tree n to.0) (lacks_w world.tree from.0) (lacks_w world.tree to.0) h)

over_one : (d m below names w1 w2 : Bool)
    → first_of ((w1, Denied) ∷ (w2, Denied) ∷ (d && not m, NotDir) ∷ (not d && m, IsDir) ∷ (below, Invalid) ∷ (names, NotEmpty) ∷ [])
    ≡ first_of ((w1, Denied) ∷ (w2, Denied) ∷ (d && not m, NotDir) ∷ (not d && false, NotDir) ∷ (not d && m, IsDir) ∷ (below, Invalid) ∷ (names, NotEmpty) ∷ [])
over_one true m below names w1 w2 = refl
over_one false m below names w1 w2 = refl

same_tree : (tree : Hierarchy) (n m : ℕ) (from to : ℕ × Text) → child tree from.0 from.1 ≡ Some n → child tree to.0 to.1 ≡ Some m → eqb n m ≡ true → renamed tree from.0 from.1 to.0 to.1 ≡ tree
unfolding renamed
same_tree tree n m from to is over e =
    ap (λ (b : Bool). cond b tree (record tree { paths = with_path (path_of tree from.0) (λ p. with_path (path_of tree to.0) (λ q. moved_paths (join p from.1) (join q to.1) tree.paths) tree.paths) tree.paths }))
    (ap (λ (o : Option ℕ). is_same o (child tree to.0 to.1)) is ∙ ap (is_same (Some n)) over ∙ e)

-- in the place of what stands there
pub rename-over : (world : World) (refs : RefsHeld) (n m : ℕ) (from to : ℕ × Text) → child world.tree from.0 from.1 ≡ Some n → child world.tree to.0 to.1 ≡ Some m
    → changed world refs (rename_refusal world.tree from.0 from.1 to.0 to.1) (renamed world.tree from.0 from.1 to.0 to.1)
    ≡ cond (eqb n m) (giving world refs answer.Done) (moved_at world refs (Found (record { node = n; up = Some from; slash = false })) (Found (record { node = m; up = Some to; slash = false })))
unfolding rename_refusal
rename-over world refs n m from to is over =
    ap (λ (o : Option Errno). changed world refs o (renamed world.tree from.0 from.1 to.0 to.1))
    (ap (λ (o : Option ℕ). rename_found world.tree from.0 to.0 o (child world.tree to.0 to.1)) is ∙ ap (rename_found world.tree from.0 to.0 (Some n)) over)
    ∙ (elim (eqb n m) as (λ (b : Bool). eqb n m ≡ b → changed world refs (cond b None (first_of (rename_checks world.tree from.0 n to.0 (Some m)))) (renamed world.tree from.0 from.1 to.0 to.1) ≡ cond b (giving world refs answer.Done) (moved_at world refs (Found (record { node = n; up = Some from; slash = false })) (Found (record { node = m; up = Some to; slash = false })))) [
      | true ↦ λ e. ap (done world refs) (same_tree world.tree n m from to is over e)
      | false ↦ λ e. changed-unless world refs (first_of (rename_checks world.tree from.0 n to.0 (Some m))) (rename_refusals world (Found (record { node = n; up = Some from; slash = false })) (Found (record { node = m; up = Some to; slash = false }))) (renamed world.tree from.0 from.1 to.0 to.1)
          (over_one (is_dir (node world.tree n)) (is_dir (node world.tree m)) (goes_below world.tree n to.0) (has_names world.tree m) (lacks_w world.tree from.0) (lacks_w world.tree to.0))
    ]) refl
