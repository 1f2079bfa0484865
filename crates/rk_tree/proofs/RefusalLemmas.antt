-- What an allowed change may rely on.
use Rattle.std.proofs.Common.{◌≡◌, ◌≤◌, inl, inr, ℕ, List, [], ◌∷◌, ◌++◌, Bool, true, false, cond, not, Option, Some, None, refl, sym, ap, ◌∙◌, arith}
use Rattle.std.specs.Prelude.{◌≢◌, nat_lt}
use Rattle.std.specs.Option.{option_or}
use Rattle.std.proofs.lemmas.Bool.Decides.{leb_tells}
use Rattle.rk_base.specs.Text.{Text}
use Rattle.rk_base.specs.Canonical.{has_nul, is_empty}
use Rattle.rk_base.specs.declared.errno.Errno.{Errno}
use Rattle.rk_base.specs.declared.errno.Errno.TheVariants.{NoEntry, Exists, Denied, NotEmpty, Invalid}
use Rattle.rk_tree.specs.Node.{Node, File, Dir, Link}
use Rattle.rk_tree.specs.Entries.{is_dir, IsFit}
use Rattle.rk_tree.specs.Hierarchy.{Hierarchy, node, child}
use Rattle.rk_tree.specs.Refusals.{first_of, is_there, lacks_w, has_names, entry_checks, add_refusal, link_refusal, remove_found, remove_refusal, mode_refusal}

-- the first of two lists of checks
pub first_of-append : (checks more : List (Bool × Errno)) → first_of (checks ++ more) ≡ option_or (first_of checks) (first_of more)
first_of-append [] more = refl
first_of-append (check ∷ checks) more = elim check.0 as (λ (b : Bool). cond b (Some check.1) (first_of (checks ++ more)) ≡ option_or (cond b (Some check.1) (first_of checks)) (first_of more)) [
  | true ↦ refl
  | false ↦ first_of-append checks more
]

or_none : (a b : Option Errno) → option_or a b ≡ None → (a ≡ None) × (b ≡ None)
or_none None b h = (refl, h)
or_none (Some e) b h = cc

-- where nothing refuses, no check holds
pub passed : (check : Bool) (e : Errno) (checks : List (Bool × Errno)) → first_of ((check, e) ∷ checks) ≡ None → (check ≡ false) × (first_of checks ≡ None)
passed true e checks h = cc
passed false e checks h = (refl, h)

pub not_there : {A : Type 0} (o : Option A) → is_there o ≡ false → o ≡ None
not_there None h = refl
not_there (Some x) h = cc

pub within_all : (mode : ℕ) → nat_lt 511 mode ≡ false → mode ≤ 511
within_all mode h = elim (leb_tells 512 mode) [
  | inl e ↦ absurd (clash _ e.0 h)
  | inr e ↦ omega (arith, e.1)
] where
  clash : (b : Bool) → b ≡ true → b ≡ false → ⊥
  clash b t f = cc

filled : (text : Text) → is_empty text ≡ false → text ≢ []
filled [] h e = cc
filled (b ∷ bs) h e = cc

pub checked-fit : (it : Node) → first_of (entry_checks it) ≡ None → IsFit it
checked-fit (File mode content) h = within_all mode (passed _ Invalid [] h).0
checked-fit (Dir mode) h = within_all mode (passed _ Invalid [] h).0
checked-fit (Link text) h =
    let some = passed (is_empty text) NoEntry ((has_nul text, Invalid) ∷ []) h in
    (filled text some.0, (passed (has_nul text) Invalid [] some.1).0)

pub add_refusal-is : (tree : Hierarchy) (dir : ℕ) (name : Text) (it : Node) → add_refusal tree dir name it ≡ option_or (first_of (entry_checks it)) (first_of ((is_there (child tree dir name), Exists) ∷ (lacks_w tree dir, Denied) ∷ []))
unfolding add_refusal
add_refusal-is tree dir name it = first_of-append (entry_checks it) _

pub add-allowed : (tree : Hierarchy) (dir : ℕ) (name : Text) (it : Node) → add_refusal tree dir name it ≡ None → (child tree dir name ≡ None) × IsFit it
add-allowed tree dir name it h =
    let both = or_none (first_of (entry_checks it)) (first_of ((is_there (child tree dir name), Exists) ∷ (lacks_w tree dir, Denied) ∷ [])) (sym (add_refusal-is tree dir name it) ∙ h) in
    (not_there (child tree dir name) (passed (is_there (child tree dir name)) Exists ((lacks_w tree dir, Denied) ∷ []) both.1).0, checked-fit it both.0)

pub there_is : {A : Type 0} (o : Option A) → is_there o ≡ true → (x : A) × (o ≡ Some x)
there_is None h = cc
there_is (Some x) h = (x, refl)

pub link-allowed : (tree : Hierarchy) (dir : ℕ) (name : Text) (n : ℕ) → link_refusal tree dir name n ≡ None → (is_there (node tree n) ≡ true) × (is_dir (node tree n) ≡ false) × (child tree dir name ≡ None)
unfolding link_refusal
link-allowed tree dir name n h =
    let one = passed (not (is_there (node tree n))) NoEntry ((is_dir (node tree n), Denied) ∷ (is_there (child tree dir name), Exists) ∷ (lacks_w tree dir, Denied) ∷ []) h in
    let two = passed (is_dir (node tree n)) Denied ((is_there (child tree dir name), Exists) ∷ (lacks_w tree dir, Denied) ∷ []) one.1 in
    (so (is_there (node tree n)) one.0, two.0, not_there (child tree dir name) (passed (is_there (child tree dir name)) Exists ((lacks_w tree dir, Denied) ∷ []) two.1).0) where
      so : (b : Bool) → not b ≡ false → b ≡ true
      so true e = refl
      so false e = cc

pub remove_refusal-is : (tree : Hierarchy) (dir : ℕ) (name : Text) (o : Option ℕ) → o ≡ child tree dir name → remove_found tree dir o ≡ remove_refusal tree dir name
unfolding remove_refusal
remove_refusal-is tree dir name o is = ap (remove_found tree dir) is

pub remove-allowed : (tree : Hierarchy) (dir n : ℕ) → remove_found tree dir (Some n) ≡ None → has_names tree n ≡ false
remove-allowed tree dir n h = (passed (has_names tree n) NotEmpty ((lacks_w tree dir, Denied) ∷ []) h).0

pub mode-allowed : (tree : Hierarchy) (n mode : ℕ) → mode_refusal tree n mode ≡ None → mode ≤ 511
unfolding mode_refusal
mode-allowed tree n mode h = within_all mode (passed (nat_lt 511 mode) Invalid ((not (is_there (node tree n)), NoEntry) ∷ []) h).0
