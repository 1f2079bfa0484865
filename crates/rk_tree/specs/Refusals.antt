-- When a change of a tree is refused: by the first of its checks that holds.
use Rattle.std.specs.Prelude.{◌≡◌, ℕ, List, [], ◌∷◌, ◌++◌, nat_lt, Bool, true, false, not, ◌&&◌, ◌==◌, if◌then◌else◌, Option, Some, None, Result, Ok, Err}
use Rattle.rk_base.specs.Text.{Text}
use Rattle.rk_base.specs.Canonical.{has_nul, is_empty}
use Rattle.rk_base.specs.declared.errno.Errno.{Errno}
use Rattle.rk_base.specs.declared.errno.Errno.TheVariants.{NoEntry, NotDir, IsDir, Exists, Denied, NotEmpty, Invalid}
use Rattle.rk_tree.specs.Node.{Node, File, Dir, Link}
use Rattle.rk_tree.specs.declared.refused.Refused.{Refused}
use Rattle.rk_tree.specs.declared.refused.Refused.TheVariants.{No, NoMemory}
use Rattle.rk_tree.specs.Entries.{is_dir}
use Rattle.rk_tree.specs.Hierarchy.{Hierarchy, node, mode_of, has_w, child, names, stands_within}

abbrev pub first_of : List (Bool × Errno) → Option Errno
first_of [] = None
first_of (check ∷ checks) = if check.0 then Some check.1 else first_of checks

abbrev pub is_there : {A : Type 0} → Option A → Bool
is_there None = false
is_there (Some x) = true

-- a directory that gains or loses a name needs `w`
abbrev pub lacks_w : Hierarchy → ℕ → Bool
lacks_w tree dir = not (has_w (mode_of (node tree dir)))

-- a directory in which names stand
abbrev pub has_names : Hierarchy → ℕ → Bool
has_names tree n = is_dir (node tree n) && not (is_empty (names tree n))

-- Add: a mode above 0777, or a link's text that is empty or has a NUL; a name that stands for something; a directory without `w`

abbrev pub mode_checks : ℕ → List (Bool × Errno)
mode_checks mode = (nat_lt 511 mode, Invalid) ∷ []

abbrev pub entry_checks : Node → List (Bool × Errno)
entry_checks (File mode content) = mode_checks mode
entry_checks (Dir mode) = mode_checks mode
entry_checks (Link text) = (is_empty text, NoEntry) ∷ (has_nul text, Invalid) ∷ []

unfoldable pub add_refusal : Hierarchy → ℕ → Text → Node → Option Errno
add_refusal tree dir name it = first_of (entry_checks it ++ (is_there (child tree dir name), Exists) ∷ (lacks_w tree dir, Denied) ∷ [])

-- Link: no node of this number; a directory; a name that stands for something; a directory without `w`

unfoldable pub link_refusal : Hierarchy → ℕ → Text → ℕ → Option Errno
link_refusal tree dir name n = first_of ((not (is_there (node tree n)), NoEntry) ∷ (is_dir (node tree n), Denied) ∷ (is_there (child tree dir name), Exists) ∷ (lacks_w tree dir, Denied) ∷ [])

-- Remove: a name that stands for nothing; a directory in which names stand; a directory without `w`

abbrev pub remove_found : Hierarchy → ℕ → Option ℕ → Option Errno
remove_found tree dir None = Some NoEntry
remove_found tree dir (Some n) = first_of ((has_names tree n, NotEmpty) ∷ (lacks_w tree dir, Denied) ∷ [])

unfoldable pub remove_refusal : Hierarchy → ℕ → Text → Option Errno
remove_refusal tree dir name = remove_found tree dir (child tree dir name)

-- Rename: a name that stands for nothing; where both names stand for one node nothing refuses; a directory without `w`; a directory over what is none, and a file or link over a directory; a directory into itself; over a directory in which names stand

-- a directory would go below itself
abbrev pub goes_below : Hierarchy → ℕ → ℕ → Bool
goes_below tree n to = is_dir (node tree n) && stands_within tree n to

abbrev pub over_checks : Hierarchy → ℕ → ℕ → Option ℕ → List (Bool × Errno)
over_checks tree n to None = (goes_below tree n to, Invalid) ∷ []
over_checks tree n to (Some m) =
    (is_dir (node tree n) && not (is_dir (node tree m)), NotDir) ∷ (not (is_dir (node tree n)) && is_dir (node tree m), IsDir)
    ∷ (goes_below tree n to, Invalid) ∷ (has_names tree m, NotEmpty) ∷ []

abbrev pub rename_checks : Hierarchy → ℕ → ℕ → ℕ → Option ℕ → List (Bool × Errno)
rename_checks tree dir n to over = (lacks_w tree dir, Denied) ∷ (lacks_w tree to, Denied) ∷ over_checks tree n to over

abbrev pub rename_found : Hierarchy → ℕ → ℕ → Option ℕ → Option ℕ → Option Errno
rename_found tree dir to None over = Some NoEntry
rename_found tree dir to (Some n) None = first_of (rename_checks tree dir n to None)
rename_found tree dir to (Some n) (Some m) = if n == m then None else first_of (rename_checks tree dir n to (Some m))

unfoldable pub rename_refusal : Hierarchy → ℕ → Text → ℕ → Text → Option Errno
rename_refusal tree dir name to new = rename_found tree dir to (child tree dir name) (child tree to new)

-- Mode: one above 0777; no node of this number. A link has no mode of its own: nothing refuses, and nothing changes

unfoldable pub mode_refusal : Hierarchy → ℕ → ℕ → Option Errno
mode_refusal tree n mode = first_of (mode_checks mode ++ (not (is_there (node tree n)), NoEntry) ∷ [])

-- What a change gives.

-- Ok only where nothing refuses it, with the tree after it; No only with the refusal; after any error the tree is as it was
abbrev pub Changes : {A : Type 0} → Option Errno → Hierarchy → Hierarchy → Hierarchy → Result A Refused → Type 0
Changes refusal old after new (Ok it) = (refusal ≡ None) × (new ≡ after)
Changes refusal old after new (Err (No e)) = (refusal ≡ Some e) × (new ≡ old)
Changes refusal old after new (Err NoMemory) = new ≡ old

-- the same of a change that takes no memory: it never lacks any
abbrev pub ChangesFreely : {A : Type 0} → Option Errno → Hierarchy → Hierarchy → Hierarchy → Result A Refused → Type 0
ChangesFreely refusal old after new (Ok it) = (refusal ≡ None) × (new ≡ after)
ChangesFreely refusal old after new (Err (No e)) = (refusal ≡ Some e) × (new ≡ old)
ChangesFreely refusal old after new (Err NoMemory) = ⊥
