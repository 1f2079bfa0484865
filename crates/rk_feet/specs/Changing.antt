-- The programs of the calls that change the tree, but for Rename.
use Rattle.std.specs.Prelude.{ℕ, List, [], ◌∷◌, Bool, true, false, not, nat_lt, if◌then◌else◌, Option, Some, None}
use Rattle.rk_base.specs.Text.{Text}
use Rattle.rk_base.specs.Canonical.{has_nul, is_empty}
use Rattle.rk_base.specs.declared.errno.Errno.TheVariants.{NoEntry, NotDir, IsDir, Exists, Denied, NotEmpty, Invalid}
use Rattle.rk_calls.specs.declared.answer.Answer.TheVariants as answer
use Rattle.rk_waves.specs.Programs.{Reads, Ends, Sets, Update, All}
use Rattle.rk_feet.specs.Named.{Name, Made, What, File, Dir, Link, Node, Plain, EntryOf, AboveOf, ModeOf, Value, Entry, Above, Mode, names, Does}
use Rattle.rk_feet.specs.Ways.{Place, Found, Absent, resolve}
use Rattle.rk_feet.specs.Checks.{no, row, strict, writing}
use Rattle.rk_feet.specs.Opening.{uses, once}

-- Rename

abbrev pub is_dir : What → Bool
is_dir Dir = true
is_dir _ = false

-- what was moved stands there
abbrev pub stands : Node → Name × Text → List (Plain × Update Value)
stands n onto = if is_dir n.what then (AboveOf n.name, Sets (Above (Some onto))) ∷ [] else []

abbrev pub gone : Option Node → List (Plain × Update Value)
gone None = []
gone (Some n) = if is_dir n.what then (AboveOf n.name, Sets (Above None)) ∷ [] else []

-- Chmod: a link has no mode of its own

abbrev pub chmod_what : ℕ → Name → What → Does
chmod_what m n File = Ends answer.Done ((ModeOf n, Sets (Mode m)) ∷ [])
chmod_what m n Dir = Ends answer.Done ((ModeOf n, Sets (Mode m)) ∷ [])
chmod_what m n (Link text) = Ends answer.Done []

abbrev pub chmod_found : ℕ → Place → Does
chmod_found m (Found here) = chmod_what m here.node.name here.node.what
chmod_found m (Absent dir name slash) = no NoEntry

abbrev pub chmod_at : ℕ → Place → Does
chmod_at m place = if nat_lt 511 m then no Invalid else chmod_found m place

abbrev pub does_chmod : Text → ℕ → Does
does_chmod path m = resolve (row (strict (chmod_at m))) true path

-- Mkdir

-- a node of this mode under a name
abbrev pub makes : ℕ → ℕ → ℕ → What → Name → Text → List (Plain × Update Value)
makes r s m what dir name =
    uses r s ∷ (EntryOf dir name, Sets (Entry (Some (record { name = Made r s 0 m; what = what }))))
    ∷ stands (record { name = Made r s 0 m; what = what }) (dir, name)

abbrev pub mkdir_absent : ℕ → ℕ → ℕ → Name → Text → Does
mkdir_absent r s m dir name = writing dir (Ends answer.Done (makes r s m Dir dir name))

abbrev pub mkdir_at : ℕ → ℕ → ℕ → Place → Does
mkdir_at r s m (Found here) = if nat_lt 511 m then no Invalid else no Exists
mkdir_at r s m (Absent dir name slash) = if nat_lt 511 m then no Invalid else mkdir_absent r s m dir name

abbrev pub mkdir_path : ℕ → ℕ → Text → ℕ → Does
mkdir_path r s path m = resolve (row (mkdir_at r s m)) false path

abbrev pub does_mkdir : ℕ → ℕ → Text → ℕ → Does
does_mkdir r s path m = once r s (mkdir_path r s path m)

-- Symlink

abbrev pub symlink_found : ℕ → ℕ → Text → Place → Does
symlink_found r s text (Found here) = no Exists
symlink_found r s text (Absent dir name slash) = writing dir (Ends answer.Done (makes r s 511 (Link text) dir name))

abbrev pub symlink_at : ℕ → ℕ → Text → Place → Does
symlink_at r s text place = if is_empty text then no NoEntry else if has_nul text then no Invalid else symlink_found r s text place

abbrev pub symlink_path : ℕ → ℕ → Text → Text → Does
symlink_path r s text path = resolve (row (strict (symlink_at r s text))) false path

abbrev pub does_symlink : ℕ → ℕ → Text → Text → Does
does_symlink r s text path = once r s (symlink_path r s text path)

-- Unlink

-- a name of a node is gone, and where a directory stood
abbrev pub removes : Name → Text → Node → List (Plain × Update Value)
removes dir name n = (EntryOf dir name, Sets (Entry None)) ∷ gone (Some n)

abbrev pub unlink_up : Node → Option (Name × Text) → Does
unlink_up n None = Ends answer.Done []
unlink_up n (Some up) = writing up.0 (Ends answer.Done (removes up.0 up.1 n))

abbrev pub unlink_what : Node → Option (Name × Text) → What → Does
unlink_what n up File = unlink_up n up
unlink_what n up Dir = no IsDir
unlink_what n up (Link text) = unlink_up n up

abbrev pub unlink_at : Place → Does
unlink_at (Found here) = unlink_what here.node here.up here.node.what
unlink_at (Absent dir name slash) = no NoEntry

abbrev pub does_unlink : Text → Does
does_unlink path = resolve (row (strict unlink_at)) false path

-- Rmdir

abbrev pub rmdir_dir : Node → Name × Text → Does
rmdir_dir n up = writing up.0 (Ends answer.Done (removes up.0 up.1 n))

abbrev pub rmdir_names : Node → Name × Text → Value → Does
rmdir_names n up a = if not (is_empty (names a)) then no NotEmpty else rmdir_dir n up

abbrev pub rmdir_what : Node → Name × Text → What → Does
rmdir_what n up File = no NotDir
rmdir_what n up Dir = Reads (All n.name) (rmdir_names n up)
rmdir_what n up (Link text) = no NotDir

abbrev pub rmdir_up : Node → Option (Name × Text) → Does
rmdir_up n None = no Invalid
rmdir_up n (Some up) = rmdir_what n up n.what

abbrev pub rmdir_at : Place → Does
rmdir_at (Found here) = rmdir_up here.node here.up
rmdir_at (Absent dir name slash) = no NoEntry

abbrev pub does_rmdir : Text → Does
does_rmdir path = resolve (row (strict rmdir_at)) false path

-- Link

abbrev pub links : Name → Text → Node → List (Plain × Update Value)
links dir name n = (EntryOf dir name, Sets (Entry (Some n))) ∷ []

abbrev pub link_name : Node → Place → Does
link_name n (Found to) = no Exists
link_name n (Absent dir name slash) = writing dir (Ends answer.Done (links dir name n))

abbrev pub link_found : Node → What → Place → Does
link_found n File to = link_name n to
link_found n Dir to = no Denied
link_found n (Link text) to = link_name n to

abbrev pub link_at : Place → Place → Does
link_at (Found from) to = link_found from.node from.node.what to
link_at (Absent dir name slash) to = no NoEntry

abbrev pub link_from : Text → Place → Does
link_from b from = resolve (row (strict (link_at from))) false b

abbrev pub does_link : Text → Text → Does
does_link a b = resolve (row (strict (link_from b))) false a
