-- What each call is shown to do: what the kernel's definition gives is what its program says.
use Rattle.std.specs.Prelude.{◌≡◌, ℕ, Bool, false, Option}
use Rattle.rk_base.specs.Text.{Text}
use Rattle.rk_calls.specs.Refs.{RefsHeld, ref_at}
use Rattle.rk_calls.specs.declared.call.How.{How}
use Rattle.rk_calls.specs.declared.call.Call.TheVariants as call
use Rattle.rk_kernel.specs.Do.{answered}
use Rattle.rk_feet.specs.Named.{Name}
use Rattle.rk_feet.specs.Opening.{does_pipe, does_open}
use Rattle.rk_feet.specs.Transfers.{does_read, does_read_line, does_write}
use Rattle.rk_feet.specs.Renaming.{does_rename}
use Rattle.rk_feet.specs.Asking.{does_walk, does_stat, does_list, does_read_link, does_same}
use Rattle.rk_feet.specs.Changing.{does_chmod, does_mkdir, does_symlink, does_unlink, does_rmdir, does_link}
use Rattle.rk_feet.specs.World.{World}
use Rattle.rk_feet.specs.Simulates.{Simulates, ends_in, number_on}

abbrev pub Reads : Type 0
Reads = (w : World) (refs : RefsHeld) (r : ℕ) (on : Option Name) → ref_at refs r ≡ number_on w on
    → Simulates w (answered w.held refs (call.Read r)) (ends_in w (does_read on))

abbrev pub ReadsLines : Type 0
ReadsLines = (w : World) (refs : RefsHeld) (r : ℕ) (on : Option Name) → ref_at refs r ≡ number_on w on
    → Simulates w (answered w.held refs (call.ReadLine r)) (ends_in w (does_read_line on))

abbrev pub Writes : Type 0
Writes = (w : World) (refs : RefsHeld) (r : ℕ) (text : Text) (on : Option Name) → ref_at refs r ≡ number_on w on
    → Simulates w (answered w.held refs (call.Write r text)) (ends_in w (does_write on text))

abbrev pub Stats : Type 0
Stats = (w : World) (refs : RefsHeld) (path : Text) (follow : Bool)
    → Simulates w (answered w.held refs (call.Stat path follow)) (ends_in w (does_stat path follow))

abbrev pub Lists : Type 0
Lists = (w : World) (refs : RefsHeld) (path : Text) → Simulates w (answered w.held refs (call.List path)) (ends_in w (does_list path))

abbrev pub ReadsLinks : Type 0
ReadsLinks = (w : World) (refs : RefsHeld) (path : Text) → Simulates w (answered w.held refs (call.ReadLink path)) (ends_in w (does_read_link path))

abbrev pub Compares : Type 0
Compares = (w : World) (refs : RefsHeld) (a b : Text) → Simulates w (answered w.held refs (call.Same a b)) (ends_in w (does_same a b))

abbrev pub ChangesModes : Type 0
ChangesModes = (w : World) (refs : RefsHeld) (path : Text) (m : ℕ) → Simulates w (answered w.held refs (call.Chmod path m)) (ends_in w (does_chmod path m))

-- a step that has made nothing yet
abbrev pub Pipes : Type 0
Pipes = (w : World) (refs : RefsHeld) (r s : ℕ) → w.used r s ≡ false → Simulates w (answered w.held refs call.Pipe) (ends_in w (does_pipe r s))

abbrev pub Opens : Type 0
Opens = (w : World) (refs : RefsHeld) (r s : ℕ) (path : Text) (h : How) → w.used r s ≡ false
    → Simulates w (answered w.held refs (call.Open path h)) (ends_in w (does_open r s path h))

abbrev pub MakesDirs : Type 0
MakesDirs = (w : World) (refs : RefsHeld) (r s : ℕ) (path : Text) (m : ℕ) → w.used r s ≡ false
    → Simulates w (answered w.held refs (call.Mkdir path m)) (ends_in w (does_mkdir r s path m))

abbrev pub MakesLinks : Type 0
MakesLinks = (w : World) (refs : RefsHeld) (r s : ℕ) (text path : Text) → w.used r s ≡ false
    → Simulates w (answered w.held refs (call.Symlink text path)) (ends_in w (does_symlink r s text path))

abbrev pub Unlinks : Type 0
Unlinks = (w : World) (refs : RefsHeld) (path : Text) → Simulates w (answered w.held refs (call.Unlink path)) (ends_in w (does_unlink path))

abbrev pub RemovesDirs : Type 0
RemovesDirs = (w : World) (refs : RefsHeld) (path : Text) → Simulates w (answered w.held refs (call.Rmdir path)) (ends_in w (does_rmdir path))

abbrev pub LinksNames : Type 0
LinksNames = (w : World) (refs : RefsHeld) (a b : Text) → Simulates w (answered w.held refs (call.Link a b)) (ends_in w (does_link a b))

abbrev pub Walks : Type 0
Walks = (w : World) (refs : RefsHeld) (path : Text) → Simulates w (answered w.held refs (call.Walk path)) (ends_in w (does_walk path))

abbrev pub Renames : Type 0
Renames = (w : World) (refs : RefsHeld) (a b : Text) → Simulates w (answered w.held refs (call.Rename a b)) (ends_in w (does_rename a b))
