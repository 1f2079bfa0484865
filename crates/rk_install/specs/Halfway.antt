-- A list of calls that was made in part, and how it is finished.
use Rattle.std.specs.Prelude.{◌≡◌, ◌⊎◌, List, [], ◌∷◌, true, Option, Some, IfSome, option_map, if◌then◌else◌}
use Rattle.rk_base.specs.Text.{Text}
use Rattle.rk_base.specs.Canonical.{is_canonical}
use Rattle.rk_folder.specs.Told.{Held, standing, is_file}
use Rattle.rk_folder.specs.Whole.{IsWhole}
use Rattle.rk_folder.specs.declared.folder.Standing.{Standing}
use Rattle.rk_seal.specs.Ops.{path_of}
use Rattle.rk_seal.specs.declared.ops.Op.{Op}
use Rattle.rk_seal.specs.declared.ops.Op.TheVariants.{RemoveFile, RemoveDir, MakeDir, Write}
use Rattle.rk_install.specs.Calls.{allowed, step, after_all, left_by, DamagedBy}

-- a write that failed left some file
abbrev pub Torn : Op → Text → Option Standing → Type 0
Torn (RemoveFile path) q it = ⊥
Torn (RemoveDir path) q it = ⊥
Torn (MakeDir path) q it = ⊥
Torn (Write path bytes) q it = (q ≡ path) × (is_file it ≡ true)

-- what stands at a path at the start, or at any time while the calls are made, or what a failed write left there
abbrev pub Ahead : List Op → Held → Text → Option Standing → Type 0
Ahead [] start q it = it ≡ standing start q
Ahead (op ∷ ops) start q it = (it ≡ standing start q) ⊎ (Torn op q it ⊎ Ahead ops (step op start) q it)

-- the calls were made in part: at each path stands what some moment had
pub record Halfway (ops : List Op) (start held : Held) : Type 0 where
  pub at : (q : Text) → Ahead ops start q (standing held q)
  pub odd : held.odd ≡ start.odd

-- a call that the folder doesn't allow now is passed over
abbrev pub pass : Op → Held → Held
pass op held = if allowed op held then step op held else held

abbrev pub finished : List Op → Held → Held
finished [] held = held
finished (op ∷ ops) held = finished ops (pass op held)

-- some of the calls were made or passed over, and the next one failed, or a look before it
abbrev pub IsCut : List Op → Option Held → Option Held → Type 0
IsCut [] old new = new ≡ old
IsCut (op ∷ ops) old new = DamagedBy op old new ⊎ IsCut ops (option_map (pass op) old) new

-- some of the calls were made, and the next one failed
abbrev pub IsStopped : List Op → Option Held → Option Held → Type 0
IsStopped [] old new = new ≡ old
IsStopped (op ∷ ops) old new = DamagedBy op old new ⊎ IsStopped ops (option_map (step op) old) new

-- some of the calls were made, and nothing else was done
abbrev pub IsFront : List Op → Option Held → Option Held → Type 0
IsFront [] old new = new ≡ old
IsFront (op ∷ ops) old new = (new ≡ old) ⊎ IsFront ops (option_map (step op) old) new

-- each moment is whole
abbrev pub AllWhole : List Op → Held → Type 0
AllWhole [] start = IsWhole start
AllWhole (op ∷ ops) start = IsWhole start × AllWhole ops (step op start)

abbrev pub AllCanonical : List Op → Type 0
AllCanonical [] = Unit {0}
AllCanonical (op ∷ ops) = (is_canonical (path_of op) ≡ true) × AllCanonical ops

-- the folder allows a call, or what it leaves stands there already
abbrev pub IsReady : Op → Held → Type 0
IsReady op start = (allowed op start ≡ true) ⊎ (standing start (path_of op) ≡ left_by op)

abbrev pub AllReady : List Op → Held → Type 0
AllReady [] start = Unit {0}
AllReady (op ∷ ops) start = IsReady op start × AllReady ops (step op start)

-- Laws.

-- a folder that is whole and ready for the calls is whole at each moment
abbrev pub StaysWhole : Type 0
StaysWhole = (ops : List Op) (start : Held) → IsWhole start → AllReady ops start → AllCanonical ops → AllWhole ops start

-- wherever the calls stopped, they are halfway
abbrev pub StopsHalfway : Type 0
StopsHalfway = (ops : List Op) (start : Held) (new : Option Held) → IsStopped ops (Some start) new → IfSome new (Halfway ops start)

-- from there all that are left lead to what they were to lead to
abbrev pub Finishes : Type 0
Finishes = (ops : List Op) (start held : Held) → AllWhole ops start → AllReady ops start → Halfway ops start held → finished ops held ≡ after_all ops start

-- and wherever that stops, they are halfway again
abbrev pub StopsAgain : Type 0
StopsAgain = (ops : List Op) (start held : Held) (new : Option Held) → AllWhole ops start → AllReady ops start → Halfway ops start held → IsCut ops (Some held) new → IfSome new (Halfway ops start)
