-- The program of Rename.
use Rattle.std.specs.Prelude.{ℕ, [], ◌∷◌, ◌++◌, Bool, false, not, ◌&&◌, if◌then◌else◌, Option, Some, None}
use Rattle.rk_base.specs.Text.{Text}
use Rattle.rk_base.specs.Canonical.{is_empty}
use Rattle.rk_base.specs.declared.errno.Errno.TheVariants.{NoEntry, NotDir, IsDir, NotEmpty, Invalid}
use Rattle.rk_calls.specs.declared.answer.Answer.TheVariants as answer
use Rattle.rk_waves.specs.Programs.{Reads, Ends, Sets, All}
use Rattle.rk_feet.specs.Changing.{is_dir, stands, gone}
use Rattle.rk_feet.specs.Checks.{no, row, climbing, strict, writing}
use Rattle.rk_feet.specs.Climbing.{Way, passes, climb}
use Rattle.rk_feet.specs.Named.{Name, Node, EntryOf, Entry, Value, names, Writes, Does}
use Rattle.rk_feet.specs.Naming.{same_name}
use Rattle.rk_feet.specs.Ways.{Place, Found, Absent, resolve}

-- what stands under a name goes under another one, over what stood there
pub record Move : Type 0 where
  pub node : Node
  pub from : Name × Text
  pub onto : Name × Text
  pub over : Option Node

abbrev pub moves : Move → Writes
moves m =
    (EntryOf m.from.0 m.from.1, Sets (Entry None)) ∷ (EntryOf m.onto.0 m.onto.1, Sets (Entry (Some m.node))) ∷ (stands m.node m.onto ++ gone m.over)

abbrev pub moved : Move → Does
moved m = Ends answer.Done (moves m)

-- over a directory in which no names stand
abbrev pub over_names : Move → Value → Does
over_names m a = if not (is_empty (names a)) then no NotEmpty else moved m

abbrev pub unless_full : Move → Option Node → Does
unless_full m None = moved m
unless_full m (Some over) = if is_dir over.what then Reads (All over.name) (over_names m) else moved m

-- a directory doesn't go into itself: it is none of those above its new place
abbrev pub unless_below : Move → Way → Does
unless_below m way = if is_dir m.node.what && passes way m.node.name then no Invalid else unless_full m m.over

-- a directory goes over a directory alone, a file or a link over none, and to no name with a slash after it
abbrev pub over_what : Node → Option Node → Bool → Does → Does
over_what n None slash then_does = if not (is_dir n.what) && slash then no NotDir else then_does
over_what n (Some over) slash then_does =
    if is_dir n.what && not (is_dir over.what) then no NotDir
    else if not (is_dir n.what) && is_dir over.what then no IsDir
    else then_does

abbrev pub renames : ℕ → Move → Bool → Does
renames passed m slash = writing m.from.0 (writing m.onto.0 (over_what m.node m.over slash (climb passed (unless_below m) m.onto.0)))

-- two names of one node stay as they are
abbrev pub onto_found : ℕ → Node → Name × Text → Node → Option (Name × Text) → Does
onto_found passed n from over None = no Invalid
onto_found passed n from over (Some onto) =
    if same_name n.name over.name then Ends answer.Done [] else renames passed (record { node = n; from = from; onto = onto; over = Some over }) false

-- neither path may be the root or end in `.` or `..`
abbrev pub rename_onto : Node → Option (Name × Text) → ℕ → Place → Does
rename_onto n None passed to = no Invalid
rename_onto n (Some from) passed (Found here) = onto_found passed n from here.node here.up
rename_onto n (Some from) passed (Absent dir name slash) = renames passed (record { node = n; from = from; onto = (dir, name); over = None }) slash

-- the second path is looked at first, whatever stands at the first one
abbrev pub rename_from : Text → Place → Does
rename_from b (Absent dir name slash) = resolve (row (λ to. no NoEntry)) false b
rename_from b (Found here) = resolve (climbing (rename_onto here.node here.up)) false b

abbrev pub does_rename : Text → Text → Does
does_rename a b = resolve (row (strict (rename_from b))) false a
