-- The programs of the calls that change nothing.
use Rattle.std.specs.Prelude.{ℕ, [], Bool, true, false, not, if◌then◌else◌}
use Rattle.rk_base.specs.Text.{Text, root}
use Rattle.rk_base.specs.Canonical.{is_empty}
use Rattle.rk_base.specs.declared.errno.Errno.TheVariants.{NoEntry, NotDir, Denied, Invalid}
use Rattle.rk_calls.specs.declared.answer.Answer.TheVariants as answer
use Rattle.rk_tree.specs.Hierarchy.{has_r, has_x}
use Rattle.rk_tree.specs.Names.{path_by}
use Rattle.rk_base.specs.declared.file_type.FileType.TheVariants as kind
use Rattle.rk_kernel.specs.Questions.{permissions}
use Rattle.rk_waves.specs.Programs.{Reads, Ends, One, All}
use Rattle.rk_feet.specs.Named.{Name, What, File, Dir, Link, ModeOf, BytesOf, Value, mode, bytes, names, Does}
use Rattle.rk_feet.specs.Naming.{same_name}
use Rattle.rk_feet.specs.Ways.{Place, Found, Absent, resolve}
use Rattle.rk_feet.specs.Checks.{no, row, climbing, strict}
use Rattle.rk_feet.specs.Climbing.{Way, names_of, climb}

-- List

abbrev pub list_names : Value → Does
list_names a = Ends (answer.Names (names a)) []

abbrev pub list_mode : Name → Value → Does
list_mode n m = if not (has_r (mode m)) then no Denied else Reads (All n) list_names

abbrev pub list_what : Name → What → Does
list_what n File = no NotDir
list_what n Dir = Reads (One (ModeOf n)) (list_mode n)
list_what n (Link text) = no NotDir

abbrev pub list_at : Place → Does
list_at (Found here) = list_what here.node.name here.node.what
list_at (Absent dir name slash) = no NoEntry

abbrev pub does_list : Text → Does
does_list path = resolve (row (strict list_at)) true path

-- Stat

abbrev pub stat_bytes : Value → Value → Does
stat_bytes m b = Ends (answer.Stat kind.File (permissions (mode m)) (is_empty (bytes b))) []

abbrev pub stat_file : Name → Value → Does
stat_file n m = Reads (One (BytesOf n)) (stat_bytes m)

abbrev pub stat_dir : Value → Does
stat_dir m = Ends (answer.Stat kind.Dir (permissions (mode m)) false) []

abbrev pub stat_what : Name → What → Does
stat_what n File = Reads (One (ModeOf n)) (stat_file n)
stat_what n Dir = Reads (One (ModeOf n)) stat_dir
stat_what n (Link text) = Ends (answer.Stat kind.Link 511 false) []

abbrev pub stat_at : Place → Does
stat_at (Found here) = stat_what here.node.name here.node.what
stat_at (Absent dir name slash) = no NoEntry

abbrev pub does_stat : Text → Bool → Does
does_stat path follow = resolve (row stat_at) follow path

-- ReadLink

abbrev pub read_link_what : What → Does
read_link_what File = no Invalid
read_link_what Dir = no Invalid
read_link_what (Link text) = Ends (answer.Text text) []

abbrev pub read_link_at : Place → Does
read_link_at (Found here) = read_link_what here.node.what
read_link_at (Absent dir name slash) = no NoEntry

abbrev pub does_read_link : Text → Does
does_read_link path = resolve (row (strict read_link_at)) false path

-- Same

abbrev pub same_at : Place → Place → Does
same_at (Found a) (Found b) = Ends (answer.Same (same_name a.node.name b.node.name)) []
same_at (Found a) (Absent dir name slash) = no NoEntry
same_at (Absent d n s) (Found b) = no NoEntry
same_at (Absent d n s) (Absent dir name slash) = no NoEntry

abbrev pub same_from : Text → Place → Does
same_from b first = resolve (row (strict (same_at first))) true b

abbrev pub does_same : Text → Text → Does
does_same a b = resolve (row (strict (same_from b))) true a

-- Walk: the names on the way up are the path

abbrev pub walked : Way → Does
walked way = Ends (answer.Place (path_by root (names_of way))) []

abbrev pub walk_mode : ℕ → Name → Value → Does
walk_mode passed n m = if not (has_x (mode m)) then no Denied else climb passed walked n

abbrev pub walk_what : ℕ → Name → What → Does
walk_what passed n File = no NotDir
walk_what passed n Dir = Reads (One (ModeOf n)) (walk_mode passed n)
walk_what passed n (Link text) = no NotDir

abbrev pub walk_at : ℕ → Place → Does
walk_at passed (Found here) = walk_what passed here.node.name here.node.what
walk_at passed (Absent dir name slash) = no NoEntry

abbrev pub does_walk : Text → Does
does_walk path = resolve (climbing (λ passed. strict (walk_at passed))) true path
