-- What a foot is made of: cells that are read and cells that are written, one after another, up to the check that refuses a call.
use Rattle.std.specs.Prelude.{ℕ, zero, suc, List, [], ◌∷◌, ◌++◌, map, Bool, if◌then◌else◌, Option, Some, None, Ok, Err}
use Rattle.rk_base.specs.Text.{Text, depth}
use Rattle.rk_base.specs.declared.errno.Errno.{Errno}
use Rattle.rk_tree.specs.Entries.{is_dir}
use Rattle.rk_tree.specs.Hierarchy.{Hierarchy, node, parent_of, path_of}
use Rattle.rk_walk.specs.Walk.{Spot}
use Rattle.rk_walk.specs.Way.{way}
use Rattle.rk_walk.specs.declared.place.Place.{Place}
use Rattle.rk_walk.specs.declared.place.Place.TheVariants.{Found, Absent}
use Rattle.rk_walk.specs.declared.seen.Seen.{Seen}
use Rattle.rk_walk.specs.declared.seen.Seen.TheVariants as seen
use Rattle.rk_kernel.specs.World.{World}
use Rattle.rk_kernel.specs.declared.cell.Cell.{Cell}
use Rattle.rk_kernel.specs.declared.cell.Cell.TheVariants.{Entry, Names, Above, Mode}
use Rattle.rk_kernel.specs.declared.foot.Foot.{Foot}

-- Feet.

abbrev pub nothing : Foot
nothing = record { reads = []; writes = [] }

abbrev pub reading : List Cell → Foot
reading cells = record { reads = cells; writes = [] }

abbrev pub writing : List Cell → Foot
writing cells = record { reads = []; writes = cells }

-- one, and then the other
abbrev pub both : Foot → Foot → Foot
both a b = record { reads = a.reads ++ b.reads; writes = a.writes ++ b.writes }

-- The checks of a row, each with the cells that it sees (the last ones may see none), and then what the call does. By the first check
-- that holds it is refused: it has read what its checks saw, and writes nothing.
abbrev pub checked : List (Bool × Errno) → List (List Cell) → Foot → Foot
checked [] sees foot = foot
checked (check ∷ checks) [] foot = if check.0 then nothing else checked checks [] foot
checked (check ∷ checks) (cells ∷ sees) foot = both (reading cells) (if check.0 then nothing else checked checks sees foot)

-- Cells of a path.

abbrev pub cell_seen : Seen → Cell
cell_seen (seen.Mode dir) = Mode dir
cell_seen (seen.Above dir) = Above dir
cell_seen (seen.Entry dir name) = Entry dir name

-- the mode and the entry of each directory passed, and where one stands that is left by `..`
abbrev pub way_cells : World → Text → Bool → List Cell
way_cells world path follow = map cell_seen (way world.tree path follow)

abbrev pub at_spot : Spot → (Place → Foot) → Foot
at_spot (Err e) row = nothing
at_spot (Ok place) row = row place

-- the way of a path, and then a row at the place that it leads to, unless something stands in the way
abbrev pub along : World → Text → Bool → Spot → (Place → Foot) → Foot
along world path follow spot row = both (reading (way_cells world path follow)) (at_spot spot row)

-- Cells of a place.

-- the mode of what was found
abbrev pub mode_cells : Place → List Cell
mode_cells (Found at) = Mode at.node ∷ []
mode_cells (Absent dir name slash) = []

-- all entries of the directory that was found
abbrev pub names_cells : Place → List Cell
names_cells (Found at) = Names at.node ∷ []
names_cells (Absent dir name slash) = []

-- where a directory stands that was found
abbrev pub above_cells : World → Place → List Cell
above_cells world (Found at) = if is_dir (node world.tree at.node) then Above at.node ∷ [] else []
above_cells world (Absent dir name slash) = []

-- Cells of a name in a directory.

-- the mode of the directory that gains or loses the name
abbrev pub dir_mode : Option (ℕ × Text) → List Cell
dir_mode None = []
dir_mode (Some up) = Mode up.0 ∷ []

-- the entry, and so all entries of the directory
abbrev pub entry_cells : Option (ℕ × Text) → List Cell
entry_cells None = []
entry_cells (Some up) = Entry up.0 up.1 ∷ Names up.0 ∷ []

-- Where a directory and all above it stand.

abbrev pub levels_of : Option Text → ℕ
levels_of None = 0
levels_of (Some path) = depth path

abbrev pub higher : Option ℕ → (ℕ → List Cell) → List Cell
higher None above = []
higher (Some up) above = above up

-- so many levels up
abbrev pub upwards_by : ℕ → Hierarchy → ℕ → List Cell
upwards_by zero tree dir = Above dir ∷ []
upwards_by (suc levels) tree dir = Above dir ∷ higher (parent_of tree dir) (upwards_by levels tree)

-- up to the root
abbrev pub upwards : Hierarchy → ℕ → List Cell
upwards tree dir = upwards_by (levels_of (path_of tree dir)) tree dir

-- of the directory that is to gain a name
abbrev pub upwards_from : Hierarchy → Option (ℕ × Text) → List Cell
upwards_from tree None = []
upwards_from tree (Some up) = upwards tree up.0
