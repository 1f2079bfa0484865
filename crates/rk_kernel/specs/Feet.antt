-- The foot of a call: the cells that it reads and writes, a row for each call.
use Rattle.std.specs.Prelude.{◌≡◌, ℕ, List, [], ◌∷◌, ◌++◌, length, nat_lt, true, false, not, ◌+◌, ◌||◌, if◌then◌else◌, Option, Some, None, slice_get}
use Rattle.rk_base.specs.Text.{Text}
use Rattle.rk_base.specs.declared.errno.Errno.TheVariants.{NoEntry, IsDir, Denied, Invalid, BadRef}
use Rattle.rk_calls.specs.Refs.{RefsHeld, ref_at}
use Rattle.rk_calls.specs.declared.call.Call.{Call}
use Rattle.rk_calls.specs.declared.call.Call.TheVariants as call
use Rattle.rk_calls.specs.declared.call.How.{How}
use Rattle.rk_calls.specs.declared.call.How.TheVariants as how
use Rattle.rk_tree.specs.Entries.{is_dir}
use Rattle.rk_tree.specs.Full.{Told}
use Rattle.rk_tree.specs.Hierarchy.{node, mode_of}
use Rattle.rk_tree.specs.Node.{Node, File, Dir, Link}
use Rattle.rk_tree.specs.Refusals.{lacks_w}
use Rattle.rk_walk.specs.Walk.{resolve}
use Rattle.rk_walk.specs.declared.place.Place.{Place}
use Rattle.rk_walk.specs.declared.place.Place.TheVariants.{Found, Absent}
use Rattle.rk_kernel.specs.Changes.{mkdir_refusals, rmdir_refusals, unlink_refusals, rename_refusals, symlink_refusals, link_refusals}
use Rattle.rk_kernel.specs.Do.{followed, itself}
use Rattle.rk_kernel.specs.Full.{full_world}
use Rattle.rk_kernel.specs.Foot.{nothing, reading, writing, checked, along, mode_cells, names_cells, above_cells, dir_mode, entry_cells, upwards, upwards_from}
use Rattle.rk_kernel.specs.Opening.{is_read, lacks}
use Rattle.rk_kernel.specs.Questions.{list_refusals, walk_refusals}
use Rattle.rk_kernel.specs.Rows.{dir_at, is_absent, is_nameless, name_at, same_node}
use Rattle.rk_kernel.specs.World.{World}
use Rattle.rk_kernel.specs.declared.cell.Cell.{Cell}
use Rattle.rk_kernel.specs.declared.cell.Cell.TheVariants.{Entry, Names, Above, Mode, Bytes, Opened, Pipe, Output, ErrorText}
use Rattle.rk_kernel.specs.declared.description.Description.{Description}
use Rattle.rk_kernel.specs.declared.description.Source.{Source}
use Rattle.rk_kernel.specs.declared.description.Source.TheVariants as source
use Rattle.rk_kernel.specs.declared.foot.Foot.{Foot}

-- What is made gets the next number.

abbrev pub next_node : World → ℕ
next_node world = length world.tree.nodes

abbrev pub next_open : World → ℕ
next_open world = length world.opens

abbrev pub next_pipe : World → ℕ
next_pipe world = length world.pipes

-- Open: the mode of the file, or of the directory that gains it; a description, the bytes that Make empties, the entry of a made file

abbrev pub emptied_cells : How → ℕ → List Cell
emptied_cells how.Make n = Bytes n ∷ []
emptied_cells _ n = []

abbrev pub open_foot : World → How → Place → Foot
open_foot world how (Absent dir name slash) =
    checked ((is_read how, NoEntry) ∷ (lacks_w world.tree dir, Denied) ∷ []) ([] ∷ (Mode dir ∷ []) ∷ [])
    (writing (Opened (next_open world) ∷ Entry dir name ∷ Names dir ∷ []))
open_foot world how (Found at) =
    checked ((is_dir (node world.tree at.node), IsDir) ∷ (lacks how (mode_of (node world.tree at.node)), Denied) ∷ []) ([] ∷ (Mode at.node ∷ []) ∷ [])
    (writing (Opened (next_open world) ∷ emptied_cells how at.node))

-- Read and ReadLine: the description, and the bytes or the pipe; the description of a file, whose offset moves, or the pipe

abbrev pub source_cells : Source → List Cell
source_cells (source.Node n) = Bytes n ∷ []
source_cells (source.Pipe p) = Pipe p ∷ []
source_cells source.Output = []
source_cells source.ErrorText = []
source_cells source.Nothing = []

abbrev pub taken_cells : ℕ → Source → List Cell
taken_cells k (source.Node n) = Opened k ∷ []
taken_cells k (source.Pipe p) = Pipe p ∷ []
taken_cells k source.Output = []
taken_cells k source.ErrorText = []
taken_cells k source.Nothing = []

abbrev pub read_by_foot : ℕ → Option Description → Foot
read_by_foot k None = reading (Opened k ∷ [])
read_by_foot k (Some d) =
    checked ((not d.read, BadRef) ∷ []) ((Opened k ∷ []) ∷ []) (record { reads = source_cells d.source; writes = taken_cells k d.source })

abbrev pub read_foot : World → Option ℕ → Foot
read_foot world None = nothing
read_foot world (Some k) = read_by_foot k (slice_get world.opens k)

-- Write: the description; the bytes, the pipe, the output or the error text, and the description of a file without append

abbrev pub put_cells : ℕ → Description → Source → List Cell
put_cells k d (source.Node n) = Bytes n ∷ (if d.append then [] else Opened k ∷ [])
put_cells k d (source.Pipe p) = Pipe p ∷ []
put_cells k d source.Output = Output ∷ []
put_cells k d source.ErrorText = ErrorText ∷ []
put_cells k d source.Nothing = []

abbrev pub write_by_foot : ℕ → Option Description → Foot
write_by_foot k None = reading (Opened k ∷ [])
write_by_foot k (Some d) = checked ((not d.write, BadRef) ∷ []) ((Opened k ∷ []) ∷ []) (writing (put_cells k d d.source))

abbrev pub write_foot : World → Option ℕ → Foot
write_foot world None = nothing
write_foot world (Some k) = write_by_foot k (slice_get world.opens k)

-- Stat: the mode, and the bytes of a file; a link has neither

abbrev pub stat_cells : ℕ → Option Node → List Cell
stat_cells n None = []
stat_cells n (Some (File mode content)) = Mode n ∷ Bytes n ∷ []
stat_cells n (Some (Dir mode)) = Mode n ∷ []
stat_cells n (Some (Link text)) = []

abbrev pub stat_foot : World → Place → Foot
stat_foot world (Found at) = reading (stat_cells at.node (node world.tree at.node))
stat_foot world (Absent dir name slash) = nothing

-- List: the mode, and all entries

abbrev pub list_foot : World → Place → Foot
list_foot world place = checked (list_refusals world place) ([] ∷ [] ∷ mode_cells place ∷ []) (reading (names_cells place))

-- ReadLink and Same: the way alone

abbrev pub way_foot : Place → Foot
way_foot place = nothing

-- Walk: the mode, and where the directory and all above it stand

abbrev pub walk_upwards : World → Place → List Cell
walk_upwards world (Found at) = upwards world.tree at.node
walk_upwards world (Absent dir name slash) = []

abbrev pub walk_foot : World → Place → Foot
walk_foot world place = checked (walk_refusals world place) ([] ∷ [] ∷ mode_cells place ∷ []) (reading (walk_upwards world place))

-- Mkdir, Symlink, Link and Unlink: the mode of the directory; the entry, and where a made directory stands

abbrev pub mkdir_foot : World → ℕ → Place → Foot
mkdir_foot world mode place =
    checked (mkdir_refusals world mode place) ([] ∷ [] ∷ dir_mode (name_at place) ∷ []) (writing (entry_cells (name_at place) ++ Above (next_node world) ∷ []))

abbrev pub symlink_foot : World → Text → Place → Foot
symlink_foot world text place = checked (symlink_refusals world text place) ([] ∷ [] ∷ [] ∷ dir_mode (name_at place) ∷ []) (writing (entry_cells (name_at place)))

abbrev pub link_foot : World → Place → Place → Foot
link_foot world from to = checked (link_refusals world from to) ([] ∷ [] ∷ [] ∷ dir_mode (name_at to) ∷ []) (writing (entry_cells (name_at to)))

abbrev pub unlink_foot : World → Place → Foot
unlink_foot world place = checked (unlink_refusals world place) ([] ∷ [] ∷ dir_mode (name_at place) ∷ []) (writing (entry_cells (name_at place)))

-- Rmdir: all entries of it, and the mode of the directory that loses it; the entry, and where it stands

abbrev pub rmdir_foot : World → Place → Foot
rmdir_foot world place =
    checked (rmdir_refusals world place) ([] ∷ [] ∷ [] ∷ names_cells place ∷ dir_mode (name_at place) ∷ [])
    (writing (entry_cells (name_at place) ++ above_cells world place))

-- Rename: the modes of both directories, where the second one and all above it stand, all entries of a directory that is replaced; both entries,
-- and where directories stand that are moved or replaced. Two names of one node stay as they are.

-- where a directory stood that is replaced
abbrev pub over_cells : World → Option ℕ → List Cell
over_cells world None = []
over_cells world (Some n) = if is_dir (node world.tree n) then Above n ∷ [] else []

-- all entries of a directory that is replaced
abbrev pub replaced_cells : World → Place → List Cell
replaced_cells world place = if dir_at world place then names_cells place else []

abbrev pub moved_sees : World → Place → Place → List (List Cell)
moved_sees world from to =
    dir_mode (name_at from) ∷ dir_mode (name_at to) ∷ [] ∷ [] ∷ [] ∷ upwards_from world.tree (name_at to) ∷ replaced_cells world to ∷ []

abbrev pub moved_foot : World → Place → Place → Foot
moved_foot world from to =
    checked (rename_refusals world from to) (moved_sees world from to)
    (writing (entry_cells (name_at from) ++ (entry_cells (name_at to) ++ (above_cells world from ++ above_cells world to))))

abbrev pub rename_foot : World → Place → Place → Foot
rename_foot world from to =
    checked ((is_absent from, NoEntry) ∷ (is_nameless from || is_nameless to, Invalid) ∷ []) []
    (if same_node from to then nothing else moved_foot world from to)

-- Chmod: the mode

abbrev pub chmod_foot : ℕ → Place → Foot
chmod_foot mode place = checked ((nat_lt 511 mode, Invalid) ∷ (is_absent place, NoEntry) ∷ []) [] (writing (mode_cells place))

-- Pipe: two descriptions, and the pipe

abbrev pub pipe_foot : World → Foot
pipe_foot world = writing (Opened (next_open world) ∷ Opened (next_open world + 1) ∷ Pipe (next_pipe world) ∷ [])

-- by cases on the call; a launch isn't the world's to answer
abbrev pub foot_by : World → RefsHeld → Call → Foot
foot_by world refs (call.Open path how) = along world path true (followed world path) (open_foot world how)
foot_by world refs (call.Read r) = read_foot world (ref_at refs r)
foot_by world refs (call.ReadLine r) = read_foot world (ref_at refs r)
foot_by world refs (call.Write r bytes) = write_foot world (ref_at refs r)
foot_by world refs (call.Stat path follow) = along world path follow (resolve world.tree path follow) (stat_foot world)
foot_by world refs (call.List path) = along world path true (followed world path) (list_foot world)
foot_by world refs (call.ReadLink path) = along world path false (itself world path) way_foot
foot_by world refs (call.Walk path) = along world path true (followed world path) (walk_foot world)
foot_by world refs (call.Same a b) = along world a true (followed world a) (λ first. along world b true (followed world b) way_foot)
foot_by world refs (call.Mkdir path mode) = along world path false (resolve world.tree path false) (mkdir_foot world mode)
foot_by world refs (call.Rmdir path) = along world path false (itself world path) (rmdir_foot world)
foot_by world refs (call.Unlink path) = along world path false (itself world path) (unlink_foot world)
foot_by world refs (call.Rename a b) = along world a false (itself world a) (λ from. along world b false (resolve world.tree b false) (rename_foot world from))
foot_by world refs (call.Symlink text path) = along world path false (itself world path) (symlink_foot world text)
foot_by world refs (call.Link a b) = along world a false (itself world a) (λ from. along world b false (itself world b) (link_foot world from))
foot_by world refs (call.Chmod path mode) = along world path true (followed world path) (chmod_foot mode)
foot_by world refs call.Pipe = pipe_foot world
foot_by world refs (call.Launch key map) = nothing

-- A foot asks for no bytes: it is that of the world in full.
abbrev pub FootAsksNoBytes : Type 0
FootAsksNoBytes = (told : Told) (world : World) (refs : RefsHeld) (c : Call) → foot_by (full_world told world) refs c ≡ foot_by world refs c
