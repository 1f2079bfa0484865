-- What the rows of the table of calls are made of: refusals, in order, and then an effect.
use Rattle.std.specs.Prelude.{ℕ, List, [], ◌∷◌, Bool, true, false, not, ◌==◌, if◌then◌else◌, Option, Some, None, Ok, Err}
use Rattle.rk_base.specs.Text.{Text}
use Rattle.rk_base.specs.declared.errno.Errno.{Errno}
use Rattle.rk_base.specs.declared.errno.Errno.TheVariants.{NoEntry}
use Rattle.rk_calls.specs.declared.answer.Answer.{Answer}
use Rattle.rk_calls.specs.declared.answer.Answer.TheVariants as answer
use Rattle.rk_calls.specs.Given.{Given}
use Rattle.rk_calls.specs.Refs.{RefsHeld}
use Rattle.rk_tree.specs.Entries.{is_dir}
use Rattle.rk_tree.specs.Hierarchy.{Hierarchy, node, mode_of}
use Rattle.rk_tree.specs.Refusals.{has_names, is_there, lacks_w}
use Rattle.rk_tree.specs.Node.{Node}
use Rattle.rk_walk.specs.Walk.{Spot}
use Rattle.rk_walk.specs.declared.place.Place.{Place}
use Rattle.rk_walk.specs.declared.place.Place.TheVariants.{Found, Absent}
use Rattle.rk_kernel.specs.World.{World, with_tree}

-- a refusal changes nothing
abbrev pub refused : World → RefsHeld → Errno → Given World
refused world refs e = record { answer = answer.No e; refs = refs; world = world }

-- an answer, and the world after it
abbrev pub giving : World → RefsHeld → Answer → Given World
giving world refs it = record { answer = it; refs = refs; world = world }

-- the tree has become this one
abbrev pub done : World → RefsHeld → Hierarchy → Given World
done world refs tree = giving (with_tree world tree) refs answer.Done

-- the first of these that holds is the refusal
abbrev pub unless : World → RefsHeld → List (Bool × Errno) → Given World → Given World
unless world refs [] given = given
unless world refs (check ∷ checks) given = if check.0 then refused world refs check.1 else unless world refs checks given

-- what a change of the tree gives by its refusal
abbrev pub changed : World → RefsHeld → Option Errno → Hierarchy → Given World
changed world refs None tree = done world refs tree
changed world refs (Some e) tree = refused world refs e

-- what a row gives at the place that a path leads to, unless something stands in the way of the path
abbrev pub at_place : World → RefsHeld → Spot → (Place → Given World) → Given World
at_place world refs (Err e) row = refused world refs e
at_place world refs (Ok place) row = row place

-- an absent name with a slash after it is no entry, but to Mkdir and to the second path of Rename
abbrev pub strict : Spot → Spot
strict (Err e) = Err e
strict (Ok (Found at)) = Ok (Found at)
strict (Ok (Absent dir name slash)) = if slash then Err NoEntry else Ok (Absent dir name slash)

-- What stands at a place.

abbrev pub is_absent : Place → Bool
is_absent (Found at) = false
is_absent (Absent dir name slash) = true

abbrev pub node_at : World → Place → Option Node
node_at world (Found at) = node world.tree at.node
node_at world (Absent dir name slash) = None

abbrev pub dir_at : World → Place → Bool
dir_at world place = is_dir (node_at world place)

abbrev pub mode_at : World → Place → ℕ
mode_at world place = mode_of (node_at world place)

-- whether names stand in the directory there
abbrev pub names_stand_at : World → Place → Bool
names_stand_at world (Found at) = has_names world.tree at.node
names_stand_at world (Absent dir name slash) = false

abbrev pub same_node : Place → Place → Bool
same_node (Found a) (Found b) = a.node == b.node
same_node _ _ = false

-- The name of a place.

-- a name in a directory; the root, and what a last `.` or `..` found, has none
abbrev pub name_at : Place → Option (ℕ × Text)
name_at (Found at) = at.up
name_at (Absent dir name slash) = Some (dir, name)

abbrev pub is_nameless : Place → Bool
is_nameless place = not (is_there (name_at place))

abbrev pub lacks_w_above : World → Option (ℕ × Text) → Bool
lacks_w_above world None = false
lacks_w_above world (Some up) = lacks_w world.tree up.0

-- the directory that gains or loses the name lacks `w`
abbrev pub lacks_w_at : World → Place → Bool
lacks_w_at world place = lacks_w_above world (name_at place)

-- a slash stands after an absent name
abbrev pub has_slash : Place → Bool
has_slash (Found at) = false
has_slash (Absent dir name slash) = slash
