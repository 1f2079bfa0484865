-- The calls that change nothing, at the places that their paths lead to.
use Rattle.std.specs.Prelude.{ℕ, ◌%◌, List, [], ◌∷◌, Bool, true, false, not, Option, Some, None}
use Rattle.rk_base.specs.Text.{Text}
use Rattle.rk_base.specs.Canonical.{is_empty}
use Rattle.rk_base.specs.declared.errno.Errno.{Errno}
use Rattle.rk_base.specs.declared.errno.Errno.TheVariants.{NoEntry, NotDir, Denied, Invalid}
use Rattle.rk_base.specs.declared.file_type.FileType.TheVariants as kind
use Rattle.rk_calls.specs.declared.answer.Answer.{Answer}
use Rattle.rk_calls.specs.declared.answer.Answer.TheVariants as answer
use Rattle.rk_calls.specs.Given.{Given}
use Rattle.rk_calls.specs.Refs.{RefsHeld}
use Rattle.rk_tree.specs.Hierarchy.{has_r, has_x, names, path_of, text_of}
use Rattle.rk_tree.specs.Content.{bytes_of}
use Rattle.rk_tree.specs.Node.{Node, File, Dir, Link}
use Rattle.rk_walk.specs.declared.place.Place.{Place}
use Rattle.rk_walk.specs.declared.place.Place.TheVariants.{Found, Absent}
use Rattle.rk_kernel.specs.World.{World}
use Rattle.rk_kernel.specs.Rows.{giving, unless, is_absent, node_at, dir_at, mode_at, same_node}

-- Stat: the kind, the mode, and whether it is a file without bytes

-- the permission bits of a mode; no node of a whole tree has others
abbrev pub permissions : ℕ → ℕ
permissions mode = mode % 512

abbrev pub stat_of : Option Node → Answer
stat_of None = answer.No NoEntry
stat_of (Some (File mode content)) = answer.Stat kind.File (permissions mode) (is_empty (bytes_of content))
stat_of (Some (Dir mode)) = answer.Stat kind.Dir (permissions mode) false
stat_of (Some (Link text)) = answer.Stat kind.Link 511 false

abbrev pub stat_at : World → RefsHeld → Place → Given World
stat_at world refs place = unless world refs ((is_absent place, NoEntry) ∷ []) (giving world refs (stat_of (node_at world place)))

-- List: the names in a directory

abbrev pub names_at : World → Place → List Text
names_at world (Found at) = names world.tree at.node
names_at world (Absent dir name slash) = []

abbrev pub list_refusals : World → Place → List (Bool × Errno)
list_refusals world place = (is_absent place, NoEntry) ∷ (not (dir_at world place), NotDir) ∷ (not (has_r (mode_at world place)), Denied) ∷ []

abbrev pub list_at : World → RefsHeld → Place → Given World
list_at world refs place = unless world refs (list_refusals world place) (giving world refs (answer.Names (names_at world place)))

-- ReadLink: the text of a link

abbrev pub is_link : Option Node → Bool
is_link (Some (Link text)) = true
is_link _ = false

abbrev pub read_link_refusals : World → Place → List (Bool × Errno)
read_link_refusals world place = (is_absent place, NoEntry) ∷ (not (is_link (node_at world place)), Invalid) ∷ []

abbrev pub read_link_at : World → RefsHeld → Place → Given World
read_link_at world refs place = unless world refs (read_link_refusals world place) (giving world refs (answer.Text (text_of (node_at world place))))

-- Walk: the canonical path of a directory

-- a directory that a path leads to has a path
abbrev pub place_of : Option Text → Answer
place_of None = answer.No NoEntry
place_of (Some path) = answer.Place path

abbrev pub path_at : World → Place → Option Text
path_at world (Found at) = path_of world.tree at.node
path_at world (Absent dir name slash) = None

abbrev pub walk_refusals : World → Place → List (Bool × Errno)
walk_refusals world place = (is_absent place, NoEntry) ∷ (not (dir_at world place), NotDir) ∷ (not (has_x (mode_at world place)), Denied) ∷ []

abbrev pub walk_at : World → RefsHeld → Place → Given World
walk_at world refs place = unless world refs (walk_refusals world place) (giving world refs (place_of (path_at world place)))

-- Same: whether two paths lead to one node

abbrev pub same_at : World → RefsHeld → Place → Place → Given World
same_at world refs a b =
    unless world refs ((is_absent a, NoEntry) ∷ (is_absent b, NoEntry) ∷ []) (giving world refs (answer.Same (same_node a b)))
