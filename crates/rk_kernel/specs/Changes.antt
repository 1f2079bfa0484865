-- The calls that change the tree, at the places that their paths lead to.
use Rattle.std.specs.Prelude.{ℕ, List, [], ◌∷◌, nat_lt, Bool, false, not, ◌&&◌, ◌||◌, if◌then◌else◌, Option, Some, None}
use Rattle.rk_base.specs.Text.{Text}
use Rattle.rk_base.specs.Canonical.{has_nul, is_empty}
use Rattle.rk_base.specs.declared.errno.Errno.{Errno}
use Rattle.rk_base.specs.declared.errno.Errno.TheVariants.{NoEntry, NotDir, IsDir, Exists, Denied, NotEmpty, Invalid}
use Rattle.rk_calls.specs.declared.answer.Answer.TheVariants as answer
use Rattle.rk_calls.specs.Given.{Given}
use Rattle.rk_calls.specs.Refs.{RefsHeld}
use Rattle.rk_tree.specs.Hierarchy.{Hierarchy, added, linked, removed, renamed, set_mode}
use Rattle.rk_tree.specs.Refusals.{goes_below}
use Rattle.rk_tree.specs.Node.{Node, Dir, Link}
use Rattle.rk_walk.specs.declared.place.Place.{Place}
use Rattle.rk_walk.specs.declared.place.Place.TheVariants.{Found, Absent}
use Rattle.rk_kernel.specs.World.{World}
use Rattle.rk_kernel.specs.Rows.{giving, done, unless, is_absent, dir_at, names_stand_at, same_node, name_at, is_nameless, lacks_w_at, has_slash}

-- Mkdir

-- a new node under a name
abbrev pub added_at : Hierarchy → Option (ℕ × Text) → Node → Hierarchy
added_at tree None it = tree
added_at tree (Some up) it = added tree up.0 up.1 it

abbrev pub mkdir_refusals : World → ℕ → Place → List (Bool × Errno)
mkdir_refusals world mode place = (nat_lt 511 mode, Invalid) ∷ (not (is_absent place), Exists) ∷ (lacks_w_at world place, Denied) ∷ []

abbrev pub mkdir_at : World → RefsHeld → ℕ → Place → Given World
mkdir_at world refs mode place =
    unless world refs (mkdir_refusals world mode place) (done world refs (added_at world.tree (name_at place) (Dir mode)))

-- Rmdir: the root, and what a last `.` or `..` found, isn't removed

-- a name stands for nothing
abbrev pub removed_at : Hierarchy → Option (ℕ × Text) → Hierarchy
removed_at tree None = tree
removed_at tree (Some up) = removed tree up.0 up.1

abbrev pub rmdir_refusals : World → Place → List (Bool × Errno)
rmdir_refusals world place =
    (is_absent place, NoEntry) ∷ (is_nameless place, Invalid) ∷ (not (dir_at world place), NotDir) ∷ (names_stand_at world place, NotEmpty) ∷ (lacks_w_at world place, Denied) ∷ []

abbrev pub rmdir_at : World → RefsHeld → Place → Given World
rmdir_at world refs place = unless world refs (rmdir_refusals world place) (done world refs (removed_at world.tree (name_at place)))

-- Unlink

abbrev pub unlink_refusals : World → Place → List (Bool × Errno)
unlink_refusals world place = (is_absent place, NoEntry) ∷ (dir_at world place, IsDir) ∷ (lacks_w_at world place, Denied) ∷ []

abbrev pub unlink_at : World → RefsHeld → Place → Given World
unlink_at world refs place = unless world refs (unlink_refusals world place) (done world refs (removed_at world.tree (name_at place)))

-- Rename: two names of one node stay as they are

-- a directory would go into itself
abbrev pub goes_into_itself : World → Place → Option (ℕ × Text) → Bool
goes_into_itself world (Found at) (Some up) = goes_below world.tree at.node up.0
goes_into_itself world _ _ = false

-- what stands under a name goes under another
abbrev pub renamed_at : Hierarchy → Option (ℕ × Text) → Option (ℕ × Text) → Hierarchy
renamed_at tree (Some from) (Some to) = renamed tree from.0 from.1 to.0 to.1
renamed_at tree _ _ = tree

abbrev pub rename_refusals : World → Place → Place → List (Bool × Errno)
rename_refusals world from to =
    (lacks_w_at world from, Denied) ∷ (lacks_w_at world to, Denied)
    ∷ (dir_at world from && (not (is_absent to) && not (dir_at world to)), NotDir) ∷ (not (dir_at world from) && has_slash to, NotDir)
    ∷ (not (dir_at world from) && dir_at world to, IsDir) ∷ (goes_into_itself world from (name_at to), Invalid) ∷ (names_stand_at world to, NotEmpty) ∷ []

abbrev pub moved_at : World → RefsHeld → Place → Place → Given World
moved_at world refs from to = unless world refs (rename_refusals world from to) (done world refs (renamed_at world.tree (name_at from) (name_at to)))

-- neither path may be the root or end in `.` or `..`
abbrev pub rename_at : World → RefsHeld → Place → Place → Given World
rename_at world refs from to =
    unless world refs ((is_absent from, NoEntry) ∷ (is_nameless from || is_nameless to, Invalid) ∷ [])
    (if same_node from to then giving world refs answer.Done else moved_at world refs from to)

-- Symlink

abbrev pub symlink_refusals : World → Text → Place → List (Bool × Errno)
symlink_refusals world text place = (is_empty text, NoEntry) ∷ (has_nul text, Invalid) ∷ (not (is_absent place), Exists) ∷ (lacks_w_at world place, Denied) ∷ []

abbrev pub symlink_at : World → RefsHeld → Text → Place → Given World
symlink_at world refs text place =
    unless world refs (symlink_refusals world text place) (done world refs (added_at world.tree (name_at place) (Link text)))

-- Link: a directory has no second name

-- what was found, under one name more
abbrev pub linked_at : Hierarchy → Place → Option (ℕ × Text) → Hierarchy
linked_at tree (Found at) (Some up) = linked tree up.0 up.1 at.node
linked_at tree _ _ = tree

abbrev pub link_refusals : World → Place → Place → List (Bool × Errno)
link_refusals world from to = (is_absent from, NoEntry) ∷ (dir_at world from, Denied) ∷ (not (is_absent to), Exists) ∷ (lacks_w_at world to, Denied) ∷ []

abbrev pub link_at : World → RefsHeld → Place → Place → Given World
link_at world refs from to = unless world refs (link_refusals world from to) (done world refs (linked_at world.tree from (name_at to)))

-- Chmod

abbrev pub with_mode_at : Hierarchy → Place → ℕ → Hierarchy
with_mode_at tree (Found at) mode = set_mode tree at.node mode
with_mode_at tree (Absent dir name slash) mode = tree

abbrev pub chmod_at : World → RefsHeld → ℕ → Place → Given World
chmod_at world refs mode place = unless world refs ((nat_lt 511 mode, Invalid) ∷ (is_absent place, NoEntry) ∷ []) (done world refs (with_mode_at world.tree place mode))
