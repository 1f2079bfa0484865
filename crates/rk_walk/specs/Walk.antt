-- Where a path leads.
use Rattle.std.specs.Prelude.{ℕ, zero, suc, List, [], ◌∷◌, ◌++◌, Bool, true, false, not, ◌&&◌, ◌||◌, ◌==◌, if◌then◌else◌, Option, Some, None, Result, Ok, Err}
use Rattle.rk_base.specs.Text.{Text, is_slash, same_text, hidden, dot, dot_dot}
use Rattle.rk_base.specs.Canonical.{has_nul, is_empty, is_name}
use Rattle.rk_base.specs.declared.errno.Errno.{Errno}
use Rattle.rk_base.specs.declared.errno.Errno.TheVariants.{NoEntry, NotDir, Denied, Loops, Invalid}
use Rattle.rk_tree.specs.Entries.{is_dir}
use Rattle.rk_tree.specs.Hierarchy.{Hierarchy, top, node, mode_of, has_x, child, parent_of}
use Rattle.rk_tree.specs.Node.{Node, File, Dir, Link}
use Rattle.rk_walk.specs.declared.place.Here.{Here}
use Rattle.rk_walk.specs.declared.place.Place.{Place}
use Rattle.rk_walk.specs.declared.place.Place.TheVariants.{Found, Absent}

-- Parts.

-- a component of a path, and all that stands after it: nothing, or a text that begins with a slash
pub record Part : Type 0 where
  pub name : Text
  pub after : Text

abbrev pub closed : Text → Text → List Part
closed [] after = []
closed (b ∷ bs) after = record { name = b ∷ bs; after = after } ∷ []

-- the components of a text, of which the first has begun with these bytes
abbrev pub parts_from : Text → Text → List Part
parts_from begun [] = closed begun []
parts_from begun (b ∷ bs) = if is_slash b then closed begun (b ∷ bs) ++ parts_from [] bs else parts_from (begun ++ b ∷ []) bs

unfoldable pub parts : Text → List Part
parts = parts_from []

-- Where a path leads, as a result of any type.

-- what is made of a path that leads to a node, or to a name that stands for nothing in a directory (with a slash after it or without), or that is refused
pub record Outcome (R : Type 0) : Type 0 where
  pub found : Here → R
  pub absent : ℕ → Text → Bool → R
  pub refused : Errno → R

abbrev pub here_at : ℕ → Here
here_at n = record { node = n; up = None; slash = true }

abbrev pub begins_slash : Text → Bool
begins_slash [] = false
begins_slash (b ∷ bs) = is_slash b

abbrev pub ends_slash : Part → Bool
ends_slash part = not (is_empty part.after)

-- what a component finds in the directory `at`: `on` goes on from there, `again` takes the text of a link in place of the component, before what stands after it
abbrev pub at_node : {R : Type 0} → Outcome R → Bool → (Text → Text → R) → (Here → R) → ℕ → Part → ℕ → Option Node → R
at_node outcome follow again on at part n None = outcome.refused NoEntry
at_node outcome follow again on at part n (Some (File mode bytes)) = if ends_slash part then outcome.refused NotDir else outcome.found (record { node = n; up = Some (at, part.name); slash = false })
at_node outcome follow again on at part n (Some (Dir mode)) = on (record { node = n; up = Some (at, part.name); slash = ends_slash part })
at_node outcome follow again on at part n (Some (Link text)) = if ends_slash part || follow then again text part.after else outcome.found (record { node = n; up = Some (at, part.name); slash = false })

abbrev pub at_child : {R : Type 0} → Outcome R → Hierarchy → Bool → (Text → Text → R) → (Here → R) → ℕ → Part → Bool → Option ℕ → R
at_child outcome tree follow again on at part last None = if last then outcome.absent at part.name (ends_slash part) else outcome.refused NoEntry
at_child outcome tree follow again on at part last (Some n) = at_node outcome follow again on at part n (node tree n)

abbrev pub at_parent : {R : Type 0} → Outcome R → (Here → R) → Part → Option ℕ → R
at_parent outcome on part None = outcome.refused NoEntry
at_parent outcome on part (Some up) = on (record { node = up; up = None; slash = ends_slash part })

abbrev pub at_part : {R : Type 0} → Outcome R → Hierarchy → Bool → (Text → Text → R) → (Here → R) → ℕ → Part → Bool → R
at_part outcome tree follow again on at part last =
    if not (is_dir (node tree at)) then outcome.refused NotDir
    else if not (has_x (mode_of (node tree at))) then outcome.refused Denied
    else if same_text part.name dot then on (record { node = at; up = None; slash = ends_slash part })
    else if same_text part.name dot_dot then at_parent outcome on part (parent_of tree at)
    else if not (is_name part.name) then outcome.refused Invalid
    else if (at == top) && same_text part.name hidden then outcome.refused Denied
    else at_child outcome tree follow again on at part last (child tree at part.name)

-- by cases on the first component
abbrev pub walk : {R : Type 0} → Outcome R → Hierarchy → Bool → (ℕ → Text → Text → R) → Here → List Part → R
walk outcome tree follow again here [] = outcome.found here
walk outcome tree follow again here (part ∷ later) =
    at_part outcome tree follow (again here.node) (λ on. walk outcome tree follow again on later) here.node part (is_empty later)

-- a text that begins with a slash starts at the root
abbrev pub start : ℕ → Text → Here
start at text = if begins_slash text then here_at top else here_at at

-- where a text, and what stands after it, lead from a directory, if `links` links more may be followed
unfoldable pub leads : {R : Type 0} → Outcome R → ℕ → Hierarchy → Bool → ℕ → Text → Text → R
leads outcome zero tree follow at text after = walk outcome tree follow (λ _ _ _. outcome.refused Loops) (start at text) (parts (text ++ after))
leads outcome (suc links) tree follow at text after = walk outcome tree follow (leads outcome links tree follow) (start at text) (parts (text ++ after))

-- where a path leads, with its last link followed or not
abbrev pub resolve_as : {R : Type 0} → Outcome R → Hierarchy → Text → Bool → R
resolve_as outcome tree [] follow = outcome.refused NoEntry
resolve_as outcome tree (b ∷ bs) follow = if not (is_slash b) || has_nul (b ∷ bs) then outcome.refused Invalid else leads outcome 32 tree follow top (b ∷ bs) []

-- Where a path leads: to a place, or an error.

abbrev pub Spot : Type 0
Spot = Result Place Errno

abbrev pub as_spot : Outcome Spot
as_spot = record { found = λ here. Ok (Found here); absent = λ dir name slash. Ok (Absent dir name slash); refused = λ e. Err e }

abbrev pub resolve : Hierarchy → Text → Bool → Spot
resolve = resolve_as as_spot
