-- Where a path leads, as a program: it reads the mode and the entry of each directory passed, and where one stands that is left by `..`.
use Rattle.std.specs.Prelude.{ℕ, zero, suc, List, [], ◌∷◌, ◌++◌, Bool, true, false, not, ◌&&◌, ◌||◌, if◌then◌else◌, Option, Some, None}
use Rattle.rk_base.specs.Text.{Text, is_root, is_slash, same_text, hidden, dot, dot_dot}
use Rattle.rk_base.specs.Canonical.{has_nul, is_empty, is_name}
use Rattle.rk_base.specs.declared.errno.Errno.{Errno}
use Rattle.rk_base.specs.declared.errno.Errno.TheVariants.{NoEntry, NotDir, Denied, Loops, Invalid}
use Rattle.rk_tree.specs.Hierarchy.{has_x}
use Rattle.rk_walk.specs.Walk.{Part, parts, begins_slash, ends_slash}
use Rattle.rk_waves.specs.Programs.{Reads, One}
use Rattle.rk_feet.specs.Named.{Name, Start, What, File, Dir, Link, Node, EntryOf, AboveOf, ModeOf, node, above, mode, Does, top}

pub record Here : Type 0 where
  pub node : Node
  pub up : Option (Name × Text)
  pub slash : Bool

pub data Place : Type 0 where
  Found : (here : Here) → Place
  Absent : (dir : Name) (name : Text) (slash : Bool) → Place

-- What is made of a place, or of a refusal on the way. A directory at the place stands no deeper than as many components as were passed.
pub record Row : Type 0 where
  pub at : (passed : ℕ) → Place → Does
  pub refused : Errno → Does

abbrev pub dir : Name → Node
dir n = record { name = n; what = Dir }

abbrev pub here_at : Name → Here
here_at n = record { node = dir n; up = None; slash = true }

abbrev pub is_top : Name → Bool
is_top (Start path) = is_root path
is_top _ = false

abbrev pub start : Name → Text → Here
start at text = if begins_slash text then here_at top else here_at at

-- how a path goes on behind a component: by the text of a link, before what stands after it, or from a directory
pub record Ahead : Type 0 where
  pub again : Text → Text → Does
  pub on : Here → Does

module _ (row : Row) (follow : Bool) where
  -- what a component finds under its name in a directory
  abbrev pub at_node : Ahead → ℕ → Name → Part → Bool → Option Node → Does
  at_node ahead passed up part last None = if last then row.at passed (Absent up part.name (ends_slash part)) else row.refused NoEntry
  at_node ahead passed up part last (Some n) = by_what n.what
    where
      here : Bool → Here
      here slash = record { node = n; up = Some (up, part.name); slash = slash }

      by_what : What → Does
      by_what File = if ends_slash part then row.refused NotDir else row.at passed (Found (here false))
      by_what Dir = ahead.on (here (ends_slash part))
      by_what (Link text) = if ends_slash part || follow then ahead.again text part.after else row.at passed (Found (here false))

  abbrev pub at_parent : Ahead → Part → Option (Name × Text) → Does
  at_parent ahead part None = row.refused NoEntry
  at_parent ahead part (Some up) = ahead.on (record { node = dir up.0; up = None; slash = ends_slash part })

  -- a component, in a directory that stands no deeper than so many components
  abbrev pub at_part : Ahead → ℕ → Name → Part → Bool → Does
  at_part ahead passed at part last = Reads (One (ModeOf at)) λ m.
      if not (has_x (mode m)) then row.refused Denied
      else if same_text part.name dot then ahead.on (record { node = dir at; up = None; slash = ends_slash part })
      else if same_text part.name dot_dot then Reads (One (AboveOf at)) (λ u. at_parent ahead part (above u))
      else if not (is_name part.name) then row.refused Invalid
      else if is_top at && same_text part.name hidden then row.refused Denied
      else Reads (One (EntryOf at part.name)) (λ e. at_node ahead passed at part last (node e))

  abbrev pub walk : (ℕ → Name → Text → Text → Does) → ℕ → Here → List Part → Does
  walk again passed here [] = row.at passed (Found here)
  walk again passed here (part ∷ later) =
      at_part (record { again = again passed here.node.name; on = λ next. walk again (suc passed) next later }) passed here.node.name part (is_empty later)

  -- with so many links more
  abbrev pub leads : ℕ → ℕ → Name → Text → Text → Does
  leads zero passed at text after = walk (λ _ _ _ _. row.refused Loops) passed (start at text) (parts (text ++ after))
  leads (suc links) passed at text after = walk (leads links) passed (start at text) (parts (text ++ after))

  abbrev pub resolve : Text → Does
  resolve [] = row.refused NoEntry
  resolve (b ∷ bs) = if not (is_slash b) || has_nul (b ∷ bs) then row.refused Invalid else leads 32 0 top (b ∷ bs) []
