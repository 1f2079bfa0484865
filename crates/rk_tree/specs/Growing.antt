-- Snapshots that grow in the order of a walk.
use Rattle.std.specs.Prelude.{◌≡◌, ℕ, suc, List, [], ◌∷◌, Bool, true, None, map, if◌then◌else◌}
use Rattle.std.specs.FinMap.{get}
use Rattle.std.specs.Ordering.{is_lt}
use Rattle.std.specs.declared.cmp.Ordering.{Ordering}
use Rattle.rk_base.specs.Text.{Text, text_cmp, is_slash}
use Rattle.rk_tree.specs.Copying.{made_of}
use Rattle.rk_tree.specs.Entries.{Entries}
use Rattle.rk_tree.specs.Node.{Node}
use Rattle.rk_tree.specs.declared.snapshot_builder.BuilderRows.{BuilderRows}
use Rattle.rk_tree.specs.declared.snapshot_builder.BuilderRows.TheVariants.{Walked, Settled}

-- a slash comes before each byte of a name
abbrev pub walk_byte : ℕ → ℕ
walk_byte b = if is_slash b then 0 else suc b

-- the order of a walk: a directory, then what is in it, then the next name
abbrev pub walk_cmp : Text → Text → Ordering
walk_cmp a b = text_cmp (map walk_byte a) (map walk_byte b)

-- a walk comes to a path behind the last of these rows
abbrev pub comes_next : List (Text × Node) → Text → Bool
comes_next [] path = true
comes_next (row ∷ []) path = is_lt (walk_cmp row.0 path)
comes_next (row ∷ next ∷ rows) path = comes_next (next ∷ rows) path

-- nothing stands where a walk comes next
abbrev pub IsWalk : List (Text × Node) → Type 0
IsWalk rows = (path : Text) → comes_next rows path ≡ true → get (made_of rows) path ≡ None

abbrev pub grown : BuilderRows → Entries
grown (Walked rows) = made_of rows.items
grown (Settled snapshot) = snapshot

abbrev pub IsGrowing : BuilderRows → Type 0
IsGrowing (Walked rows) = IsWalk rows.items
IsGrowing (Settled snapshot) = Unit {0}
