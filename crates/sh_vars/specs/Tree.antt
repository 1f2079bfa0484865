-- Rows of variables, as a tree keeps them.
use Rattle.std.specs.Prelude.{◌≡◌, List, [], ◌∷◌, Option, Some, None, not}
use Rattle.std.specs.Ordering.{eq_by_cmp}
use Rattle.std.specs.FinMap.{put, is_sorted}
use Rattle.std.specs.FinMap.Entries.{where_key}
use Rattle.rk_base.specs.Text.{Text, text_cmp}
use Rattle.sh_vars.specs.declared.variable.Variable.{Variable}
use lib.Dec.{T}

abbrev pub Row : Type 0
Row = Text × Variable

-- the names rise
abbrev pub IsInOrder : List Row → Type 0
IsInOrder rows = T (is_sorted text_cmp rows)

-- the rows but that of a name
abbrev pub without_row : Text → List Row → List Row
without_row name rows = where_key text_cmp (λ key. not (eq_by_cmp text_cmp name key)) rows

abbrev pub first_row : List Row → Option Row
first_row [] = None
first_row (row ∷ rows) = Some row

-- the name has the variable, in the place of what it had; or the variable has come back, and the rows are as they were
abbrev pub Replaces : Text → Variable → List Row → Option Variable → List Row → Type 0
Replaces name variable old None new = new ≡ put text_cmp name variable old
Replaces name variable old (Some back) new = (back ≡ variable) × (new ≡ old)
