-- Lines that are passed, since none of them is selected.
use Rattle.std.specs.Prelude.{◌≡◌, ℕ, List, [], ◌∷◌, Option, None, false, if◌then◌else◌}
use Rattle.std.specs.List.{list_any}
use Rattle.rk_base.specs.Text.{Text}
use Rattle.ut_bre.specs.Needing.{needed}
use Rattle.ut_filter.specs.Lines.{Lacks}
use Rattle.ut_grep.specs.Greps.{PatternValue, fixed, basic, GrepValue, holds, selects, rows}

-- the byte that is told of a pattern: the one that its expression needs
abbrev pub needed_by : PatternValue → Option ℕ
needed_by (fixed text) = None
needed_by (basic e) = needed e.items

-- of patterns: that of the one, where there is one alone
abbrev pub needed_alone : List PatternValue → Option ℕ
needed_alone [] = None
needed_alone (p ∷ []) = needed_by p
needed_alone (p ∷ q ∷ ps) = None

-- of the lines that are selected: none with `-v`
abbrev pub needed_in : GrepValue → Option ℕ
needed_in g = if g.inverted then None else needed_alone g.patterns

-- no line without this byte holds the pattern
abbrev pub IsNeededBy : PatternValue → ℕ → Type 0
IsNeededBy p b = (g : GrepValue) (line : Text) → Lacks line b → holds g line p ≡ false

-- nor is one selected
abbrev pub IsNeeded : GrepValue → ℕ → Type 0
IsNeeded g b = (line : Text) → Lacks line b → selects g line ≡ false

abbrev pub NoneSelected : GrepValue → List Text → Type 0
NoneSelected g lines = list_any (selects g) lines ≡ false

-- what is told of lines is the same by the one number as by the other
abbrev pub SameNumber : GrepValue → ℕ → ℕ → Type 0
SameNumber g n m = (name : Text) (lines : List Text) → rows g name n lines ≡ rows g name m lines
