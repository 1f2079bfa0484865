-- Rows: from which places a part of an expression leads to the end, for each place by how far before the end it lies.
use Rattle.std.specs.Prelude.{◌≡◌, ◌↔◌, ℕ, ◌-◌, ◌≤◌, List, [], ◌∷◌, Bool, true, false, Option, Some, None, slice_get, if◌then◌else◌}
use Rattle.rk_base.specs.Text.{Text}
use Rattle.ut_bre.specs.declared.tree.Times.{Times}
use Rattle.ut_bre.specs.Trees.{ItemTree, ItemsTree, no_items, item_and}
use Rattle.ut_bre.specs.Times.{less_one}
use Rattle.ut_bre.specs.Matching.{Repeated, MatchesItems}
use Rattle.ut_bre.specs.Picking.{MatchesTurn}
use Rattle.ut_bre.specs.Walking.{Mark}

-- for each place, whether what stands there leads to the end; beyond the last entry it doesn't
abbrev pub Row : Type 0
Row = List Bool

abbrev pub is_told : Option Bool → Bool
is_told None = false
is_told (Some leads) = leads

abbrev pub is_open : Row → ℕ → Bool
is_open row far = is_told (slice_get row far)

-- the mark that comes in so far before the end, where what stands behind leads on from there
abbrev pub lead : Row → ℕ → Mark
lead behind far = if is_open behind far then Some 0 else None

-- what stands behind leads on from a place
abbrev pub IsOpen : Row → ℕ → ℕ → Type 0
IsOpen behind end p = (p ≤ end) × (is_open behind (end - p) ≡ true)

-- of the places from a start to the end, a row tells those from which this leads to the end
abbrev pub TellsWhere : (ℕ → Type 0) → ℕ → ℕ → Row → Type 0
TellsWhere Q start end row = (p : ℕ) → start ≤ p → p ≤ end → IsOpen row end p ↔ Q p

-- this leads from a place to one from which what stands behind leads on
abbrev pub LeadsOn : (ℕ → ℕ → Type 0) → Row → ℕ → ℕ → Type 0
LeadsOn R behind end i = (p : ℕ) × R i p × IsOpen behind end p

abbrev pub IsRow : (ℕ → ℕ → Type 0) → Row → ℕ → ℕ → Row → Type 0
IsRow R behind start end row = TellsWhere (LeadsOn R behind end) start end row

-- these turns of an item lead from a place to this one, and what stands behind leads on from it
abbrev pub ReachesOpen : Text → ItemTree → Times → Row → ℕ → ℕ → ℕ → Type 0
ReachesOpen line x times behind i end m = Repeated (MatchesTurn line x) times i m × IsOpen behind end m

-- the last such place up to one more, where a mark comes there or not
abbrev pub later : Option ℕ → Mark → Bool → ℕ → Option ℕ
later best None leads at = best
later best (Some start) leads at = if leads then Some at else best

abbrev pub top_of : List Row → Row → Row
top_of [] bottom = bottom
top_of (row ∷ rows) bottom = row

abbrev pub but_first : ItemsTree → ItemsTree
but_first no_items = no_items
but_first (item_and x xs) = xs

-- of items, of those without the first one, and so on, as far as there are rows
abbrev pub ArePlaceRows : Text → ℕ → ℕ → ItemsTree → List Row → Type 0
ArePlaceRows line start end xs [] = Unit {0}
ArePlaceRows line start end xs (row ∷ rows) = TellsWhere (λ i. MatchesItems line xs i end) start end row × ArePlaceRows line start end (but_first xs) rows

-- of so many turns, of those without the first one, and so on
abbrev pub AreTurnRows : (ℕ → ℕ → Type 0) → ℕ → ℕ → Times → List Row → Type 0
AreTurnRows R start end left [] = Unit {0}
AreTurnRows R start end left (row ∷ rows) = TellsWhere (λ i. Repeated R left i end) start end row × AreTurnRows R start end (less_one left) rows

-- The rows of turns, above that of what stands behind them: the first one tells from which places so many turns lead to the
-- end.
pub record AreFound (R : ℕ → ℕ → Type 0) (start end : ℕ) (left : Times) (bottom : Row) (rows : List Row) : Type 0 where
  pub each : AreTurnRows R start end left rows
  pub tells : TellsWhere (λ i. Repeated R left i end) start end (top_of rows bottom)

-- what is left where all turns that are counted are done: none, or those of a star
abbrev pub behind_counted : Option ℕ → Times
behind_counted None = record { least = 0; beyond = None }
behind_counted (Some more) = record { least = 0; beyond = Some 0 }
