-- A table that tells all that earlier pieces leave.
use Rattle.std.specs.Prelude.{◌≡◌, ℕ, suc, ◌≤◌, ◌<◌, max, List, [], ◌∷◌, Bool, false, Option, None, not, ◌&&◌, ◌==◌, if◌then◌else◌, Some, slice_get, length}
use Rattle.rk_waves.specs.Pieces.{Piece, Placed, has}
use Rattle.rk_waves.specs.Table.{Table, but, read_in, written_in, gathers_in, number_in}

-- the greatest wave of a command
abbrev pub wave_by : List Placed → ℕ → ℕ
wave_by [] o = 0
wave_by (q ∷ qs) o = max (if q.piece.owner == o then q.wave else 0) (wave_by qs o)

-- the wave after the greatest of other commands' pieces that touch a cell
abbrev pub after_by : (Piece → ℕ → Bool) → List Placed → ℕ → ℕ → ℕ
after_by touches [] c o = 0
after_by touches (q ∷ qs) c o = max (if touches q.piece c && not (q.piece.owner == o) then suc q.wave else 0) (after_by touches qs c o)

abbrev pub reads_it : Piece → ℕ → Bool
reads_it q = has q.reads

abbrev pub writes_it : Piece → ℕ → Bool
writes_it q = has q.writes

pub record Tells (gathers : ℕ → Bool) (earlier : List Placed) (t : Table) : Type 0 where
  pub commands : (o : ℕ) → o < length t.commands → number_in (slice_get t.commands o) ≡ wave_by earlier o
  pub read : (c o : ℕ) → c < length t.cells → but (read_in (slice_get t.cells c)) o ≡ after_by reads_it earlier c o
  pub written : (c o : ℕ) → c < length t.cells → but (written_in (slice_get t.cells c)) o ≡ after_by writes_it earlier c o
  pub gathering : (c : ℕ) → c < length t.cells → gathers_in (slice_get t.cells c) ≡ gathers c
  -- the second is no greater than the first
  pub ordered_read : (c : ℕ) → (read_in (slice_get t.cells c)).next ≤ (read_in (slice_get t.cells c)).after
  pub ordered_written : (c : ℕ) → (written_in (slice_get t.cells c)).next ≤ (written_in (slice_get t.cells c)).after

abbrev pub AllBelow : ℕ → List ℕ → Type 0
AllBelow n [] = Unit {0}
AllBelow n (c ∷ cs) = (c < n) × AllBelow n cs

-- its command and its cells stand in the table
pub record Fits (commands cells : ℕ) (p : Piece) : Type 0 where
  pub owner : p.owner < commands
  pub reads : AllBelow cells p.reads
  pub writes : AllBelow cells p.writes

-- a table tells earlier pieces, and has room for this one
pub record HasRoom (gathers : ℕ → Bool) (earlier : List Placed) (t : Table) (p : Piece) : Type 0 where
  pub tells : Tells gathers earlier t
  pub fits : Fits (length t.commands) (length t.cells) p

-- all pieces stand in the table
abbrev pub AllFit : ℕ → ℕ → List Piece → Type 0
AllFit commands cells [] = Unit {0}
AllFit commands cells (p ∷ ps) = Fits commands cells p × AllFit commands cells ps

-- all pieces are of commands with numbers below this one
abbrev pub OwnersBelow : ℕ → List Piece → Type 0
OwnersBelow n [] = Unit {0}
OwnersBelow n (p ∷ ps) = (p.owner < n) × OwnersBelow n ps

abbrev pub is_so : Option Bool → Bool
is_so None = false
is_so (Some b) = b

-- whether a cell gathers, by a list
abbrev pub gathers_by : List Bool → ℕ → Bool
gathers_by gathers c = is_so (slice_get gathers c)
