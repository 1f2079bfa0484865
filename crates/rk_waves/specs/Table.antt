-- What is kept of earlier pieces: of each cell the two latest waves of different commands, and of each command its wave.
use Rattle.std.specs.Prelude.{ℕ, suc, max, List, [], ◌∷◌, Bool, false, ◌==◌, if◌then◌else◌, nat_lt, Option, Some, None, slice_get, slice_set}
use Rattle.rk_waves.specs.declared.greatest.Greatest.{Greatest}
use Rattle.rk_waves.specs.declared.greatest.CellWaves.{CellWaves}
use Rattle.rk_waves.specs.Pieces.{Piece}

pub record Table : Type 0 where
  pub cells : List CellWaves
  pub commands : List ℕ

abbrev pub none : Greatest
none = record { after = 0; owner = 0; next = 0 }

abbrev pub fresh_cell : Bool → CellWaves
fresh_cell gathers = record { gathers = gathers; read = none; written = none }

-- the least wave that others than this command leave
abbrev pub but : Greatest → ℕ → ℕ
but g o = if g.owner == o then g.next else g.after

-- a command more that is followed by this wave
abbrev pub with_wave : Greatest → ℕ → ℕ → Greatest
with_wave g o after =
    if g.owner == o then record g { after = max g.after after }
    else if nat_lt g.after after then record { after = after; owner = o; next = g.after }
    else record g { next = max g.next after }

abbrev pub read_in : Option CellWaves → Greatest
read_in None = none
read_in (Some it) = it.read

abbrev pub written_in : Option CellWaves → Greatest
written_in None = none
written_in (Some it) = it.written

abbrev pub gathers_in : Option CellWaves → Bool
gathers_in None = false
gathers_in (Some it) = it.gathers

-- after what wrote a cell that is read
abbrev pub after_reads : List CellWaves → ℕ → List ℕ → ℕ
after_reads cells o [] = 0
after_reads cells o (c ∷ cs) = max (but (written_in (slice_get cells c)) o) (after_reads cells o cs)

abbrev pub after_write : Option CellWaves → ℕ → ℕ
after_write it o = max (but (read_in it) o) (if gathers_in it then 0 else but (written_in it) o)

-- after what read or wrote a cell that is written
abbrev pub after_writes : List CellWaves → ℕ → List ℕ → ℕ
after_writes cells o [] = 0
after_writes cells o (c ∷ cs) = max (after_write (slice_get cells c) o) (after_writes cells o cs)

abbrev pub number_in : Option ℕ → ℕ
number_in None = 0
number_in (Some n) = n

abbrev pub least : Table → Piece → ℕ
least t p = max (max 1 (number_in (slice_get t.commands p.owner))) (max (after_reads t.cells p.owner p.reads) (after_writes t.cells p.owner p.writes))

-- cells that a piece of this command has read, with the wave after it

abbrev pub with_read : ℕ → ℕ → CellWaves → CellWaves
with_read o after it = record it { read = with_wave it.read o after }

abbrev pub with_written : ℕ → ℕ → CellWaves → CellWaves
with_written o after it = record it { written = with_wave it.written o after }

abbrev pub changed_in : (CellWaves → CellWaves) → List CellWaves → ℕ → Option CellWaves → List CellWaves
changed_in f cells c None = cells
changed_in f cells c (Some it) = slice_set cells c (f it)

abbrev pub changed : (CellWaves → CellWaves) → List CellWaves → ℕ → List CellWaves
changed f cells c = changed_in f cells c (slice_get cells c)

abbrev pub all_changed : (CellWaves → CellWaves) → List CellWaves → List ℕ → List CellWaves
all_changed f cells [] = cells
all_changed f cells (c ∷ cs) = all_changed f (changed f cells c) cs

-- a piece in this wave
abbrev pub noted : Table → Piece → ℕ → Table
noted t p wave = record {
  cells = all_changed (with_written p.owner (suc wave)) (all_changed (with_read p.owner (suc wave)) t.cells p.reads) p.writes;
  commands = slice_set t.commands p.owner wave;
}

-- the waves of pieces, one after another
abbrev pub waves_by : Table → List Piece → List ℕ
waves_by t [] = []
waves_by t (p ∷ ps) = least t p ∷ waves_by (noted t p (least t p)) ps
