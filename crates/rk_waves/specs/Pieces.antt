-- Pieces of commands, by the cells that they read and write, and the least waves that keep them apart.
use Rattle.std.specs.Prelude.{ℕ, suc, max, List, [], ◌∷◌, Bool, false, not, ◌&&◌, ◌||◌, ◌==◌, if◌then◌else◌}

pub record Piece : Type 0 where
  pub owner : ℕ
  pub reads : List ℕ
  pub writes : List ℕ

pub record Placed : Type 0 where
  pub wave : ℕ
  pub piece : Piece

-- a cell is among these
abbrev pub has : List ℕ → ℕ → Bool
has [] c = false
has (d ∷ ds) c = (d == c) || has ds c

-- one of these passes
abbrev pub some : (ℕ → Bool) → List ℕ → Bool
some test [] = false
some test (c ∷ cs) = test c || some test cs

-- a piece writes a cell that the other reads or writes; of a cell that only gathers what others hold, two writes are no conflict
abbrev pub conflicts : (ℕ → Bool) → Piece → Piece → Bool
conflicts gathers q p = some (has q.writes) p.reads || (some (has q.reads) p.writes || some (λ c. not (gathers c) && has q.writes c) p.writes)

-- the least wave for one earlier piece
abbrev pub bound : (ℕ → Bool) → Piece → Placed → ℕ
bound gathers p q = if q.piece.owner == p.owner then q.wave else if conflicts gathers q.piece p then suc q.wave else 0

-- the least wave from 1 on, after these
abbrev pub wave_of : (ℕ → Bool) → List Placed → Piece → ℕ
wave_of gathers [] p = 1
wave_of gathers (q ∷ qs) p = max (bound gathers p q) (wave_of gathers qs p)

-- with a piece more, in its least wave
abbrev pub with_piece : (ℕ → Bool) → List Placed → Piece → List Placed
with_piece gathers earlier p = record { wave = wave_of gathers earlier p; piece = p } ∷ earlier

-- the waves of pieces in the order of a run; the earlier ones, the last first
abbrev pub waves_after : (ℕ → Bool) → List Placed → List Piece → List ℕ
waves_after gathers earlier [] = []
waves_after gathers earlier (p ∷ ps) = wave_of gathers earlier p ∷ waves_after gathers (with_piece gathers earlier p) ps
