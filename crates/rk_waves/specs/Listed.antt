-- The commands that have a step in each wave.
use Rattle.std.specs.Prelude.{◌≡◌, ℕ, suc, max, List, [], ◌∷◌, length, map, fold, slice_index_or, ◌==◌, if◌then◌else◌}
use Rattle.std.specs.BTreeSet.{insert_key}
use Rattle.std.specs.Ordering.{nat_cmp}
use Rattle.rk_waves.specs.Pieces.{Piece}
use Rattle.rk_waves.specs.Waves.{Placed}

-- a command that has a piece in a wave
pub record Member : Type 0 where
  pub wave : ℕ
  pub owner : ℕ

-- those of pieces that have their waves
abbrev pub members : {T : Type 0} → List (Placed T) → List Member
members = map (λ q. record { wave = q.wave; owner = q.piece.owner })

-- those of pieces, of which these are the waves
abbrev pub members_by : List Piece → List ℕ → List Member
members_by [] ws = []
members_by (p ∷ ps) [] = []
members_by (p ∷ ps) (w ∷ ws) = record { wave = w; owner = p.owner } ∷ members_by ps ws

-- each of these once, ascending
abbrev pub ascending : List ℕ → List ℕ
ascending = fold (insert_key nat_cmp) []

-- the commands of a wave, piece by piece
abbrev pub owners_in : ℕ → List Member → List ℕ
owners_in k [] = []
owners_in k (m ∷ ms) = if m.wave == k then m.owner ∷ owners_in k ms else owners_in k ms

-- how many waves there are: the greatest number of one
abbrev pub wave_count : List Member → ℕ
wave_count [] = 0
wave_count (m ∷ ms) = max m.wave (wave_count ms)

abbrev pub list_at : List (List ℕ) → ℕ → List ℕ
list_at lists k = slice_index_or lists k []

-- for each wave, from the first on, the commands that have a step in it, ascending
pub record IsPlan (ms : List Member) (lists : List (List ℕ)) : Type 0 where
  pub count : length lists ≡ wave_count ms
  pub each : (k : ℕ) → list_at lists k ≡ ascending (owners_in (suc k) ms)

-- the lists with a command more in a wave
pub record HasOneMore (wave owner : ℕ) (old new : List (List ℕ)) : Type 0 where
  pub count : length new ≡ max (length old) wave
  pub each : (k : ℕ) → list_at new k ≡ (if wave == suc k then insert_key nat_cmp (list_at old k) owner else list_at old k)

-- the lists with empty ones behind them, so many in all at least
pub record HasRoomFor (count : ℕ) (old new : List (List ℕ)) : Type 0 where
  pub count_is : length new ≡ max (length old) count
  pub each : (k : ℕ) → list_at new k ≡ list_at old k
