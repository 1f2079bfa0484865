-- Waves of pieces of commands.
use Rattle.std.specs.Prelude.{◌≡◌, ◌≢◌, ℕ, zero, suc, ◌≤◌, ◌<◌, max, List, [], ◌∷◌, ◌++◌, Bool, true, false, ◌||◌, ◌==◌, if◌then◌else◌, filter}
use Rattle.rk_waves.specs.System.{Foot, System, conflict, has}
use Rattle.rk_waves.specs.Goes.{Told, Goes}

-- steps of one command without a launch between them
pub record Piece (T : Type 0) : Type 0 where
  pub owner : ℕ
  pub steps : List T

pub record Placed (T : Type 0) : Type 0 where
  pub wave : ℕ
  pub piece : Piece T

-- a step of a command in a wave
pub record Move (T : Type 0) : Type 0 where
  pub wave : ℕ
  pub owner : ℕ
  pub told : T

-- what comes later is in no earlier wave than what its own command did, and in a later one than what it conflicts with
pub record Follows (owner wave its_owner its_wave : ℕ) (conflicts : Bool) : Type 0 where
  pub own : owner ≡ its_owner → wave ≤ its_wave
  pub other : owner ≢ its_owner → conflicts ≡ true → wave < its_wave

-- all of them
abbrev pub Each : {X : Type 0} → (X → Type 0) → List X → Type 0
Each P [] = Unit {0}
Each P (x ∷ xs) = P x × Each P xs

module _ {T : Type 0} where
  abbrev pub steps_of : List (Piece T) → List T
  steps_of [] = []
  steps_of (p ∷ ps) = p.steps ++ steps_of ps

  abbrev pub moves_in : ℕ → ℕ → List T → List (Move T)
  moves_in wave owner [] = []
  moves_in wave owner (t ∷ ts) = record { wave = wave; owner = owner; told = t } ∷ moves_in wave owner ts

  -- the steps of pieces, in their order
  abbrev pub moves_of : List (Placed T) → List (Move T)
  moves_of [] = []
  moves_of (p ∷ ps) = moves_in p.wave p.piece.owner p.piece.steps ++ moves_of ps

  abbrev pub tolds : List (Move T) → List T
  tolds [] = []
  tolds (m ∷ ms) = m.told ∷ tolds ms

  -- those of one command
  abbrev pub own : ℕ → List (Move T) → List (Move T)
  own o = filter (λ m. m.owner == o)

  -- those of one wave
  abbrev pub in_wave : ℕ → List (Move T) → List (Move T)
  in_wave k = filter (λ m. m.wave == k)

  -- the same steps, and each command's in its own order
  abbrev pub KeepsOwn : List (Move T) → List (Move T) → Type 0
  KeepsOwn ms ns = (o : ℕ) → own o ms ≡ own o ns

  -- orders of the waves 1 to k, one after another
  abbrev pub one_by_one : (ℕ → List (Move T)) → ℕ → List (Move T)
  one_by_one order zero = []
  one_by_one order (suc k) = one_by_one order k ++ order (suc k)

module _ {World Step Cell Value Answer : Type 0} (g : System World Step Cell Value Answer) where
  abbrev pub step_conflicts : Told Step Cell Answer → List (Told Step Cell Answer) → Bool
  step_conflicts t [] = false
  step_conflicts t (u ∷ us) = conflict g t.foot u.foot || step_conflicts t us

  abbrev pub steps_conflict : List (Told Step Cell Answer) → List (Told Step Cell Answer) → Bool
  steps_conflict [] us = false
  steps_conflict (t ∷ ts) us = step_conflicts t us || steps_conflict ts us

  -- a piece may be in this wave, after an earlier one
  abbrev pub MayFollow : Piece (Told Step Cell Answer) → ℕ → Placed (Told Step Cell Answer) → Type 0
  MayFollow p n q = Follows q.piece.owner q.wave p.owner n (steps_conflict q.piece.steps p.steps)

  -- the least wave from 1 that a piece may be in, after these
  pub record IsWave (earlier : List (Placed (Told Step Cell Answer))) (p : Piece (Told Step Cell Answer)) (n : ℕ) : Type 0 where
    pub one : 1 ≤ n
    pub follows : Each (MayFollow p n) earlier
    pub least : (m : ℕ) → 1 ≤ m → Each (MayFollow p m) earlier → n ≤ m

  -- the least wave for one earlier piece
  abbrev pub bound : Piece (Told Step Cell Answer) → Placed (Told Step Cell Answer) → ℕ
  bound p q = if q.piece.owner == p.owner then q.wave else if steps_conflict q.piece.steps p.steps then suc q.wave else 0

  abbrev pub wave_of : List (Placed (Told Step Cell Answer)) → Piece (Told Step Cell Answer) → ℕ
  wave_of [] p = 1
  wave_of (q ∷ qs) p = max (bound p q) (wave_of qs p)

  -- pieces with their waves, in the order of the run; the earlier ones, the last first
  unfoldable pub placed_after : List (Placed (Told Step Cell Answer)) → List (Piece (Told Step Cell Answer)) → List (Placed (Told Step Cell Answer))
  placed_after earlier [] = []
  placed_after earlier (p ∷ ps) =
      let it : Placed (Told Step Cell Answer) = record { wave = wave_of earlier p; piece = p } in it ∷ placed_after (it ∷ earlier) ps

  abbrev pub placed : List (Piece (Told Step Cell Answer)) → List (Placed (Told Step Cell Answer))
  placed = placed_after []

  -- the function's waves are the least
  abbrev pub AreLeast : Type 0
  AreLeast = (earlier : List (Placed (Told Step Cell Answer))) (p : Piece (Told Step Cell Answer)) → IsWave earlier p (wave_of earlier p)

  -- From the world that the waves before leave, every order of a wave's steps that keeps each command's own gives
  -- each step the answer of the run; after the last wave the world is like the run's.
  abbrev pub InWaves : Type 0
  InWaves =
      (start end : World) (run : List (Piece (Told Step Cell Answer))) (order : ℕ → List (Move (Told Step Cell Answer))) (k : ℕ)
      → Goes g start (steps_of run) end
      → ((n : ℕ) → KeepsOwn (order n) (in_wave n (moves_of (placed run))))
      → Each (λ p. p.wave ≤ k) (placed run)
      → Goes g start (tolds (one_by_one order k)) end

  -- Pieces in any waves, as where more than their steps touch is told of them.

  -- a later piece is in no earlier wave if it is of the same command, and in a later one if it conflicts with it
  abbrev pub Apart : Placed (Told Step Cell Answer) → Placed (Told Step Cell Answer) → Type 0
  Apart q r = Follows q.piece.owner q.wave r.piece.owner r.wave (steps_conflict q.piece.steps r.piece.steps)

  abbrev pub AreApart : List (Placed (Told Step Cell Answer)) → Type 0
  AreApart [] = Unit {0}
  AreApart (q ∷ qs) = Each (Apart q) qs × AreApart qs

  -- the same is so of any waves that keep pieces apart
  abbrev pub InWavesApart : Type 0
  InWavesApart =
      (start end : World) (run : List (Placed (Told Step Cell Answer))) (order : ℕ → List (Move (Told Step Cell Answer))) (k : ℕ)
      → AreApart run → Each (λ q. 1 ≤ q.wave) run → Each (λ q. q.wave ≤ k) run → Goes g start (tolds (moves_of run)) end
      → ((n : ℕ) → KeepsOwn (order n) (in_wave n (moves_of run)))
      → Goes g start (tolds (one_by_one order k)) end

  -- one foot has all cells of another
  pub record Covers (more less : Foot Cell) : Type 0 where
    pub reads : (c : Cell) → has g less.reads c ≡ true → has g more.reads c ≡ true
    pub writes : (c : Cell) → has g less.writes c ≡ true → has g more.writes c ≡ true

  -- what conflicts by feet does so by feet that have all their cells
  abbrev pub ConflictByMore : Type 0
  ConflictByMore = (a b a' b' : Foot Cell) → Covers a' a → Covers b' b → conflict g a b ≡ true → conflict g a' b' ≡ true
