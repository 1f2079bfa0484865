-- The waves are the least that keep the two rules.
use Rattle.std.specs.Prelude.{◌≡◌, ◌≢◌, ℕ, ◌≤◌, ◌<◌, List, [], ◌∷◌, Bool, true}
use Rattle.rk_waves.specs.Pieces.{Piece, Placed, conflicts, wave_of}

-- a piece may be in this wave, after an earlier one: in no earlier wave than its own command's, and in a later one than what it conflicts with
pub record MayFollow (gathers : ℕ → Bool) (p : Piece) (n : ℕ) (q : Placed) : Type 0 where
  pub own : q.piece.owner ≡ p.owner → q.wave ≤ n
  pub other : q.piece.owner ≢ p.owner → conflicts gathers q.piece p ≡ true → q.wave < n

abbrev pub MayFollowAll : (ℕ → Bool) → Piece → ℕ → List Placed → Type 0
MayFollowAll gathers p n [] = Unit {0}
MayFollowAll gathers p n (q ∷ qs) = MayFollow gathers p n q × MayFollowAll gathers p n qs

pub record IsLeast (gathers : ℕ → Bool) (earlier : List Placed) (p : Piece) (n : ℕ) : Type 0 where
  pub one : 1 ≤ n
  pub follows : MayFollowAll gathers p n earlier
  pub least : (m : ℕ) → 1 ≤ m → MayFollowAll gathers p m earlier → n ≤ m

abbrev pub AreLeast : (ℕ → Bool) → Type 0
AreLeast gathers = (earlier : List Placed) (p : Piece) → IsLeast gathers earlier p (wave_of gathers earlier p)
