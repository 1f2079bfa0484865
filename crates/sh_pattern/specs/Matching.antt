-- What a pattern matches.
use Rattle.std.specs.Prelude.{◌≡◌, ℕ, ◌≤◌, List, [], ◌∷◌, drop, take, length, Bool, true, false, Option, Some, None}
use Rattle.rk_base.specs.Text.{Text}
use Rattle.sh_pattern.specs.Parts.{Part, Star, One, parts}

-- The bytes that some parts match, one part after another: a star any bytes, any other part one byte.
abbrev pub MatchesParts : List Part → Text → Type 0
MatchesParts [] text = text ≡ []
MatchesParts (Star ∷ ps) text = (n : ℕ) × MatchesParts ps (drop n text)
MatchesParts (One meets ∷ ps) [] = ⊥
MatchesParts (One meets ∷ ps) (b ∷ bs) = (meets b ≡ true) × MatchesParts ps bs

abbrev pub Matches : Text → Text → Type 0
Matches pattern text = MatchesParts (parts pattern) text

-- the longer of two lengths, or the shorter one
abbrev pub IsBetter : Bool → ℕ → ℕ → Type 0
IsBetter true k j = j ≤ k
IsBetter false k j = k ≤ j

-- a length with this property, better than all others with it
pub record IsBest (longest : Bool) (most : ℕ) (Has : ℕ → Type 0) (k : ℕ) : Type 0 where
  pub within : k ≤ most
  pub has : Has k
  pub best : (j : ℕ) → j ≤ most → Has j → IsBetter longest k j

-- it is told where there is one, and None is told where there is none
abbrev pub TellsBest : Bool → ℕ → (ℕ → Type 0) → Option ℕ → Type 0
TellsBest longest most Has None = (k : ℕ) → k ≤ most → Has k → ⊥
TellsBest longest most Has (Some k) = IsBest longest most Has k

abbrev pub MatchesPrefix : Text → Text → ℕ → Type 0
MatchesPrefix pattern text k = Matches pattern (take k text)

-- the last k bytes
abbrev pub MatchesEnd : List Part → Text → ℕ → Type 0
MatchesEnd ps text k = (n : ℕ) × MatchesParts ps (drop n text) × (length (drop n text) ≡ k)

abbrev pub MatchesSuffix : Text → Text → ℕ → Type 0
MatchesSuffix pattern text = MatchesEnd (parts pattern) text
