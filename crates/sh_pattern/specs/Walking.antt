-- How a pattern goes along a text.
use Rattle.std.specs.Prelude.{◌≡◌, ◌↔◌, ℕ, zero, suc, ◌+◌, ◌<◌, ◌≤◌, List, [], ◌∷◌, drop, length, Bool, true, false, Option, Some, None}
use Rattle.rk_base.specs.Text.{Text}
use Rattle.sh_pattern.specs.Parts.{Part, Star, One}
use Rattle.sh_pattern.specs.Matching.{MatchesParts}
use Rattle.sh_pattern.specs.declared.walk.SegmentEnd.{SegmentEnd}
use Rattle.sh_pattern.specs.declared.walk.SegmentEnd.TheVariants as stop

-- the parts match the front of a text, up to this rest
abbrev pub Ends : List Part → Text → Text → Type 0
Ends [] text rest = text ≡ rest
Ends (Star ∷ ps) text rest = (n : ℕ) × Ends ps (drop n text) rest
Ends (One meets ∷ ps) [] rest = ⊥
Ends (One meets ∷ ps) (b ∷ bs) rest = (meets b ≡ true) × Ends ps bs rest

abbrev pub is_stop : SegmentEnd → Bool
is_stop stop.End = true
is_stop stop.Star = true
is_stop stop.Fails = false

-- so many parts of one byte each, and then these
abbrev pub Along : ℕ → List Part → List Part → Type 0
Along zero ps qs = ps ≡ qs
Along (suc m) [] qs = ⊥
Along (suc m) (Star ∷ ps) qs = ⊥
Along (suc m) (One meets ∷ ps) qs = Along m ps qs

-- parts of one byte each have met the front of a text
pub record Walked (ps : List Part) (text : Text) (qs : List Part) (left : Text) : Type 0 where
  pub size : ℕ
  pub along : Along size ps qs
  pub within : size ≤ length text
  pub is_left : left ≡ drop size text
  pub fits : (rest : Text) → Ends qs left rest → Ends ps text rest

-- no front of the text is matched
abbrev pub NoEnd : List Part → Text → Type 0
NoEnd ps text = (rest : Text) → Ends ps text rest → ⊥

-- what one part does
abbrev pub Advances : List Part → Text → Option SegmentEnd → List Part → Text → Type 0
Advances ps text None qs left = (meets : ℕ → Bool) × (b : ℕ) × (ps ≡ One meets ∷ qs) × (text ≡ b ∷ left) × (meets b ≡ true)
Advances ps text (Some stop.End) qs left = (ps ≡ []) × (left ≡ text)
Advances ps text (Some stop.Star) qs left = (ps ≡ Star ∷ qs) × (left ≡ text)
Advances ps text (Some stop.Fails) qs left = NoEnd ps text

-- the parts up to the next star, or to the end
abbrev pub WalksTo : List Part → Text → SegmentEnd → List Part → Text → Type 0
WalksTo ps text stop.End qs left = Walked ps text [] left
WalksTo ps text stop.Star qs left = Walked ps text (Star ∷ qs) left
WalksTo ps text stop.Fails qs left = NoEnd ps text

-- none is matched from before this place
abbrev pub NoneBefore : List Part → Text → ℕ → Type 0
NoneBefore ps text n = (j : ℕ) → j < n → NoEnd ps (drop j text)

-- the first place from which they go along
pub record Found (ps : List Part) (text : Text) (qs : List Part) (left : Text) : Type 0 where
  pub place : ℕ
  pub walked : Walked ps (drop place text) qs left
  pub none_before : NoneBefore ps text place

abbrev pub FindsTo : List Part → Text → SegmentEnd → List Part → Text → Type 0
FindsTo ps text stop.End qs left = Found ps text [] left
FindsTo ps text stop.Star qs left = Found ps text (Star ∷ qs) left
FindsTo ps text stop.Fails qs left = (n : ℕ) → NoEnd ps (drop n text)

-- fewer bytes left, or more
abbrev pub IsFarther : Bool → ℕ → ℕ → Type 0
IsFarther true k j = k ≤ j
IsFarther false k j = j ≤ k

pub record Best (longest : Bool) (ps : List Part) (text : Text) (left : ℕ) : Type 0 where
  pub rest : Text
  pub ends : Ends ps text rest
  pub is_left : length rest ≡ left
  pub best : (other : Text) → Ends ps text other → IsFarther longest left (length other)

-- the best end, by how many bytes are left
abbrev pub TellsEnd : Bool → List Part → Text → Option ℕ → Type 0
TellsEnd longest ps text None = NoEnd ps text
TellsEnd longest ps text (Some left) = Best longest ps text left

-- none is matched from after this place
abbrev pub NoneAfter : List Part → Text → ℕ → Type 0
NoneAfter ps text n = (j : ℕ) → n < j → j ≤ length text → NoEnd ps (drop j text)

-- both end alike
abbrev pub Alike : List Part → Text → List Part → Text → Type 0
Alike ps text qs left = (rest : Text) → (Ends ps text rest → Ends qs left rest) × (Ends qs left rest → Ends ps text rest)

-- the ends of a text of at least so many bytes are matched, and no shorter one
abbrev pub IsLeast : List Part → Text → ℕ → Type 0
IsLeast ps text least = (n : ℕ) → n ≤ length text → MatchesParts ps (drop n text) ↔ (least ≤ length (drop n text))

-- from the first place the text is matched, from the second on it is not
pub record Between (ps : List Part) (text : Text) (low high : ℕ) : Type 0 where
  pub below : low < high
  pub within : high ≤ length text + 1
  pub matched : MatchesParts ps (drop low text)
  pub none : (n : ℕ) → high ≤ n → n ≤ length text → MatchesParts ps (drop n text) → ⊥

-- None where no end of a text is matched
abbrev pub TellsLeast : List Part → Text → Option ℕ → Type 0
TellsLeast ps text None = (n : ℕ) → MatchesParts ps (drop n text) → ⊥
TellsLeast ps text (Some least) = IsLeast ps text least

-- what is told of the parts from the first star on
abbrev pub Settles : List Part → Text → Option ℕ → Type 0
Settles ps text least = (m : ℕ) (qs : List Part) → Along m ps (Star ∷ qs) → TellsLeast (Star ∷ qs) text least

-- none is matched from before this place, or from after it
abbrev pub NoMatchBefore : List Part → Text → ℕ → Type 0
NoMatchBefore ps text n = (j : ℕ) → j < n → MatchesParts ps (drop j text) → ⊥

abbrev pub NoMatchAfter : List Part → Text → ℕ → Type 0
NoMatchAfter ps text n = (j : ℕ) → n < j → j ≤ length text → MatchesParts ps (drop j text) → ⊥
