-- Pieces of a spelling: which texts a piece uses, in order, and its bytes, in which a text stands as the number of its blob.
use Rattle.std.specs.Prelude.{ℕ, Bool, List, [], ◌∷◌, ◌++◌, length, if◌then◌else◌}
use Rattle.std.specs.List.{flat_map, list_any, position_or_len}
use Rattle.std.specs.Int.{w16, w32, w64, to_be_bytes}
use Rattle.rk_base.specs.Text.{Text, same_text}

-- a number has eight bytes, the greatest first
unfoldable pub num : ℕ → List ℕ
num n = to_be_bytes w64 n

-- the length, and the bytes
abbrev pub string : Text → List ℕ
string text = num (length text) ++ text

-- a text's number: its place among the blobs
abbrev pub number_of : List Text → Text → ℕ
number_of blobs text = position_or_len (same_text text) blobs

abbrev pub has : List Text → Text → Bool
has blobs text = list_any (same_text text) blobs

-- the blobs, and the text where it isn't among them
abbrev pub with_use : List Text → Text → List Text
with_use blobs text = if has blobs text then blobs else blobs ++ text ∷ []

-- the blobs, and then the texts that aren't among them, each once, in the order of first use
abbrev pub with_uses : List Text → List Text → List Text
with_uses blobs [] = blobs
with_uses blobs (text ∷ texts) = with_uses (with_use blobs text) texts

pub record Piece : Type 0 where
  pub uses : List Text
  pub spelt : List Text → List ℕ

-- bytes as they stand
unfoldable pub plain : List ℕ → Piece
plain bytes = record { uses = []; spelt = λ blobs. bytes }

-- the number of a text's blob
unfoldable pub blob : Text → Piece
blob text = record { uses = text ∷ []; spelt = λ blobs. num (number_of blobs text) }

-- one piece, and another after it
infixr 20 ◌⊕◌
unfoldable pub ◌⊕◌ : Piece → Piece → Piece
a ⊕ b = record { uses = a.uses ++ b.uses; spelt = λ blobs. a.spelt blobs ++ b.spelt blobs }

-- a piece for each item
unfoldable pub each : {X : Type 0} → (X → Piece) → List X → Piece
each f xs = record { uses = flat_map (λ x. (f x).uses) xs; spelt = λ blobs. flat_map (λ x. (f x).spelt blobs) xs }

abbrev pub byte : ℕ → Piece
byte n = plain (n ∷ [])

-- two bytes
abbrev pub mode : ℕ → Piece
mode n = plain (to_be_bytes w16 n)

-- four bytes
abbrev pub cost : ℕ → Piece
cost n = plain (to_be_bytes w32 n)

abbrev pub number : ℕ → Piece
number n = plain (num n)

-- how many items there are, and each
abbrev pub counted : {X : Type 0} → (X → Piece) → List X → Piece
counted f xs = number (length xs) ⊕ each f xs
