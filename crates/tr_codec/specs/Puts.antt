-- What a writer holds, and what it is when a piece was put.
use Rattle.std.specs.Prelude.{◌≡◌, ℕ, List, ◌++◌, length}
use Rattle.std.specs.List.{flat_map}
use Rattle.rk_base.specs.Text.{Text}
use Rattle.tr_parts.specs.Piece.{Piece, num, string, with_uses}

pub record Written : Type 0 where
  pub blobs : List Text
  pub bytes : List ℕ

-- the piece's texts were added to the blobs, and its bytes put, which later blobs don't change
pub record Puts (piece : Piece) (old new : Written) : Type 0 where
  pub blobs : new.blobs ≡ with_uses old.blobs piece.uses
  pub bytes : (more : List Text) → new.bytes ≡ old.bytes ++ piece.spelt (new.blobs ++ more)

-- the magic, the blobs, the nodes, whose bytes these are, and what was put
abbrev pub spelt_body : List ℕ → Written → List Text → List ℕ
spelt_body magic w nodes = magic ++ (num (length w.blobs) ++ (flat_map string w.blobs ++ (num (length nodes) ++ (flat_map (λ node. node) nodes ++ w.bytes))))
