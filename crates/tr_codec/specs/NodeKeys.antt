-- Nodes by their bytes.
use Rattle.std.specs.Prelude.{◌≡◌, ◌<◌, ◌^◌, List, true, length}
use Rattle.std.specs.List.{AllByRecursion}
use Rattle.rk_base.specs.Text.{Text}
use Rattle.tr_nodes.specs.Nodes.{Node}
use Rattle.tr_record.specs.declared.steps.Step.{Step}
use Rattle.tr_parts.specs.Piece.{Piece, ◌⊕◌, number, has}
use Rattle.tr_codec.specs.Sound.{IsTyped}
use Rattle.tr_codec.specs.Spelling.{step_piece}

-- a node by itself: the number of the rest, and the step
abbrev pub own_piece : Node Step → Piece
own_piece node = number node.next ⊕ step_piece node.step

-- its bytes, at these blobs
abbrev pub key_of : List Text → Node Step → Text
key_of blobs node = (own_piece node).spelt blobs

-- its texts have blobs, and its numbers and its bytes can be counted
pub record IsKeyed (blobs : List Text) (node : Node Step) : Type 0 where
  pub typed : IsTyped node.step
  pub next : node.next < 2 ^ 64
  pub covered : AllByRecursion (λ text. has blobs text ≡ true) (own_piece node).uses
  pub few : length (key_of blobs node) < 2 ^ 64
