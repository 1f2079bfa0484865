-- Nodes that a writer has put.
use Rattle.std.specs.Prelude.{◌≡◌, ℕ, ◌≤◌, List, [], ◌∷◌, ◌++◌, length, map}
use Rattle.std.specs.List.{AllByRecursion}
use Rattle.rk_base.specs.Text.{Text}
use Rattle.tr_nodes.specs.Nodes.{Node}
use Rattle.tr_nodes.specs.Tails.{Tail, AreNodes, with_tail, head_in, steps_at, tails_of}
use Rattle.tr_record.specs.declared.steps.Step.{Step}
use Rattle.tr_parts.specs.Piece.{each, with_uses}
use Rattle.tr_codec.specs.declared.node_pieces.NodeWriter.{NodeWriter}
use Rattle.tr_codec.specs.NodeKeys.{own_piece, key_of, IsKeyed}
use Rattle.tr_codec.specs.Same.{same_step}

-- these tails were put, each as a node, by its bytes, which later blobs don't change; the blobs are those that the nodes use, and
-- no other bytes are left
pub record Holds (tails : List (Tail Step)) (w : NodeWriter) : Type 0 where
  pub nodes : List (Node Step)
  pub tails_are : tails_of nodes ≡ tails
  pub are : AreNodes nodes
  pub keys : (more : List Text) → w.nodes.keys ≡ map (key_of (w.writer.blobs ++ more)) nodes
  pub keyed : (more : List Text) → AllByRecursion (IsKeyed (w.writer.blobs ++ more)) nodes
  pub blobs : w.writer.blobs ≡ with_uses [] (each own_piece nodes).uses
  pub bytes : w.writer.bytes ≡ []

-- a step in front of the rest of this number
abbrev pub in_front : List (Tail Step) → ℕ → Step → Tail Step
in_front tails next step = record { first = step; rest = steps_at tails next }

-- it was put, where it was new, and this is its number
pub record IsPut (tails : List (Tail Step)) (next : ℕ) (step : Step) (number : ℕ) (w : NodeWriter) : Type 0 where
  pub holds : Holds (with_tail same_step tails (in_front tails next step)) w
  pub is : number ≡ head_in same_step (with_tail same_step tails (in_front tails next step)) (step ∷ steps_at tails next)
  pub within : number ≤ length (with_tail same_step tails (in_front tails next step))
