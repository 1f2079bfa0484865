-- Nodes that are read.
use Rattle.std.specs.Prelude.{◌≡◌, ◌⊎◌, ℕ, ◌+◌, ◌<◌, ◌≤◌, ◌^◌, List, [], ◌∷◌, ◌++◌, Option, Some, true, false, length, map, slice_get}
use Rattle.std.specs.List.{AllByRecursion}
use Rattle.rk_base.specs.Text.{Text}
use Rattle.tr_nodes.specs.Nodes.{Node}
use Rattle.tr_nodes.specs.Tails.{Tail, AreNodes, tails_of}
use Rattle.tr_record.specs.Contents.{IsContent}
use Rattle.tr_record.specs.Costs.{steps_cost}
use Rattle.tr_record.specs.Pool.{Pool, with_node, steps_under}
use Rattle.tr_record.specs.declared.steps.Step.{Step}
use Rattle.tr_parts.specs.Piece.{has}
use Rattle.tr_parts.specs.declared.fault.PartErr.{PartErr}
use Rattle.tr_parts.specs.declared.fault.PartErr.TheVariants.{Form, NoMemory}
use Rattle.tr_codec.specs.declared.nodes.ReadNodes.{ReadNodes}
use Rattle.tr_codec.specs.NodeKeys.{key_of, IsKeyed}
use Rattle.tr_codec.specs.Reading.{node_at}
use Rattle.tr_codec.specs.Used.{step_used}

-- each node has a place for the number of a content, and each such number is that of its answer
pub record AreTold (texts : List Text) (pool : Pool) : Type 0 where
  pub many : length pool.contents ≡ length pool.nodes
  pub numbers : (k n : ℕ) (node : Node Step) → slice_get pool.contents k ≡ Some (Some n) → slice_get pool.nodes k ≡ Some node → IsContent texts n node.step.answer

-- what the nodes say
abbrev pub tails_in : ReadNodes → List (Tail Step)
tails_in nodes = tails_of nodes.pool.nodes

-- each stands behind that of its rest, no two are equal, and their keys are their bytes
pub record AreRead (blobs : List Text) (nodes : ReadNodes) : Type 0 where
  pub are : AreNodes nodes.pool.nodes
  pub keys : nodes.keys ≡ map (key_of blobs) nodes.pool.nodes
  pub keyed : AllByRecursion (IsKeyed blobs) nodes.pool.nodes
  pub told : AreTold blobs nodes.pool

-- a node more, whose key is new, and whose steps together cost less than 2^64
pub record Adds (old new : ReadNodes) (key : Text) (next : ℕ) (step : Step) (told : Option ℕ) : Type 0 where
  pub fresh : has old.keys key ≡ false
  pub keys : new.keys ≡ old.keys ++ key ∷ []
  pub pool : new.pool ≡ with_node old.pool next step told
  pub fits : step.cost + steps_cost (steps_under old.pool.nodes next) < 2 ^ 64

-- why it isn't added: its key is there, or its steps cost more
abbrev pub Refuses : ReadNodes → Text → ℕ → Step → PartErr → Type 0
Refuses old key next step Form = (has old.keys key ≡ true) ⊎ (2 ^ 64 ≤ step.cost + steps_cost (steps_under old.pool.nodes next))
Refuses old key next step NoMemory = Unit {0}

-- a node was read, and added; so many blobs are in use then
pub record NodeRead (blobs : List Text) (old new : ReadNodes) (bytes rest : List ℕ) (used now : Option ℕ) : Type 0 where
  pub tail : Tail Step
  pub read : node_at blobs (tails_in old) bytes ≡ Some (tail, rest)
  pub adds : tails_in new ≡ tails_in old ++ tail ∷ []
  pub are : AreRead blobs new
  pub uses : now ≡ step_used blobs used tail.first
