-- Steps that are put by their numbers among the nodes of a pool.
use Rattle.std.specs.Prelude.{◌≡◌, ℕ, zero, suc, ◌<◌, ◌≤◌, List, [], ◌∷◌, Some, length, map, slice_get, slice_index_or}
use Rattle.tr_nodes.specs.Nodes.{Node}
use Rattle.tr_nodes.specs.Tails.{Tail, needing, needed, head_in}
use Rattle.tr_record.specs.Pool.{steps_under, next_of}
use Rattle.tr_record.specs.declared.records.Record.{Record}
use Rattle.tr_record.specs.declared.steps.Step.{Step}
use Rattle.tr_codec.specs.NodesPut.{Holds}
use Rattle.tr_codec.specs.Same.{same_step}
use Rattle.tr_codec.specs.Spelling.{talks}
use Rattle.tr_codec.specs.declared.node_pieces.NodeWriter.{NodeWriter}

-- each number of a node that isn't 0 is that of its steps among those that were put
abbrev pub AreRenumbered : List (Tail Step) → List (Node Step) → List ℕ → Type 0
AreRenumbered tails nodes numbers = (k n : ℕ) → slice_get numbers k ≡ Some (suc n) → (head_in same_step tails (steps_under nodes (suc k)) ≡ suc n) × (suc n ≤ length tails)

-- these nodes follow one another, from the first number to the last
abbrev pub IsChain : List (Node Step) → ℕ → List ℕ → ℕ → Type 0
IsChain nodes head [] end = head ≡ end
IsChain nodes head (at ∷ left) end = (head ≡ at) × (0 < at) × (at ≤ length nodes) × IsChain nodes (next_of nodes at) left end

-- the number that is noted of a node
abbrev pub noted_of : List ℕ → ℕ → ℕ
noted_of numbers zero = 0
noted_of numbers (suc k) = slice_index_or numbers k 0

-- these steps were put, behind these tails; it is their number, and what is noted of nodes is so
pub record StepsPut (tails : List (Tail Step)) (nodes : List (Node Step)) (steps : List Step) (number : ℕ) (numbers : List ℕ) (w : NodeWriter) : Type 0 where
  pub holds : Holds (needing same_step tails steps) w
  pub renumbered : AreRenumbered (needing same_step tails steps) nodes numbers
  pub is : number ≡ head_in same_step (needing same_step tails steps) steps
  pub within : number ≤ length (needing same_step tails steps)

-- the nodes that these records need were put, and these are the numbers of their steps
pub record RecordsPut (table : List Record) (heads : List ℕ) (w : NodeWriter) : Type 0 where
  pub holds : Holds (needed same_step (talks table)) w
  pub heads_are : heads ≡ map (head_in same_step (needed same_step (talks table))) (talks table)
