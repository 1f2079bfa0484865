-- Steps that are kept as nodes, each with the number of its rest, so that records which end alike share them.
use Rattle.std.specs.Prelude.{◌≡◌, ℕ, zero, suc, ◌≤◌, List, [], ◌∷◌, ◌++◌, Option, Some, None, length, map, slice_get}
use Rattle.tr_nodes.specs.Nodes.{Node}
use Rattle.tr_nodes.specs.Tails.{steps_at, tails_of}
use Rattle.tr_record.specs.Costs.{steps_cost}
use Rattle.tr_record.specs.declared.steps.Step.{Step}
use Rattle.tr_record.specs.declared.pool.StepNode.{StepNode}

-- nodes, and for each the number of the content that its step's answer is, where it has one
pub record Pool : Type 0 where
  pub nodes : List (Node Step)
  pub contents : List (Option ℕ)

abbrev pub no_nodes : Pool
no_nodes = record { nodes = []; contents = [] }

-- one node more
abbrev pub with_node : Pool → ℕ → Step → Option ℕ → Pool
with_node pool next step content = record { nodes = pool.nodes ++ record { next = next; step = step } ∷ []; contents = pool.contents ++ content ∷ [] }

-- the steps of a number: none under 0
abbrev pub steps_under : List (Node Step) → ℕ → List Step
steps_under nodes number = steps_at (tails_of nodes) number

-- what stands under a number, which is one more than its place
abbrev pub under : {X : Type 0} → List X → ℕ → Option X
under xs zero = None
under xs (suc k) = slice_get xs k

abbrev pub next_by : Option (Node Step) → ℕ
next_by None = 0
next_by (Some node) = node.next

-- the number of what follows
abbrev pub next_of : List (Node Step) → ℕ → ℕ
next_of nodes number = next_by (under nodes number)

abbrev pub content_by : Option (Option ℕ) → Option ℕ
content_by None = None
content_by (Some content) = content

-- the content of a number, where it has one
abbrev pub content_of : List (Option ℕ) → ℕ → Option ℕ
content_of contents number = content_by (under contents number)

-- each node's steps are its own and those of its rest
abbrev pub AreSteps : List (Node Step) → Type 0
AreSteps nodes = (k : ℕ) (node : Node Step) → slice_get nodes k ≡ Some node → steps_under nodes (suc k) ≡ node.step ∷ steps_under nodes node.next

-- ---- nodes as they are kept

abbrev pub node_of : StepNode → Node Step
node_of it = record { next = it.next; step = it.step }

abbrev pub content_at : StepNode → Option ℕ
content_at it = it.content

-- of a node at a place: it stands behind that of its rest; and of its steps what they are, how many, and what they cost
pub record IsNoted (nodes : List (Node Step)) (place : ℕ) (it : StepNode) : Type 0 where
  pub earlier : it.next ≤ place
  pub steps : steps_under nodes (suc place) ≡ it.step ∷ steps_under nodes it.next
  pub count : it.count ≡ length (steps_under nodes (suc place))
  pub few : it.count ≤ suc place
  pub paid : it.paid ≡ steps_cost (steps_under nodes (suc place))

abbrev pub AreNoted : List StepNode → Type 0
AreNoted kept = (place : ℕ) (it : StepNode) → slice_get kept place ≡ Some it → IsNoted (map node_of kept) place it

-- it is the node of a number
pub record IsUnder (pool : Pool) (number : ℕ) (it : StepNode) : Type 0 where
  pub place : ℕ
  pub number_is : number ≡ suc place
  pub node : slice_get pool.nodes place ≡ Some (node_of it)
  pub content : slice_get pool.contents place ≡ Some it.content
  pub noted : IsNoted pool.nodes place it
