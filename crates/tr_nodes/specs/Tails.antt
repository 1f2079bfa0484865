-- Tails of talks, and the nodes that spell them. A talk is a list of steps, a tail what stands from one of its steps on.
use Rattle.std.specs.Prelude.{◌≡◌, ◌⊎◌, ℕ, zero, suc, ◌<◌, ◌≤◌, Bool, ◌&&◌, if◌then◌else◌}
use Rattle.std.specs.Prelude.{List, [], ◌∷◌, ◌++◌, Option, Some, None, length, map, fold, slice_get}
use Rattle.std.specs.List.{list_any, position_or_len}
use Rattle.std.specs.Cmp.Lexicographic.{pointwise}
use Rattle.tr_nodes.specs.Nodes.{Node}

-- a first step, and the rest
pub record Tail (X : Type 0) : Type 0 where
  pub first : X
  pub rest : List X

-- ---- what is written

module _ {X : Type 0} (same : X → X → Bool) where
  abbrev pub same_tail : Tail X → Tail X → Bool
  same_tail a b = same a.first b.first && pointwise same a.rest b.rest

  abbrev pub has : List (Tail X) → Tail X → Bool
  has tails tail = list_any (same_tail tail) tails

  -- the tails, and one more behind them where it isn't among them
  abbrev pub with_tail : List (Tail X) → Tail X → List (Tail X)
  with_tail tails tail = if has tails tail then tails else tails ++ tail ∷ []

  -- the tails, and what a talk needs besides: each of its own tails once, from its last step to its first
  abbrev pub needing : List (Tail X) → List X → List (Tail X)
  needing tails [] = tails
  needing tails (step ∷ steps) = with_tail (needing tails steps) (record { first = step; rest = steps })

  -- the tails that talks need, in the order in which they first need them
  abbrev pub needed : List (List X) → List (Tail X)
  needed talks = fold needing [] talks

  -- the number of steps among tails: 0 for none, else one more than the place of the tail that they are
  abbrev pub head_in : List (Tail X) → List X → ℕ
  head_in tails [] = 0
  head_in tails (step ∷ steps) = suc (position_or_len (same_tail (record { first = step; rest = steps })) tails)

  -- the node of a tail: the number of the rest, and the first step
  abbrev pub node_in : List (Tail X) → Tail X → Node X
  node_in tails tail = record { next = head_in tails tail.rest; step = tail.first }

  -- the spelling of talks: a node for each tail that they need, and the number of each talk
  abbrev pub nodes_of : List (List X) → List (Node X)
  nodes_of talks = map (node_in (needed talks)) (needed talks)

  abbrev pub heads_of : List (List X) → List ℕ
  heads_of talks = map (head_in (needed talks)) talks

-- ---- what nodes say

module _ {X : Type 0} where
  abbrev pub steps_of : Option (Tail X) → List X
  steps_of None = []
  steps_of (Some tail) = tail.first ∷ tail.rest

  -- the steps of a number
  abbrev pub steps_at : List (Tail X) → ℕ → List X
  steps_at tails zero = []
  steps_at tails (suc n) = steps_of (slice_get tails n)

  -- the tail that a node is behind these
  abbrev pub tail_after : List (Tail X) → Node X → Tail X
  tail_after tails node = record { first = node.step; rest = steps_at tails node.next }

  -- the tails, and those that nodes are behind them, one after the other
  abbrev pub tails_from : List (Tail X) → List (Node X) → List (Tail X)
  tails_from tails [] = tails
  tails_from tails (node ∷ nodes) = tails_from (tails ++ tail_after tails node ∷ []) nodes

  unfoldable pub tails_of : List (Node X) → List (Tail X)
  tails_of nodes = tails_from [] nodes

  -- the talks of these numbers
  abbrev pub talks_of : List (Node X) → List ℕ → List (List X)
  talks_of nodes heads = map (steps_at (tails_of nodes)) heads

-- ---- which nodes and numbers are a spelling

-- these are what some talks are spelt as
abbrev pub IsSpelling : {X : Type 0} → (X → X → Bool) → List (Node X) → List ℕ → Type 0
IsSpelling {X} same nodes heads = (talks : List (List X)) × (nodes ≡ nodes_of same talks) × (heads ≡ heads_of same talks)

-- nothing stands at two places
abbrev pub IsApart : {Y : Type 0} → List Y → Type 0
IsApart {Y} ys = (i j : ℕ) (y : Y) → slice_get ys i ≡ Some y → slice_get ys j ≡ Some y → i ≡ j

-- each node stands behind that of its rest, and no two are equal
pub record AreNodes {X : Type 0} (nodes : List (Node X)) : Type 0 where
  pub earlier : (k : ℕ) (node : Node X) → slice_get nodes k ≡ Some node → node.next ≤ k
  pub apart : IsApart nodes

-- numbers of nodes, or 0
abbrev pub AreInside : {X : Type 0} → List (Node X) → List ℕ → Type 0
AreInside nodes heads = (k head : ℕ) → slice_get heads k ≡ Some head → head ≤ length nodes

-- each node between two numbers stands right behind that of its rest
abbrev pub AreLinked : {X : Type 0} → List (Node X) → ℕ → ℕ → Type 0
AreLinked {X} nodes used head = (k : ℕ) (node : Node X) → used < k → k < head → slice_get nodes k ≡ Some node → node.next ≡ k

-- where so many nodes were in use, so many are after a talk of this number: no more; or up to its own, and each of the new ones
-- but the first needs the one before it
abbrev pub Uses : {X : Type 0} → List (Node X) → ℕ → ℕ → ℕ → Type 0
Uses nodes used head now = ((head ≤ used) × (now ≡ used)) ⊎ ((used < head) × (head ≤ length nodes) × AreLinked nodes used head × (now ≡ head))

-- and so talk by talk
abbrev pub UsesAll : {X : Type 0} → List (Node X) → ℕ → List ℕ → ℕ → Type 0
UsesAll nodes used [] now = used ≡ now
UsesAll nodes used (head ∷ heads) now = (mid : ℕ) × Uses nodes used head mid × UsesAll nodes mid heads now
