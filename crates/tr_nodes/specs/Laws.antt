-- Laws of the spelling, of talks whose steps are texts.
use Rattle.std.specs.Prelude.{◌≡◌, ◌↔◌, ℕ, List, length}
use Rattle.rk_base.specs.Text.{Text, same_text}
use Rattle.tr_nodes.specs.Nodes.{Node}
use Rattle.tr_nodes.specs.Tails.{nodes_of, heads_of, IsSpelling, AreNodes, UsesAll}

-- no two lists of talks have one spelling
abbrev pub OneSpelling : Type 0
OneSpelling = (a b : List (List Text)) → nodes_of same_text a ≡ nodes_of same_text b → heads_of same_text a ≡ heads_of same_text b → a ≡ b

-- nodes and heads are a spelling exactly where each node stands behind that of its rest, no two are equal, and the heads use all of
-- them in their order
abbrev pub KnownByNumbers : Type 0
KnownByNumbers = (nodes : List (Node Text)) (heads : List ℕ) → IsSpelling same_text nodes heads ↔ (AreNodes nodes × UsesAll nodes 0 heads (length nodes))
