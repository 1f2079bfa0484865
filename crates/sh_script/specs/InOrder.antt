-- Here-documents in the order of XCU 2.7.4: the first operator of a text has the first body, and the n-th the n-th. That a script
-- is the same so is a law (`documents_in_order`).
use Rattle.std.specs.Prelude.{ℕ, ◌+◌, List, [], ◌∷◌, ◌++◌, drop, Option, Some, None}
use Rattle.rk_base.specs.Text.{Text}
use Rattle.sh_ast.specs.Commands.{CommandsTree, commands_of, WordTree}
use Rattle.sh_rules.specs.Grammar.{Symbol, Want, Do}
use Rattle.sh_rules.specs.declared.token_kind.TokenKind.{TokenKind}
use Rattle.sh_rules.specs.Parts.{Part}
use Rattle.sh_rules.specs.Rules as r
use Rattle.sh_rules.specs.Rules.{Rule, part_of, spelling, script}
use Rattle.sh_script.specs.Words.{word}
use Rattle.sh_script.specs.Documents.{literal_body, document}
use Rattle.sh_script.specs.Made.{Made, Values}
use Rattle.sh_script.specs.Makes.{make}
use Rattle.sh_script.specs.Trees.{Trees, no_trees, token_and, rule_and}

-- How many operators stand in a tree, the bodies that stand in it, in their order, and what it comes to by the bodies that its
-- operators are given, in theirs.
pub record Ordered (A : Type 0) : Type 0 where
  pub operators : ℕ
  pub bodies : List WordTree
  pub value : List WordTree → A

abbrev pub Order : Symbol TokenKind Part → Type 0
Order (Want kind) = Text
Order (Do it) = Ordered (Made it)

abbrev pub Orders : List (Symbol TokenKind Part) → Type 0
Orders [] = Unit {0}
Orders (symbol ∷ symbols) = Order symbol × Orders symbols

abbrev pub first : List WordTree → Option WordTree
first [] = None
first (body ∷ bodies) = Some body

-- the operators of the first symbol are given the first bodies
abbrev pub in_order : (symbols : List (Symbol TokenKind Part)) → Orders symbols → Ordered (Values symbols)
in_order [] orders = record { operators = 0; bodies = []; value = λ given. tt }
in_order (Want kind ∷ symbols) orders =
    let y = in_order symbols orders.1 in
    record { operators = y.operators; bodies = y.bodies; value = λ given. (orders.0, y.value given) }
in_order (Do it ∷ symbols) orders =
    let x = orders.0 in
    let y = in_order symbols orders.1 in
    record { operators = x.operators + y.operators; bodies = x.bodies ++ y.bodies; value = λ given. (x.value given, y.value (drop x.operators given)) }

-- what stands in a body is a text by itself: its operators are given the bodies that stand in it
abbrev pub order_by : (rule : Rule) → Orders (spelling rule) → Ordered (Made (part_of rule))
order_by r.Here orders =
    let x = in_order (spelling r.Here) orders in
    record { operators = 1; bodies = []; value = λ given. make (document (first given)) r.Here (x.value given) }
order_by r.Literal_body orders =
    let x = in_order (spelling r.Literal_body) orders in
    record { operators = x.operators; bodies = literal_body orders.0 ∷ x.bodies; value = λ given. tt }
order_by r.Body orders =
    let x = orders.1.0 in
    let y = orders.1.1.0 in
    record { operators = y.operators; bodies = word (x.value x.bodies) ∷ y.bodies; value = λ given. tt }
order_by rule orders =
    let x = in_order (spelling rule) orders in
    record { operators = x.operators; bodies = x.bodies; value = λ given. make (document (first given)) rule (x.value given) }

abbrev pub orders_of : {symbols : List (Symbol TokenKind Part)} → Trees symbols → Orders symbols
orders_of no_trees = tt
orders_of (token_and token rest) = (token.text, orders_of rest)
orders_of (rule_and rule below rest) = (order_by rule (orders_of below), orders_of rest)

-- THE SCRIPT that a parse tree is, so: and how many operators and which bodies stand in the tree
unfoldable pub tree_in_order : Trees script → Ordered (Values script)
tree_in_order tree = in_order script (orders_of tree)

unfoldable pub script_in_order : Trees script → CommandsTree
script_in_order tree = commands_of ((tree_in_order tree).value (tree_in_order tree).bodies).0
