-- The script that a parse tree is (XCU 2.10).
use Rattle.std.specs.Prelude.{List, [], ◌∷◌}
use Rattle.rk_base.specs.Text.{Text}
use Rattle.sh_ast.specs.Commands.{CommandsTree, commands_of, WordTree}
use Rattle.sh_rules.specs.Grammar.{Symbol, Want, Do}
use Rattle.sh_rules.specs.declared.token_kind.TokenKind.{TokenKind}
use Rattle.sh_rules.specs.Parts.{Part}
use Rattle.sh_rules.specs.Rules as r
use Rattle.sh_rules.specs.Rules.{Rule, part_of, spelling, script}
use Rattle.sh_script.specs.Words.{word}
use Rattle.sh_script.specs.Documents.{last, but_last, literal_body, document}
use Rattle.sh_script.specs.Made.{Made, Values}
use Rattle.sh_script.specs.Makes.{make}
use Rattle.sh_script.specs.Trees.{Trees, no_trees, token_and, rule_and}

-- HERE-DOCUMENTS (XCU 2.7.4). Their bodies stand behind their operators, so what a tree comes to hangs on the bodies behind it
-- that are free: that no operator behind it has, in their order. Behind the tree before it those are free that it leaves free.
pub record Comes (A : Type 0) : Type 0 where
  pub value : A
  pub free : List WordTree

abbrev pub Meaning : Symbol TokenKind Part → Type 0
Meaning (Want kind) = Text
Meaning (Do it) = List WordTree → Comes (Made it)

abbrev pub Meanings : List (Symbol TokenKind Part) → Type 0
Meanings [] = Unit {0}
Meanings (symbol ∷ symbols) = Meaning symbol × Meanings symbols

-- what symbols come to, from the last to the first
abbrev pub through : (symbols : List (Symbol TokenKind Part)) → Meanings symbols → List WordTree → Comes (Values symbols)
through [] meanings free = record { value = tt; free = free }
through (Want kind ∷ symbols) meanings free =
    let y = through symbols meanings.1 free in
    record { value = (meanings.0, y.value); free = y.free }
through (Do it ∷ symbols) meanings free =
    let y = through symbols meanings.1 free in
    let x = meanings.0 y.free in
    record { value = (x.value, y.value); free = x.free }

-- What a rule leaves free: an operator has the last body that is free behind it, and a body is in front of those behind it.
abbrev pub left : (rule : Rule) → Values (spelling rule) → List WordTree → List WordTree
left r.Here values free = but_last free
left r.Literal_body values free = literal_body values.0 ∷ free
left rule values free = free

-- What a rule means, by what its symbols mean. What stands in a body is a text by itself, whose operators have bodies in it.
abbrev pub meaning_by : (rule : Rule) → Meanings (spelling rule) → List WordTree → Comes (Made (part_of rule))
meaning_by r.Body meanings free = record { value = tt; free = word (meanings.1.0 []).value ∷ (meanings.1.1.0 free).free }
meaning_by rule meanings free =
    let x = through (spelling rule) meanings free in
    record { value = make (document (last x.free)) rule x.value; free = left rule x.value x.free }

-- what trees mean, one after another
abbrev pub meanings_of : {symbols : List (Symbol TokenKind Part)} → Trees symbols → Meanings symbols
meanings_of no_trees = tt
meanings_of (token_and token rest) = (token.text, meanings_of rest)
meanings_of (rule_and rule below rest) = (meaning_by rule (meanings_of below), meanings_of rest)

-- THE SCRIPT that a parse tree is: behind it no bodies stand
unfoldable pub script_of : Trees script → CommandsTree
script_of trees = commands_of (through script (meanings_of trees) []).value.0
