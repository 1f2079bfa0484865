-- A parse tree, mark by mark: each rule in front of what its symbols are.
use Rattle.std.specs.Prelude.{ℕ, List, [], ◌∷◌, ◌++◌, Option, Some, None}
use Rattle.sh_rules.specs.Grammar.{Parse, Leaf, Node, Parses, no_parses, parse_and}
use Rattle.sh_rules.specs.Rules.{Rule, Token}
use Rattle.sh_grammar.specs.Named.{rule_named}
use Rattle.sh_grammar.specs.declared.rule.Rule as r
use Rattle.sh_grammar.specs.declared.mark.Mark as d
use Rattle.sh_grammar.specs.declared.mark.Mark.TheVariants as v

pub data Mark : Type 0 where
  node : (rule : Rule) → Mark
  leaf : (text : List ℕ) → Mark

abbrev mutual
  pub flat : Parse Rule Token → List Mark
  flat (Leaf t) = leaf t.text ∷ []
  flat (Node r qs) = node r ∷ flat_all qs

  pub flat_all : Parses Rule Token → List Mark
  flat_all no_parses = []
  flat_all (parse_and q qs) = flat q ++ flat_all qs

abbrev pub mark_named : d.Mark → Mark
mark_named (v.Node rule) = node (rule_named rule)
mark_named (v.Leaf text) = leaf text

-- marks, the last of them first, out of their rules, where a token's has none, and the texts of the tokens
abbrev pub gathered : List (Option r.Rule) → List (List ℕ) → List Mark
gathered [] texts = []
gathered (Some rule ∷ rules) texts = node (rule_named rule) ∷ gathered rules texts
gathered (None ∷ rules) [] = []
gathered (None ∷ rules) (text ∷ texts) = leaf text ∷ gathered rules texts
