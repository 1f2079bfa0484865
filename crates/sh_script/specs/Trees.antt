-- Parse trees of the shell's grammar (XCU 2.10).
use Rattle.std.specs.Prelude.{List, [], ◌∷◌, ◌++◌}
use Rattle.sh_rules.specs.Grammar.{Symbol, Want, Do}
use Rattle.sh_rules.specs.declared.token_kind.TokenKind.{TokenKind}
use Rattle.sh_rules.specs.Parts.{Part}
use Rattle.sh_rules.specs.Rules.{Rule, Token, part_of, spelling}

-- What some symbols are, one after another: a token that is wanted, or a part by one of its rules, with what the symbols of
-- the rule are.
pub data Trees : List (Symbol TokenKind Part) → Type 0 where
  no_trees : Trees []
  token_and : {symbols : List (Symbol TokenKind Part)} (token : Token) (rest : Trees symbols) → Trees (Want token.kind ∷ symbols)
  rule_and : {symbols : List (Symbol TokenKind Part)} (rule : Rule) (below : Trees (spelling rule)) (rest : Trees symbols) → Trees (Do (part_of rule) ∷ symbols)

-- their tokens, from left to right
abbrev pub tokens : {symbols : List (Symbol TokenKind Part)} → Trees symbols → List Token
tokens no_trees = []
tokens (token_and token rest) = token ∷ tokens rest
tokens (rule_and rule below rest) = tokens below ++ tokens rest
