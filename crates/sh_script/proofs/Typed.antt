-- The trees of any table of rules that are of the shell's, as parse trees of the shell's grammar.
use Rattle.std.proofs.Common.{◌≡◌, List, [], ◌∷◌, ◌++◌, refl, sym, ap, ◌∙◌, subst}
use Rattle.sh_rules.specs.Grammar.{Symbol, Want, Do, Parse, Leaf, Node, Parses, no_parses, parse_and, leaves_all, IsParse, AreParses}
use Rattle.sh_rules.specs.declared.token_kind.TokenKind.{TokenKind}
use Rattle.sh_rules.specs.Parts.{Part}
use Rattle.sh_rules.specs.Rules.{Rule, Token, spelling, shell}
use Rattle.sh_script.specs.Trees.{Trees, no_trees, token_and, rule_and, tokens}

abbrev pub untyped : {symbols : List (Symbol TokenKind Part)} → Trees symbols → Parses Rule Token
untyped no_trees = no_parses
untyped (token_and t ts) = parse_and (Leaf t) (untyped ts)
untyped (rule_and r below ts) = parse_and (Node r (untyped below)) (untyped ts)

pub are_parses : {symbols : List (Symbol TokenKind Part)} (ts : Trees symbols) → AreParses shell (untyped ts) symbols
are_parses no_trees = tt
are_parses (token_and t ts) = (refl, are_parses ts)
are_parses (rule_and r below ts) = ((refl, are_parses below), are_parses ts)

pub tokens_are : {symbols : List (Symbol TokenKind Part)} (ts : Trees symbols) → leaves_all (untyped ts) ≡ tokens ts
tokens_are no_trees = refl
tokens_are (token_and t ts) = ap (λ l. t ∷ l) (tokens_are ts)
tokens_are (rule_and r below ts) = ap (λ l. l ++ leaves_all (untyped ts)) (tokens_are below) ∙ ap (λ l. tokens below ++ l) (tokens_are ts)

-- each tree by the rules is one
abbrev pub IsTyped : Parses Rule Token → List (Symbol TokenKind Part) → Type 0
IsTyped qs symbols = (ts : Trees symbols) × (untyped ts ≡ qs)

leaf_typed : (t : Token) (qs : Parses Rule Token) (s : Symbol TokenKind Part) (ss : List (Symbol TokenKind Part)) → s ≡ Want t.kind → IsTyped qs ss → IsTyped (parse_and (Leaf t) qs) (s ∷ ss)
leaf_typed t qs s ss e x = subst (λ s. IsTyped (parse_and (Leaf t) qs) (s ∷ ss)) (sym e) (token_and t x.0, ap (parse_and (Leaf t)) x.1)

node_typed : (r : Rule) (below qs : Parses Rule Token) (s : Symbol TokenKind Part) (ss : List (Symbol TokenKind Part)) → s ≡ Do (shell.part_of r) → IsTyped below (spelling r) → IsTyped qs ss → IsTyped (parse_and (Node r below) qs) (s ∷ ss)
node_typed r below qs s ss e y x =
    subst (λ s. IsTyped (parse_and (Node r below) qs) (s ∷ ss)) (sym e)
    (rule_and r y.0 x.0, ap (λ b. parse_and (Node r b) (untyped x.0)) y.1 ∙ ap (parse_and (Node r below)) x.1)

mutual
  first_typed : (q : Parse Rule Token) (qs : Parses Rule Token) (s : Symbol TokenKind Part) (ss : List (Symbol TokenKind Part)) → IsParse shell q s → IsTyped qs ss → IsTyped (parse_and q qs) (s ∷ ss)
  first_typed (Leaf t) qs s ss h x = leaf_typed t qs s ss h x
  first_typed (Node r below) qs s ss h x = node_typed r below qs s ss h.0 (typed below (spelling r) h.1) x

  pub typed : (qs : Parses Rule Token) (ss : List (Symbol TokenKind Part)) → AreParses shell qs ss → IsTyped qs ss
  typed no_parses [] h = (no_trees, refl)
  typed no_parses (s ∷ ss) h = absurd h
  typed (parse_and q qs) [] h = absurd h
  typed (parse_and q qs) (s ∷ ss) h = first_typed q qs s ss h.0 (typed qs ss h.1)
