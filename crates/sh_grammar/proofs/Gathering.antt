-- Marks, out of their rules and the texts of tokens: one more at the end.
use Rattle.std.proofs.Common.{◌≡◌, ℕ, List, [], ◌∷◌, ◌++◌, Option, Some, None, reverse, ap, ◌∙◌}
use Rattle.std.proofs.lemmas.List.{reverse-append}
use Rattle.std.proofs.lemmas.Grind.{reverse_onto}
use Rattle.sh_grammar.specs.declared.rule.Rule.{Rule}
use Rattle.sh_grammar.specs.Named.{rule_named}
use Rattle.sh_grammar.specs.Marks.{node, leaf, gathered}

pub with_node : (rules rules' : List (Option Rule)) (texts : List (List ℕ)) (rule : Rule) → rules' ≡ rules ++ Some rule ∷ [] → reverse (gathered (reverse rules') (reverse texts)) ≡ reverse (gathered (reverse rules) (reverse texts)) ++ node (rule_named rule) ∷ []
with_node rules rules' texts rule e =
    ap (λ rs. reverse (gathered (reverse rs) (reverse texts))) e
    ∙ ap (λ rs. reverse (gathered rs (reverse texts))) (reverse-append rules (Some rule ∷ []))
    ∙ reverse_onto (gathered (reverse rules) (reverse texts)) (node (rule_named rule)) []

pub with_leaf : (rules rules' : List (Option Rule)) (texts texts' : List (List ℕ)) (text : List ℕ) → rules' ≡ rules ++ None ∷ [] → texts' ≡ texts ++ text ∷ [] → reverse (gathered (reverse rules') (reverse texts')) ≡ reverse (gathered (reverse rules) (reverse texts)) ++ leaf text ∷ []
with_leaf rules rules' texts texts' text e f =
    ap (λ rs. reverse (gathered (reverse rs) (reverse texts'))) e
    ∙ ap (λ rs. reverse (gathered rs (reverse texts'))) (reverse-append rules (None ∷ []))
    ∙ ap (λ ts. reverse (gathered (None ∷ reverse rules) (reverse ts))) f
    ∙ ap (λ ts. reverse (gathered (None ∷ reverse rules) ts)) (reverse-append texts (text ∷ []))
    ∙ reverse_onto (gathered (reverse rules) (reverse texts)) (leaf text) []

-- a token's text is missing
pub with_none : (rules rules' : List (Option Rule)) (texts : List (List ℕ)) → rules' ≡ rules ++ None ∷ [] → texts ≡ [] → reverse (gathered (reverse rules') (reverse texts)) ≡ []
with_none rules rules' texts e f =
    ap (λ rs. reverse (gathered (reverse rs) (reverse texts))) e
    ∙ ap (λ rs. reverse (gathered rs (reverse texts))) (reverse-append rules (None ∷ []))
    ∙ ap (λ ts. reverse (gathered (None ∷ reverse rules) (reverse ts))) f
