-- The table of choices is the one of the grammar.
use Rattle.std.proofs.Common.{◌≡◌, List, Option, Some, None, true, refl}
use Rattle.sh_rules.specs.declared.token_kind.TokenKind.{TokenKind}
use Rattle.sh_rules.specs.Parts.{Part}
use Rattle.sh_rules.specs.Rules.{Rule}
use Rattle.sh_rules.specs.Choosing.{choose}
use Rattle.sh_rules.proofs.Tables.{every, rule_is}
use Rattle.sh_grammar.specs.declared.choice.Begins.{Begins}
use Rattle.sh_grammar.specs.declared.rule.Rule as dr
use Rattle.sh_grammar.specs.Choices.{first_met, agree, tells}

agreed : (a b : Option Rule) → agree a b ≡ true → a ≡ b
agreed None None h = refl
agreed (Some q) None h = cc
agreed None (Some q) h = cc
agreed (Some x) (Some q) h = rule_is (Some x) q h

pub told : (part : Part) (choices : List (Begins × dr.Rule)) → tells part choices ≡ true → (kind : TokenKind) → first_met choices kind ≡ choose part kind
told part choices h kind = agreed (first_met choices kind) (choose part kind) (every (λ k. agree (first_met choices k) (choose part k)) h kind)
