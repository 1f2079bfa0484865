-- Which rule a token chooses, by what each rule begins with.
use Rattle.std.specs.Prelude.{List, [], ◌∷◌, Option, Some, None, Bool, true, false}
use Rattle.sh_rules.specs.declared.token_kind.TokenKind.{TokenKind}
use Rattle.sh_rules.specs.Parts as p
use Rattle.sh_rules.specs.Parts.{Part}
use Rattle.sh_rules.specs.Rules.{Rule}
use Rattle.sh_rules.specs.Kinds.{same}
use Rattle.sh_rules.specs.Choosing.{begins, choose}
use Rattle.sh_rules.proofs.Enumerated.{all_kinds}
use Rattle.sh_rules.proofs.Tables.{is_rule, each}
use Rattle.sh_grammar.specs.declared.rule.Rule as dr
use Rattle.sh_grammar.specs.declared.choice.Begins.{Begins}
use Rattle.sh_grammar.specs.declared.choice.Begins.TheVariants as b
use Rattle.sh_grammar.specs.Named.{rule_named}

-- a token of a kind begins so
abbrev pub is_met : Begins → TokenKind → Bool
is_met (b.Token token) kind = same token kind
is_met b.Command kind = begins p.pipeline kind
is_met b.Stage kind = begins p.command kind
is_met b.Compound kind = begins p.compound kind
is_met b.Redirect kind = begins p.redirect kind
is_met b.Word kind = begins p.word kind
is_met b.Quoted kind = begins p.quoted kind
is_met b.Expansion kind = begins p.expansion kind
is_met b.Anything kind = true

abbrev pub rule_if : Bool → Rule → Option Rule → Option Rule
rule_if true rule other = Some rule
rule_if false rule other = other

-- the first of the rules that begins so
abbrev pub first_met : List (Begins × dr.Rule) → TokenKind → Option Rule
first_met [] kind = None
first_met (choice ∷ choices) kind = rule_if (is_met choice.0 kind) (rule_named choice.1) (first_met choices kind)

abbrev pub agree : Option Rule → Option Rule → Bool
agree None None = true
agree (Some q) None = false
agree o (Some q) = is_rule o q

-- for each kind it is the rule that the grammar says
abbrev pub tells : Part → List (Begins × dr.Rule) → Bool
tells part choices = each (λ kind. agree (first_met choices kind) (choose part kind)) all_kinds
