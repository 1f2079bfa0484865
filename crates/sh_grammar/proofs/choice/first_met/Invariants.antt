use Rattle.std.proofs.Common.{◌≡◌, drop}
use Rattle.sh_grammar.specs.Choices.{first_met as first_met_lem}
use Rattle.sh_grammar.proofs.choice.first_met.Given as goal

-- what is passed over isn't met
abbrev pub invariant-loop-choice : goal.invariant-loop-choice
invariant-loop-choice l = first_met_lem l.choices l.kind ≡ first_met_lem (drop l.choice-index l.choices) l.kind
