use Rattle.sh_token.proofs.Symbols.{Sought}
use Rattle.sh_token.proofs.brackets.closes_bracket.Given as goal

-- no `]` went by
abbrev pub invariant-loop-at : goal.invariant-loop-at
invariant-loop-at l = Sought l.class l.text l.left l.at
