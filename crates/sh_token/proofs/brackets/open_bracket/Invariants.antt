use Rattle.sh_token.proofs.Symbols.{Opened}
use Rattle.sh_token.proofs.brackets.open_bracket.Given as goal

abbrev pub invariant-loop-at : goal.invariant-loop-at
invariant-loop-at l = Opened l.class l.text l.left l.first_passed l.passed l.at
