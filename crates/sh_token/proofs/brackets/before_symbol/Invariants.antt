use Rattle.sh_token.proofs.Symbols.{Before}
use Rattle.sh_token.proofs.brackets.before_symbol.Given as goal

abbrev pub invariant-loop-at : goal.invariant-loop-at
invariant-loop-at l = Before l.text l.left l.at
