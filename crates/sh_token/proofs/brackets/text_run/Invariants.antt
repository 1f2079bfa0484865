use Rattle.sh_token.proofs.Symbols.{Run}
use Rattle.sh_token.proofs.brackets.text_run.Given as goal

abbrev pub invariant-loop-at : goal.invariant-loop-at
invariant-loop-at l = Run l.class l.text l.left l.fn.first_bracket l.here l.at
