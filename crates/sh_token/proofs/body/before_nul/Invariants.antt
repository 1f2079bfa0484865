use Rattle.std.proofs.Common.{◌≡◌, ◌+◌, drop}
use Rattle.sh_token.specs.Faults.{not_nul}
use Rattle.sh_token.specs.Folded.{run}
use Rattle.sh_token.proofs.body.before_nul.Given as goal

abbrev pub invariant-loop-at : goal.invariant-loop-at
invariant-loop-at l = run not_nul l.text ≡ l.at + run not_nul (drop l.at l.text)
