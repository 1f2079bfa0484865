use Rattle.std.proofs.Common.{◌≡◌, ◌+◌, drop}
use Rattle.sh_token.specs.Folded.{run}
use Rattle.sh_token.specs.Quoting.{not_quote}
use Rattle.sh_token.proofs.quotes.before_quote.Given as goal

abbrev pub invariant-loop-at : goal.invariant-loop-at
invariant-loop-at l = run not_quote l.text ≡ l.at + run not_quote (drop l.at l.text)
