use Rattle.std.proofs.Common.{◌≡◌, ◌+◌, drop}
use Rattle.sh_token.specs.Bytes.{is_tab}
use Rattle.sh_token.specs.Folded.{run}
use Rattle.sh_token.proofs.body.tabs.Given as goal

abbrev pub invariant-loop-at : goal.invariant-loop-at
invariant-loop-at l = run is_tab l.text ≡ l.at + run is_tab (drop l.at l.text)
