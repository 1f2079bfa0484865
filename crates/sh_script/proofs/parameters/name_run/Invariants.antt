use Rattle.std.proofs.Common.{◌≡◌, ◌+◌, ◌-◌, ◌≤◌, drop, length}
use Rattle.sh_script.specs.Names.{count_of, in_name}
use Rattle.sh_script.proofs.parameters.name_run.Given as goal

-- so many went by
abbrev pub invariant-run : goal.invariant-run
invariant-run l = (l.at ≤ length l.text) × (count_of in_name l.text ≡ l.at + count_of in_name (drop l.at l.text))

abbrev pub decreases-run : goal.decreases-run
decreases-run l = length l.text - l.at
