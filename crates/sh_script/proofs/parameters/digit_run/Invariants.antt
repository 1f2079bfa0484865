use Rattle.std.proofs.Common.{◌≡◌, ◌+◌, ◌-◌, ◌≤◌, drop, length}
use Rattle.std.specs.Char.{is_ascii_digit}
use Rattle.sh_script.specs.Names.{count_of}
use Rattle.sh_script.proofs.parameters.digit_run.Given as goal

-- so many went by
abbrev pub invariant-run : goal.invariant-run
invariant-run l = (l.at ≤ length l.text) × (count_of is_ascii_digit l.text ≡ l.at + count_of is_ascii_digit (drop l.at l.text))

abbrev pub decreases-run : goal.decreases-run
decreases-run l = length l.text - l.at
