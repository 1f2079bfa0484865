use Rattle.std.proofs.Common.{◌≡◌, ◌≤◌, ◌++◌, ◌-◌, take, drop, length}
use Rattle.ut_text.specs.Heads.{first_lines}
use Rattle.ut_text.proofs.head.first_lines.Given as goal

abbrev pub invariant-bytes : goal.invariant-bytes
invariant-bytes l = (l.at ≤ length l.text) × (take l.at l.text ++ first_lines l.left (drop l.at l.text) ≡ first_lines l.number l.text)

abbrev pub decreases-bytes : goal.decreases-bytes
decreases-bytes l = length l.text - l.at
