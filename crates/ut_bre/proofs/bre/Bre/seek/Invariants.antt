use Rattle.std.proofs.Common.{length, ◌-◌, ◌≤◌}
use Rattle.ut_bre.specs.Expressions.{expression}
use Rattle.ut_bre.specs.Running.{NoneFrom}
use Rattle.ut_bre.proofs.bre.Bre.seek.Given as goal

abbrev pub invariant-starts : goal.invariant-starts
invariant-starts l = record { behind : l.from ≤ l.at; within : l.at ≤ length l.line; none : NoneFrom (expression l.self) l.line l.from l.at }

abbrev pub decreases-starts : goal.decreases-starts
decreases-starts l = length l.line - l.at
