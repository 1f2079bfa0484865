use Rattle.std.proofs.Common.{◌≡◌, ◌≤◌, ◌-◌}
use Rattle.rk_calls.specs.Talk.{pay}
use Rattle.rk_calls.proofs.drive.advance.Given as goal

abbrev pub invariant-loop-call : goal.invariant-loop-call
invariant-loop-call g l =
    record {
      paid : l.owed ≤ l.purse;
      says : g.M.Machine.talk l.fn.m l.fn.answer ≡ pay l.owed (g.M.Machine.talk l.m l.a);
    }

abbrev pub decreases-loop-call : goal.decreases-loop-call
decreases-loop-call g l = l.purse - l.owed
