use Rattle.std.proofs.Common.{◌≡◌, drop}
use Rattle.rk_traces.proofs.Feeds.{Feeding}
use Rattle.rk_traces.proofs.feeding.feed.Given as goal

abbrev pub invariant-steps : goal.invariant-steps
invariant-steps g l =
    record {
      fed : Feeding g.K.Made.Machine.talk (g.K.Maker.first l.rec.key) l.rec.steps l.i l.machine l.answer;
      left : l.left ≡ drop l.i l.rec.steps;
    }
