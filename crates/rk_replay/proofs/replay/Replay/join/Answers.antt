use Rattle.rk_traces.specs.Places.{length-stepped}
use Rattle.rk_replay.proofs.replay.Replay.join.Goals as goal

pub settle-requires-clause-here : goal.settle-requires-clause-here
settle-requires-clause-here g c = rw (c.in_ok-self.ensures.table, length-stepped, c.in_ok-self.ensures.waited) c.requires.here
