use Rattle.rk_replay.proofs.Numbering.{alike_waits}
use Rattle.rk_replay.proofs.activity.Activity.is_alike.Goals as goal

pub returns-in_ok-alike-in-Replays-clause-alike : goal.returns-in_ok-alike-in-Replays-clause-alike
returns-in_ok-alike-in-Replays-clause-alike g c =
    rw (c.in-Some.is, c.in-Replays.is)
    (alike_waits (g.W.Numbering.contents c.args.world.now) c.args.contents.now c.in-Replays.seat.rec c.in-Replays.seat.place.at c.in-Replays.seat.place.rest c.in-Some.seen c.in_ok-alike-in-Replays.alike c.in_ok-alike-in-Replays.ensures.alike)
