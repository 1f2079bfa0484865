use Rattle.rk_replay.proofs.HearingLemmas.{first-says}
use Rattle.rk_replay.proofs.Options.{of-some}
use Rattle.rk_replay.proofs.activity.Activity.launch.Goals as goal

pub returns-in-Some-clause-says : goal.returns-in-Some-clause-says
returns-in-Some-clause-says g c = first-says g.K.Maker.first c.args.earlier.now.records c.args.key.now c.in-Some.seat (of-some _ _ _ c.in-Some.is c.in_ok-seat.ensures.first)
