use Rattle.std.proofs.Common.{subst}
use Rattle.rk_replay.specs.Seats.{Leads}
use Rattle.rk_replay.proofs.Standing.{Settled}
use Rattle.rk_replay.proofs.activity.Activity.take.Goals as goal

pub returns-in-On-clause-state : goal.returns-in-On-clause-state
returns-in-On-clause-state g c =
    let leads = subst (Leads c.args.earlier.now c.take.new.self.groups.items c.in-Replays.seat c.args.answer.now) c.in-On.is c.in_ok-next-in-Replays.ensures.leads in
    rw c.in-Replays.is (Settled g.K.Maker.first c.args.earlier.now.records c.in-Replays.seat c.args.answer.now c.in-On.next leads.1)
