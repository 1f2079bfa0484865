use Rattle.std.proofs.Common.{◌++◌, ◌∷◌, [], ◌∙◌, ap, refl}
use Rattle.rk_replay.specs.Causes.{launch_cause}
use Rattle.rk_replay.proofs.Replaying.{Pays-start, starts-first}
use Rattle.rk_replay.proofs.SeatLemmas.{talks-none}
use Rattle.rk_replay.proofs.Options.{on-err}
use Rattle.rk_replay.proofs.Starting.{some-made}
use Rattle.rk_replay.proofs.Turning.{under-start}
use Rattle.rk_replay.proofs.replay.Replay.start.Goals as goal

pub launch-requires-clause-talks : goal.launch-requires-clause-talks
launch-requires-clause-talks g c = talks-none _ c.new-talks.result c.new-talks.ensures.groups c.new-talks.ensures.firsts

pub returns-in_err-top-clause-one : goal.returns-in_err-top-clause-one
returns-in_err-top-clause-one g c = on-err _ _ (some-made c.in_ok-machine.machine _ _ c.in_ok-machine.ensures.starts)

pub returns-clause-says : goal.returns-clause-says
returns-clause-says g c = rw c.in_ok-top.ensures.machine c.in_ok-machine.ensures.says

pub returns-clause-under_way : goal.returns-clause-under_way
returns-clause-under_way g c =
    under-start _ _ _ c.requires c.in_ok-machine.ensures.talks c.new-table.ensures (rw c.in_ok-top.ensures.machine c.in_ok-machine.ensures.launched) c.in_ok-top.ensures.place c.in_ok-top.ensures.table c.new-2.ensures.items
    (rw c.in_ok-top.ensures.machine (c.in_ok-top.ensures.noted ∙ ap (λ cs. cs ++ launch_cause c.in_ok-machine.machine ∷ []) c.new-causes.ensures)) (rw c.in_ok-top.ensures.machine c.in_ok-machine.ensures.seated) refl

pub returns-clause-starts : goal.returns-clause-starts
returns-clause-starts g c = starts-first _ _ _ _ c.in_ok-machine.ensures.starts (Pays-start _ _ _ _ _ c.new-table.ensures c.in_ok-machine.ensures.launched c.in_ok-top.ensures.table).0

pub returns-clause-live : goal.returns-clause-live
returns-clause-live g c = (Pays-start _ _ _ _ _ c.new-table.ensures c.in_ok-machine.ensures.launched c.in_ok-top.ensures.table).1

pub returns-clause-paid : goal.returns-clause-paid
returns-clause-paid g c = (Pays-start _ _ _ _ _ c.new-table.ensures c.in_ok-machine.ensures.launched c.in_ok-top.ensures.table).2
