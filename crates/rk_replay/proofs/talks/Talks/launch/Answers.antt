use Rattle.rk_replay.proofs.Options.{of-none, of-some}
use Rattle.rk_replay.proofs.SeatLemmas.{begins-first, begins-seat}
use Rattle.rk_replay.proofs.talks.Talks.launch.Goals as goal

pub first-rec-requires-clause-here : goal.first-rec-requires-clause-here
first-rec-requires-clause-here c = (of-some _ _ _ c.in-Some.is c.in_ok-group.ensures.begun).0

pub first-rec-requires-clause-some : goal.first-rec-requires-clause-some
first-rec-requires-clause-some c = (c.in_ok-group.ensures.talks.groups c.in-Some.g (of-some _ _ _ c.in-Some.is c.in_ok-group.ensures.begun).0).common.some

pub first_place-place-requires : goal.first_place-place-requires
first_place-place-requires c = (of-some _ _ _ c.in-Some.is c.in_ok-group.ensures.begun).0

pub returns-in-None-clause-none : goal.returns-in-None-clause-none
returns-in-None-clause-none c = of-none _ _ c.in-None.is c.in_ok-group.ensures.none

pub returns-in-Some-clause-seat : goal.returns-in-Some-clause-seat
returns-in-Some-clause-seat c =
    begins-seat c.args.earlier.now c.group.new.self.groups.items c.args.key.now c.in-Some.g (record { rec = c.first-rec.result; place = c.first_place-place.result }) c.in_ok-group.ensures.talks.groups
    (of-some _ _ _ c.in-Some.is c.in_ok-group.ensures.begun) (of-some _ _ _ c.in-Some.is c.in_ok-group.ensures.are) c.first-rec.ensures c.first_place-place.ensures

pub returns-in-Some-clause-first : goal.returns-in-Some-clause-first
returns-in-Some-clause-first c =
    begins-first c.args.earlier.now c.group.new.self.groups.items c.args.key.now c.in-Some.g (record { rec = c.first-rec.result; place = c.first_place-place.result }) c.in_ok-group.ensures.talks.groups
    (of-some _ _ _ c.in-Some.is c.in_ok-group.ensures.begun) (of-some _ _ _ c.in-Some.is c.in_ok-group.ensures.are) c.first-rec.ensures c.first_place-place.ensures
