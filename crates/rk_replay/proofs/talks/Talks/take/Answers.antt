use Rattle.std.proofs.Common.{◌≡◌, ◌<◌, IfSome, length, refl, sym, subst}
use Rattle.std.specs.Prelude.{IsTrue, ◌↔◌}
use Rattle.tr_record.specs.Rec.{rec_at}
use Rattle.tr_matching.specs.Groups.{group_at, numbers_of}
use Rattle.tr_matching.specs.Places.{TakesOn}
use Rattle.tr_matching.specs.Steps.{answer_at}
use Rattle.rk_replay.proofs.SeatLemmas.{leads-off, leads-on, talks-same}
use Rattle.rk_replay.proofs.talks.Talks.take.Goals as goal

pub take-requires-clause-asks : goal.take-requires-clause-asks
take-requires-clause-asks c = subst (λ f. c.args.seat.place.at < length (rec_at f c.args.earlier.now.records).steps) (sym c.requires.seat.first) c.requires.asks

pub take-requires-clause-alike : goal.take-requires-clause-alike
take-requires-clause-alike c =
    subst (λ f. IfSome c.args.alike (λ b. IsTrue b ↔ (answer_at c.args.earlier.now.records c.args.seat.place.at f ≡ c.args.answer.now))) (sym c.requires.seat.first) c.requires.alike

pub returns-in-On-clause-talks : goal.returns-in-On-clause-talks
returns-in-On-clause-talks c =
    talks-same c.args.earlier.now c.args.self.now (record { groups = c.take.new.groups; firsts = c.args.self.now.firsts }) c.requires.talks refl c.take.ensures.groups c.take.ensures.grows

pub returns-in-GivenUp-clause-talks : goal.returns-in-GivenUp-clause-talks
returns-in-GivenUp-clause-talks c =
    talks-same c.args.earlier.now c.args.self.now (record { groups = c.take.new.groups; firsts = c.args.self.now.firsts }) c.requires.talks refl c.take.ensures.groups c.take.ensures.grows

pub returns-in-On-clause-leads : goal.returns-in-On-clause-leads
returns-in-On-clause-leads c =
    let taken = subst (TakesOn c.args.earlier.now c.args.seat.place.at (numbers_of (group_at c.args.seat.place.group c.args.self.now.groups.items)) c.args.answer.now c.take.new.groups.items) c.in-On.is c.in_ok-place.ensures.taken in
    leads-on c.args.earlier.now c.args.self.now.groups.items c.args.seat c.args.answer.now c.requires.talks.groups c.requires.seat c.requires.known c.requires.asks c.take.new.groups.items c.take.ensures.groups c.in-On.place c.first-rec.result taken c.first-rec.ensures

pub returns-in-GivenUp-clause-leads : goal.returns-in-GivenUp-clause-leads
returns-in-GivenUp-clause-leads c =
    let taken = subst (TakesOn c.args.earlier.now c.args.seat.place.at (numbers_of (group_at c.args.seat.place.group c.args.self.now.groups.items)) c.args.answer.now c.take.new.groups.items) c.in-GivenUp.is c.in_ok-place.ensures.taken in
    leads-off c.args.earlier.now c.args.self.now.groups.items c.args.seat c.args.answer.now c.requires.talks.groups c.requires.seat c.requires.known c.requires.asks c.take.new.groups.items c.take.ensures.groups c.in-GivenUp.cause taken
