use Rattle.std.proofs.Common.{◌∙◌, refl, sym, ap, subst}
use Rattle.tr_matching.specs.Groups.{numbers_in, numbers_of, group_at}
use Rattle.tr_matching.specs.Places.{IsNext}
use Rattle.rk_traces.specs.Lasting.{all-last}
use Rattle.rk_replay.specs.Taking.{AreTornLeft, IsFirstForged}
use Rattle.rk_replay.proofs.HearingLemmas.{heard-call, heard-call_short, heard-exit, heard-exit_short, says-call, says-exit}
use Rattle.rk_replay.proofs.SeatLemmas.{talks-same}
use Rattle.rk_replay.proofs.TornLemmas.{seat-torn, told-once}
use Rattle.rk_replay.proofs.hearing.hear_records.Goals as goal

pub returns-then-cost-purse-clause-spoke : goal.returns-then-cost-purse-clause-spoke
returns-then-cost-purse-clause-spoke g c =
    heard-call_short c.args.earlier.now c.args.talks.now.groups.items c.args.seat c.requires.talks.groups c.requires.seat g.K.Maker.first (all-last g.K.Maker.first g.met.K.Maker.command) c.args.purse c.in_ok-call.field-0 c.in_ok-call.ensures.next
    c.in-Asks.call c.in-Asks.cost c.in-Asks.is c.if-cost-purse.true

pub returns-then-cost-purse-clause-talks : goal.returns-then-cost-purse-clause-talks
returns-then-cost-purse-clause-talks g c =
    talks-same c.args.earlier.now c.args.talks.now (record { groups = c.next_from.new.groups; firsts = c.args.talks.now.firsts }) c.requires.talks refl c.next_from.ensures.groups c.next_from.ensures.grows

pub returns-else-cost-purse-clause-spoke : goal.returns-else-cost-purse-clause-spoke
returns-else-cost-purse-clause-spoke g c =
    heard-call c.args.earlier.now c.args.talks.now.groups.items c.args.seat c.requires.talks.groups c.requires.seat g.K.Maker.first (all-last g.K.Maker.first g.met.K.Maker.command) c.args.purse c.in_ok-call.field-0 c.in_ok-call.ensures.next
    c.in-Asks.call c.in-Asks.cost c.in-Asks.is c.if-cost-purse.false

pub returns-else-cost-purse-clause-talks : goal.returns-else-cost-purse-clause-talks
returns-else-cost-purse-clause-talks g c =
    talks-same c.args.earlier.now c.args.talks.now (record { groups = c.next_from.new.groups; firsts = c.args.talks.now.firsts }) c.requires.talks refl c.next_from.ensures.groups c.next_from.ensures.grows

pub returns-then-cost-purse-2-clause-spoke : goal.returns-then-cost-purse-2-clause-spoke
returns-then-cost-purse-2-clause-spoke g c =
    heard-exit_short c.args.earlier.now c.args.talks.now.groups.items c.args.seat c.requires.talks.groups c.requires.seat g.K.Maker.first (all-last g.K.Maker.first g.met.K.Maker.command) c.args.purse c.in_ok-call.field-0 c.in_ok-call.ensures.next
    c.in-Ends.status c.in-Ends.cost c.in-Ends.is c.if-cost-purse-2.true

pub returns-then-cost-purse-2-clause-talks : goal.returns-then-cost-purse-2-clause-talks
returns-then-cost-purse-2-clause-talks g c =
    talks-same c.args.earlier.now c.args.talks.now (record { groups = c.next_from.new.groups; firsts = c.args.talks.now.firsts }) c.requires.talks refl c.next_from.ensures.groups c.next_from.ensures.grows

pub returns-else-cost-purse-2-clause-spoke : goal.returns-else-cost-purse-2-clause-spoke
returns-else-cost-purse-2-clause-spoke g c =
    heard-exit c.args.earlier.now c.args.talks.now.groups.items c.args.seat c.requires.talks.groups c.requires.seat g.K.Maker.first (all-last g.K.Maker.first g.met.K.Maker.command) c.args.purse c.in_ok-call.field-0 c.in_ok-call.ensures.next
    c.in-Ends.status c.in-Ends.cost c.in-Ends.is c.if-cost-purse-2.false

pub returns-else-cost-purse-2-clause-talks : goal.returns-else-cost-purse-2-clause-talks
returns-else-cost-purse-2-clause-talks g c =
    talks-same c.args.earlier.now c.args.talks.now (record { groups = c.next_from.new.groups; firsts = c.args.talks.now.firsts }) c.requires.talks refl c.next_from.ensures.groups c.next_from.ensures.grows

pub torn-requires : goal.torn-requires
torn-requires g c =
    subst (λ ms. AreTornLeft c.args.earlier.now.records c.args.seat.place.at (numbers_in ms)) (sym c.members-members.ensures)
    (seat-torn c.args.earlier.now c.args.talks.now.groups.items c.next_from.new.groups.items c.args.seat c.requires.talks.groups c.next_from.ensures.groups c.next_from.ensures.grows c.requires.seat
    (subst (IsNext c.args.earlier.now.records c.args.seat.place.at (numbers_of (group_at c.args.seat.place.group c.args.talks.now.groups.items))) c.in-Torn.is c.in_ok-call.ensures.next))

pub returns-in-Torn-clause-first : goal.returns-in-Torn-clause-first
returns-in-Torn-clause-first g c =
    told-once g.K.Maker.first c.args.earlier.now.records c.args.seat.place.at c.args.seat.rec (numbers_of (group_at c.args.seat.place.group c.args.talks.now.groups.items)) c.requires.seat.are c.torn.result
    (subst (λ l. IsFirstForged g.K.Maker.first c.args.earlier.now.records c.args.seat.place.at l c.torn.result)
    (ap numbers_in c.members-members.ensures ∙ c.next_from.ensures.grows.same c.args.seat.place.group c.requires.seat.at.here) c.torn.ensures.first)

pub returns-else-cost-purse-clause-next : goal.returns-else-cost-purse-clause-next
returns-else-cost-purse-clause-next g c =
    says-call c.args.earlier.now c.args.talks.now.groups.items c.args.seat c.requires.talks.groups c.requires.seat c.in_ok-call.field-0 c.in-Asks.call c.in-Asks.cost c.in_ok-call.ensures.next c.in-Asks.is

pub returns-else-cost-purse-2-clause-next : goal.returns-else-cost-purse-2-clause-next
returns-else-cost-purse-2-clause-next g c =
    says-exit c.args.earlier.now c.args.talks.now.groups.items c.args.seat c.requires.talks.groups c.requires.seat c.in_ok-call.field-0 c.in-Ends.status c.in-Ends.cost c.in_ok-call.ensures.next c.in-Ends.is
