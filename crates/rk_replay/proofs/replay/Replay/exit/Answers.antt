use Rattle.std.proofs.Common.{◌≡◌, ◌+◌, ◌++◌, ◌∷◌, [], length, arith, refl, sym, ◌∙◌, ap, subst, append-nil, IsFalse, IsTrue}
use Rattle.rk_calls.specs.declared.answer.Answer.TheVariants.{Joined}
use Rattle.rk_calls.specs.declared.call.Call.TheVariants.{Launch}
use Rattle.tr_record.specs.declared.records.Record.{Record}
use Rattle.tr_record.specs.Rec.{ended, stepped, with_exit}
use Rattle.rk_traces.specs.Run.{step}
use Rattle.rk_replay.specs.declared.replay.Replay.{Replay}
use Rattle.rk_replay.specs.Activities.{IsWhole}
use Rattle.rk_replay.specs.Links.{pend}
use Rattle.rk_replay.proofs.Replaying.{Whole-end}
use Rattle.rk_replay.proofs.Turning.{exit-waiting, exit-knows, exit-place, exit-noted, ends-exit, counted-ends, exit-total, missed-by, under-join, counted-join, paid-join}
use Rattle.rk_replay.proofs.replay.Replay.exit.Goals as goal

pub is_still-still-requires-clause-contents : goal.is_still-still-requires-clause-contents
is_still-still-requires-clause-contents g c = c.requires.under_way.contents

pub is_still-still-requires-clause-whole : goal.is_still-still-requires-clause-whole
is_still-still-requires-clause-whole g c =
    subst (λ (r : Record). IsWhole c.args.self.now.earlier.records r c.args.self.now.top.machine) (sym c.at-rec.ensures) (Whole-end _ _ _ _ c.requires.under_way.replays _ _ c.requires.on c.args.status c.args.cost refl)

pub hand_on-requires-clause-whole : goal.hand_on-requires-clause-whole
hand_on-requires-clause-whole g c = Whole-end _ _ _ _ c.requires.under_way.replays _ _ c.requires.on c.args.status c.args.cost refl

pub join-requires-clause-waiting : goal.join-requires-clause-waiting
join-requires-clause-waiting g c = exit-waiting _ _ _ c.requires c.end.new.self _ _ (c.end.ensures ∙ ap (λ t. ended c.args.self.now.top.place c.args.status c.args.cost t) c.hand_on.ensures) c.in-Some.ensures.items

pub join-requires-clause-talks : goal.join-requires-clause-talks
join-requires-clause-talks g c = c.requires.under_way.talks

pub join-requires-clause-knows : goal.join-requires-clause-knows
join-requires-clause-knows g c = exit-knows _ _ _ c.requires c.end.new.self _ _ (c.end.ensures ∙ ap (λ t. ended c.args.self.now.top.place c.args.status c.args.cost t) c.hand_on.ensures) c.in-Some.ensures.items

pub join-requires-clause-here : goal.join-requires-clause-here
join-requires-clause-here g c = exit-place _ _ _ c.requires c.end.new.self _ _ (c.end.ensures ∙ ap (λ t. ended c.args.self.now.top.place c.args.status c.args.cost t) c.hand_on.ensures) c.in-Some.ensures.items

pub join-requires-clause-noted : goal.join-requires-clause-noted
join-requires-clause-noted g c = exit-noted _ _ _ c.requires c.end.new.self _ _ (c.end.ensures ∙ ap (λ t. ended c.args.self.now.top.place c.args.status c.args.cost t) c.hand_on.ensures) c.in-Some.ensures.items

pub returns-in-None-clause-ends : goal.returns-in-None-clause-ends
returns-in-None-clause-ends g c =
    let z : length c.args.self.now.stack.items ≡ 0 = omega (arith, c.in-None.ensures.cases.0, c.args.self.now.stack.ok.0) in
    ends-exit _ _ _ c.requires _ refl (c.end.ensures ∙ ap (λ t. ended c.args.self.now.top.place c.args.status c.args.cost t) c.hand_on.ensures) z (sym (c.in-None.ensures.items ∙ append-nil _)) refl c.both-self.ensures.first
    (λ t. let h = c.is_still-still.ensures.so (c.both-self.ensures.second t) in (h.0, ap (λ (r : Record). with_exit r c.args.status c.args.cost) (sym c.at-rec.ensures) ∙ h.1))
    (λ one f. missed-by c.args.self.now c.args.status c.args.cost c.requires c.is_still-still.result (λ k r. c.is_still-still.ensures.told one (k.0, ap (λ (r : Record). with_exit r c.args.status c.args.cost) c.at-rec.ensures ∙ k.1) r) (c.both-self.ensures.either f))

pub returns-in-None-clause-counted : goal.returns-in-None-clause-counted
returns-in-None-clause-counted g c =
    let z : length c.args.self.now.stack.items ≡ 0 = omega (arith, c.in-None.ensures.cases.0, c.args.self.now.stack.ok.0) in
    counted-ends _ _ _ c.requires _ refl (c.end.ensures ∙ ap (λ t. ended c.args.self.now.top.place c.args.status c.args.cost t) c.hand_on.ensures) z _ _ _ _ refl
    (c.tick.ensures ∙ ap (λ n. c.args.live.now + n) c.live_cost-counted.ensures)

pub returns-in-None-clause-paid : goal.returns-in-None-clause-paid
returns-in-None-clause-paid g c =
    let more = exit-total _ _ _ c.requires _ (c.end.ensures ∙ ap (λ t. ended c.args.self.now.top.place c.args.status c.args.cost t) c.hand_on.ensures) in
    let same = ap pend (c.in-None.ensures.items ∙ append-nil _) in
    omega (arith, more, same)

pub returns-in_ok-join-in-Some-clause-under_way : goal.returns-in_ok-join-in-Some-clause-under_way
returns-in_ok-join-in-Some-clause-under_way g c =
    let f = c.in-Some.frame in
    let o = c.in_ok-join-in-Some.ensures.others in
    let et = c.end.ensures ∙ ap (λ t. ended c.args.self.now.top.place c.args.status c.args.cost t) c.hand_on.ensures in
    under-join c.args.self.now c.join.new.self (ap (λ (r : Replay _). r.earlier) o) _ _ c.requires f
    (c.in-Some.ensures.items ∙ ap (λ (r : Replay _). r.stack.items ++ f ∷ []) (sym o))
    (ap (λ (r : Replay _). r.table) o ∙ ap (stepped f.waiting.place (step f.cost (Launch f.key f.map) (Joined c.args.status))) et)
    c.in_ok-join-in-Some.ensures.takes (ap (λ (r : Replay _). r.top.place) o) (ap (λ (r : Replay _). r.causes) o)
    (λ t. c.both-self.ensures.first (subst (λ (r : Replay _). IsTrue r.still) o t))
    (λ q. let t = subst (λ (r : Replay _). IsTrue r.still) o q in let h = c.is_still-still.ensures.so (c.both-self.ensures.second t) in (h.0, ap (λ (r : Record). with_exit r c.args.status c.args.cost) (sym c.at-rec.ensures) ∙ h.1))
    (λ one n. let f = subst (λ (r : Replay _). IsFalse r.still) o n in missed-by c.args.self.now c.args.status c.args.cost c.requires c.is_still-still.result (λ k r. c.is_still-still.ensures.told one (k.0, ap (λ (r : Record). with_exit r c.args.status c.args.cost) c.at-rec.ensures ∙ k.1) r) (c.both-self.ensures.either f)) c.in_ok-join-in-Some.ensures.talks c.in_ok-join-in-Some.ensures.grows c.in_ok-join-in-Some.ensures.seated

pub returns-in_ok-join-in-Some-clause-counted : goal.returns-in_ok-join-in-Some-clause-counted
returns-in_ok-join-in-Some-clause-counted g c =
    let f = c.in-Some.frame in
    let o = c.in_ok-join-in-Some.ensures.others in
    let et = c.end.ensures ∙ ap (λ t. ended c.args.self.now.top.place c.args.status c.args.cost t) c.hand_on.ensures in
    counted-join c.args.self.now c.join.new.self (ap (λ (r : Replay _). r.earlier) o) _ _ c.requires f
    (c.in-Some.ensures.items ∙ ap (λ (r : Replay _). r.stack.items ++ f ∷ []) (sym o))
    (ap (λ (r : Replay _). r.table) o ∙ ap (stepped f.waiting.place (step f.cost (Launch f.key f.map) (Joined c.args.status))) et)
    c.in_ok-join-in-Some.ensures.takes _ _ _ _ c.in_ok-join-in-Some.ensures.starts
    (omega (arith, c.tick-in-Some.ensures, c.in_ok-join-in-Some.ensures.live, c.live_cost-counted.ensures))

pub returns-in_ok-join-in-Some-clause-paid : goal.returns-in_ok-join-in-Some-clause-paid
returns-in_ok-join-in-Some-clause-paid g c =
    let f = c.in-Some.frame in
    let o = c.in_ok-join-in-Some.ensures.others in
    let et = c.end.ensures ∙ ap (λ t. ended c.args.self.now.top.place c.args.status c.args.cost t) c.hand_on.ensures in
    paid-join c.args.self.now c.join.new.self (ap (λ (r : Replay _). r.earlier) o) _ _ c.requires f
    (c.in-Some.ensures.items ∙ ap (λ (r : Replay _). r.stack.items ++ f ∷ []) (sym o))
    (ap (λ (r : Replay _). r.table) o ∙ ap (stepped f.waiting.place (step f.cost (Launch f.key f.map) (Joined c.args.status))) et)
    c.in_ok-join-in-Some.ensures.takes
