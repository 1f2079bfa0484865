use Rattle.std.proofs.Common.{◌+◌, sym, ◌∙◌, ap, subst, List}
use Rattle.std.proofs.lemmas.Result.{err_from_is_err_and}
use Rattle.rk_content.specs.Contents.{AreKnown}
use Rattle.tr_record.specs.Contents.{Recorded}
use Rattle.tr_record.specs.declared.records.Record.{Record}
use Rattle.tr_record.specs.Rec.{rec_at}
use Rattle.rk_traces.specs.Places.{length-stepped}
use Rattle.rk_replay.specs.declared.replay.Replay.{Replay}
use Rattle.rk_replay.specs.Activities.{counted}
use Rattle.rk_replay.proofs.Stopping.{stays-any, stops-forged}
use Rattle.rk_replay.proofs.Turning.{under-answer, counted-answer, paid-answer}
use Rattle.rk_replay.proofs.replay.Replay.answer.Goals as goal

pub settle-requires-clause-here : goal.settle-requires-clause-here
settle-requires-clause-here g c = rw (c.in-Ok.ensures.table, length-stepped) c.requires.said.under_way.replays.here

pub returns-in_err-settle-clause-stops : goal.returns-in_err-settle-clause-stops
returns-in_err-settle-clause-stops g c =
    let p = err_from_is_err_and c.from_residual-in_err-settle.result c.from_residual-in_err-settle.ensures.1 in
    let stays = g.met.W.Numbering.stays_on _ _ _ c.in-Ok.ensures.stays c.is_alike.ensures.stays in
    rw p.1 (stops-forged _ _ _ _ _ (λ want reason gives. g.met.W.Numbering.fails_want _ _ want reason stays gives) _ _ c.in_err-settle.ensures.forged p.2)

pub returns-in_err-settle-clause-stays : goal.returns-in_err-settle-clause-stays
returns-in_err-settle-clause-stays g c =
    let p = err_from_is_err_and c.from_residual-in_err-settle.result c.from_residual-in_err-settle.ensures.1 in
    rw p.1 (stays-any _ _ (g.met.W.Numbering.stays_on _ _ _ c.in-Ok.ensures.stays c.is_alike.ensures.stays))

pub returns-clause-under_way : goal.returns-clause-under_way
returns-clause-under_way g c =
    let o = c.in_ok-settle.ensures.others in
    under-answer c.args.self.now c.settle.new.self (ap (λ (r : Replay _). r.earlier) o) c.args.call c.args.cost c.in-Ok.given.0 c.requires.said
    (record { table = ap (λ (r : Replay _). r.table) o ∙ c.in-Ok.ensures.table; place = ap (λ (r : Replay _). r.top.place) o; stack = ap (λ (r : Replay _). r.stack.items) o })
    c.in_ok-settle.ensures.takes (ap (λ (r : Replay _). r.causes) o) (ap (λ (r : Replay _). r.still) o) c.in_ok-settle.ensures.talks c.in_ok-settle.ensures.grows c.in_ok-settle.ensures.seated

pub returns-clause-counted : goal.returns-clause-counted
returns-clause-counted g c =
    let o = c.in_ok-settle.ensures.others in
    counted-answer c.args.self.now c.settle.new.self (ap (λ (r : Replay _). r.earlier) o) c.args.call c.args.cost c.in-Ok.given.0 c.requires.said
    (record { table = ap (λ (r : Replay _). r.table) o ∙ c.in-Ok.ensures.table; place = ap (λ (r : Replay _). r.top.place) o; stack = ap (λ (r : Replay _). r.stack.items) o })
    c.in_ok-settle.ensures.takes _ _ _ _ c.in_ok-settle.ensures.starts
    (c.in_ok-settle.ensures.live
    ∙ ap (λ (t : List Record). c.args.live.now + counted c.args.self.now.top.machine c.settle.new.self.top.machine c.args.cost (rec_at c.args.self.now.top.place t)) (sym (ap (λ (r : Replay _). r.table) o)))

pub returns-clause-paid : goal.returns-clause-paid
returns-clause-paid g c =
    let o = c.in_ok-settle.ensures.others in
    paid-answer c.args.self.now c.settle.new.self (ap (λ (r : Replay _). r.earlier) o) c.args.call c.args.cost c.in-Ok.given.0 c.requires.said
    (record { table = ap (λ (r : Replay _). r.table) o ∙ c.in-Ok.ensures.table; place = ap (λ (r : Replay _). r.top.place) o; stack = ap (λ (r : Replay _). r.stack.items) o })
    c.in_ok-settle.ensures.takes

pub returns-clause-known : goal.returns-clause-known
returns-clause-known g c =
    subst (λ (r : Replay _). AreKnown (g.W.Numbering.contents c.is_alike.new.world) r.known.items r.earlier.contents.texts) (sym c.in_ok-settle.ensures.others)
    (subst (λ (x : Recorded). AreKnown (g.W.Numbering.contents c.is_alike.new.world) c.is_alike.new.known.items x.texts) c.contents-contents.ensures c.in_ok-alike.ensures.known)
