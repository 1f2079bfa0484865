use Rattle.std.proofs.Common.{length, arith, refl, ap, ◌∙◌, ◌-◌}
use Rattle.std.proofs.lemmas.Result.{err_from_is_err_and}
use Rattle.rk_traces.specs.Lasting.{all-last}
use Rattle.rk_traces.specs.Freshing.{Freshing-start, Freshing-ask, Freshing-launch, Freshing-short, Freshing-end, Freshing-join}
use Rattle.rk_traces.specs.Places.{length-ended}
use Rattle.rk_traces.specs.Purse.{left}
use Rattle.rk_traces.specs.Run.{environment}
use Rattle.rk_traces.specs.Speaking.{fresh-spoken}
use Rattle.rk_replay.specs.declared.replay.Replay.{Replay}
use Rattle.rk_replay.specs.Activities.{stands, waits}
use Rattle.tr_matching.specs.Earlier.{EarlierRecords}
use Rattle.rk_replay.specs.Links.{pend}
use Rattle.rk_replay.proofs.Options.{of-some, of-none}
use Rattle.rk_replay.proofs.Replaying.{pend-none, starts-next, few-counted}
use Rattle.rk_replay.proofs.Numbering.{nothing_known}
use Rattle.rk_replay.proofs.Stopping.{told-forged, stays-any, stays-by, stops-want, stops-forged, stops-since}
use Rattle.rk_replay.proofs.Starting.{few-ran, fewer-ran, paid-some, ran-all, stopped-asked, stopped-checked, stopped-handed, stopped-launch, stopped-told, stopped-want}
use Rattle.rk_replay.proofs.Telling.{told-start, told-still, told-last, told-asked, told-first}
use Rattle.rk_replay.proofs.Totalling.{ran_count-length}
use Rattle.rk_replay.proofs.Turning.{earlier-since, launches-since, answers-since, joins-since, ends-since, says-since, state-since, counted-since, paid-since}
use Rattle.rk_replay.proofs.build.build_with.Goals as goal

pub turns-init : goal.turns-init
turns-init g c =
    let z = pend-none _ c.in_ok-replay.ensures.stack in
    record {
      under_way = c.in_ok-replay.ensures.under_way;
      goes = told-start _ _ (λ before. Freshing-start _ _ _ _ _ _ _ _ _ _ _ _ _ refl c.in_ok-replay.ensures.place c.in_ok-replay.ensures.refs refl c.in_ok-replay.ensures.table c.in_ok-replay.ensures.says c.in_ok-replay.ensures.stack);
      old = ap (λ (e : EarlierRecords). e.records) (c.in_ok-replay.ensures.earlier ∙ c.new.ensures);
      from = ap (λ (e : EarlierRecords). e.contents) (c.in_ok-replay.ensures.earlier ∙ c.new.ensures);
      kept = g.met.W.Numbering.keeps_itself _;
      stays = g.met.W.Numbering.stays_itself _;
      known = rw c.in_ok-replay.ensures.known (nothing_known _ _);
      starts = c.in_ok-replay.ensures.starts;
      live = omega (arith, c.in_ok-replay.ensures.live);
      paid = omega (arith, c.in_ok-replay.ensures.paid, z);
      limit = refl;
      few = omega arith;
    }

pub returns-in_err-replay-clause-stops : goal.returns-in_err-replay-clause-stops
returns-in_err-replay-clause-stops g c =
    let p = err_from_is_err_and c.from_residual.result c.from_residual.ensures.1 in
    rw p.1 (stops-want _ _ _ _ _ (λ want reason gives. g.met.W.Numbering.fails_want _ _ want reason (g.met.W.Numbering.stays_itself _) gives) _ p.2)

pub returns-in_err-replay-clause-stopped : goal.returns-in_err-replay-clause-stopped
returns-in_err-replay-clause-stopped g c =
    let p = err_from_is_err_and c.from_residual.result c.from_residual.ensures.1 in
    rw p.1 (stopped-launch _ _ _ 0 _ _ _ _ (omega arith) refl c.in_err-replay.ensures.one p.2)

pub hear-requires : goal.hear-requires
hear-requires g c =
    c.turns.invariant.under_way

pub returns-in_err-call-clause-stops : goal.returns-in_err-call-clause-stops
returns-in_err-call-clause-stops g c =
    let p = err_from_is_err_and c.from_residual-in_err-call.result c.from_residual-in_err-call.ensures.1 in
    rw (p.1, ← c.turns.invariant.old) (stops-forged _ _ _ _ _ (λ want reason gives. g.met.W.Numbering.fails_want _ _ want reason c.turns.invariant.stays gives) _ _ c.in_err-call.ensures.forged p.2)

pub returns-in_err-call-clause-stopped : goal.returns-in_err-call-clause-stopped
returns-in_err-call-clause-stopped g c =
    let p = err_from_is_err_and c.from_residual-in_err-call.result c.from_residual-in_err-call.ensures.1 in
    rw (p.1, ← c.turns.invariant.old) (stopped-told _ _ _ _ _ _ (few-ran c.turns.replay.earlier.records c.turns.replay.table (pend c.turns.replay.stack.items) c.args.budget.now.used c.turns.budget.used c.turns.invariant.under_way.records (omega (arith, c.turns.invariant.paid))) c.turns.invariant.starts _ _ _ p.2 c.in_err-call.ensures.started)

pub returns-in_err-launch-in-Launch-clause-stops : goal.returns-in_err-launch-in-Launch-clause-stops
returns-in_err-launch-in-Launch-clause-stops g c =
    let p = err_from_is_err_and c.from_residual-in_err-launch-in-Launch.result c.from_residual-in_err-launch-in-Launch.ensures.1 in
    rw p.1 (stops-want _ _ _ _ _ (λ want reason gives. g.met.W.Numbering.fails_want _ _ want reason c.turns.invariant.stays gives) _ p.2)

pub returns-in_err-launch-in-Launch-clause-stopped : goal.returns-in_err-launch-in-Launch-clause-stopped
returns-in_err-launch-in-Launch-clause-stopped g c =
    let p = err_from_is_err_and c.from_residual-in_err-launch-in-Launch.result c.from_residual-in_err-launch-in-Launch.ensures.1 in
    let some = paid-some _ _ _ _ _ c.in_ok-call.ensures.paid c.in-Call.is c.pay-cost.ensures.cost in
    rw p.1
    (stopped-launch _ _ _ _ _ _ _ _ (fewer-ran c.turns.replay.earlier.records c.turns.replay.table (pend c.turns.replay.stack.items) c.args.budget.now.used c.pay-cost.new.budget.used c.turns.invariant.under_way.records (omega (arith, some, c.turns.invariant.paid, c.pay-cost.ensures.used, c.pay-cost.ensures.cost)))
    (c.in_ok-call.ensures.starts ∙ c.turns.invariant.starts) c.in_err-launch-in-Launch.ensures.one p.2)

pub returns-in_err-launch-in-Launch-clause-world : goal.returns-in_err-launch-in-Launch-clause-world
returns-in_err-launch-in-Launch-clause-world g c =
    let p = err_from_is_err_and c.from_residual-in_err-launch-in-Launch.result c.from_residual-in_err-launch-in-Launch.ensures.1 in
    rw p.1 (stays-any _ _ c.turns.invariant.stays)

pub turns-preserved-in-Launch : goal.turns-preserved-in-Launch
turns-preserved-in-Launch g c =
    let e = earlier-since c.turns.replay c.hear.new.self c.launch.new.self c.hear.new.self.top.machine c.hear.new.self.talks c.in_ok-call.ensures.others c.in_ok-launch-in-Launch.ensures.earlier in
    let n = counted-since c.turns.replay c.hear.new.self c.launch.new.self c.hear.new.self.top.machine c.hear.new.self.talks c.in_ok-call.ensures.others _ _ _ _ c.in_ok-launch-in-Launch.ensures.counted in
    let d = paid-since c.turns.replay c.hear.new.self c.launch.new.self c.hear.new.self.top.machine c.hear.new.self.talks c.in_ok-call.ensures.others c.pay-cost.result c.in_ok-launch-in-Launch.ensures.paid in
    let l = launches-since c.turns.replay c.hear.new.self c.launch.new.self c.hear.new.self.top.machine c.hear.new.self.talks c.in_ok-call.ensures.others _ _ _ c.in_ok-launch-in-Launch.ensures.launched in
    record {
      under_way = c.in_ok-launch-in-Launch.ensures.under_way;
      goes =
          rw e
          (told-still _ _ _ _ c.turns.invariant.goes
          (λ before now i. Freshing-launch _ _ _ _ _ _ _ _ _ _ _ i _ _ (λ q. rw c.left.ensures.left at (c.in_ok-call.ensures.spoke q)) c.in_ok-call.ensures.goes
          _ _ _ _ _ _ _ _ _ _ c.in-Call.is c.pay-cost.ensures.cost (omega arith) c.in-Launch.is
          l.refs refl (says-since c.turns.replay c.hear.new.self c.launch.new.self c.hear.new.self.top.machine c.hear.new.self.talks c.in_ok-call.ensures.others (λ old. stands g.K.Made.Machine.talk g.K.Maker.first old) _ _ _ c.in_ok-launch-in-Launch.ensures.says) l.place l.table
          l.stack));
      old = ap (λ (x : EarlierRecords). x.records) e ∙ c.turns.invariant.old;
      from = ap (λ (x : EarlierRecords). x.contents) e ∙ c.turns.invariant.from;
      kept = c.turns.invariant.kept;
      stays = c.turns.invariant.stays;
      known = rw (c.in_ok-launch-in-Launch.ensures.known ∙ ap (λ (r : Replay _). r.known) c.in_ok-call.ensures.others, e) c.turns.invariant.known;
      starts = starts-next _ _ _ _ _ _ _ c.turns.invariant.starts c.in_ok-call.ensures.starts n.machines n.ran;
      live = omega (arith, n.turns, c.turns.invariant.live);
      paid = omega (arith, d, c.turns.invariant.paid);
      limit = omega arith;
      few = omega arith;
    }

pub answer-requires-clause-known : goal.answer-requires-clause-known
answer-requires-clause-known g c =
    rw (ap (λ (r : Replay _). r.known) c.in_ok-call.ensures.others, ap (λ (r : Replay _). r.earlier) c.in_ok-call.ensures.others) c.turns.invariant.known

pub turns-preserved-in_default : goal.turns-preserved-in_default
turns-preserved-in_default g c =
    let e = earlier-since c.turns.replay c.hear.new.self c.answer.new.self c.hear.new.self.top.machine c.hear.new.self.talks c.in_ok-call.ensures.others c.in_ok-answer-in_default.ensures.earlier in
    let n = counted-since c.turns.replay c.hear.new.self c.answer.new.self c.hear.new.self.top.machine c.hear.new.self.talks c.in_ok-call.ensures.others _ _ _ _ c.in_ok-answer-in_default.ensures.counted in
    let d = paid-since c.turns.replay c.hear.new.self c.answer.new.self c.hear.new.self.top.machine c.hear.new.self.talks c.in_ok-call.ensures.others c.pay-cost.result c.in_ok-answer-in_default.ensures.paid in
    let l = answers-since c.turns.replay c.hear.new.self c.answer.new.self c.hear.new.self.top.machine c.hear.new.self.talks c.in_ok-call.ensures.others _ _ _ c.in_ok-answer-in_default.ensures.answered in
    record {
      under_way = c.in_ok-answer-in_default.ensures.under_way;
      goes =
          rw (e, l.stack)
          (told-asked _ (g.W.Answerer.told c.turns.world) (g.W.Answerer.told c.answer.new.world) _ _ _ c.turns.invariant.goes c.in_ok-answer-in_default.ensures.given
          (λ before now after i given. Freshing-ask _ _ _ _ _ _ _ _ _ _ _ i _ _ (λ q. rw c.left.ensures.left at (c.in_ok-call.ensures.spoke q)) c.in_ok-call.ensures.goes
          _ _ _ _ _ _ _ _ _ c.in-Call.is c.pay-cost.ensures.cost (omega arith)
          c.in_default.not-Launch
          (given ∙ ap (λ refs. g.W.Answerer.given now refs c.in-Call.call) (ap (λ (r : Replay _). r.top.refs) c.in_ok-call.ensures.others)) l.table l.place refl (state-since c.turns.replay c.hear.new.self c.answer.new.self c.hear.new.self.top.machine c.hear.new.self.talks c.in_ok-call.ensures.others (λ old. stands g.K.Made.Machine.talk g.K.Maker.first old) (λ old. waits g.K.Made.Machine.talk g.K.Maker.first old) _ _ c.in_ok-answer-in_default.ensures.state)));
      old = ap (λ (x : EarlierRecords). x.records) e ∙ c.turns.invariant.old;
      from = ap (λ (x : EarlierRecords). x.contents) e ∙ c.turns.invariant.from;
      kept = g.met.W.Numbering.keeps_on _ _ _ c.turns.invariant.kept c.in_ok-answer-in_default.ensures.keeps;
      stays = g.met.W.Numbering.stays_on _ _ _ c.turns.invariant.stays c.in_ok-answer-in_default.ensures.stays;
      known = c.in_ok-answer-in_default.ensures.known;
      starts = starts-next _ _ _ _ _ _ _ c.turns.invariant.starts c.in_ok-call.ensures.starts n.machines n.ran;
      live = omega (arith, n.turns, c.turns.invariant.live);
      paid = omega (arith, d, c.turns.invariant.paid);
      limit = omega arith;
      few =
          few-counted c.answer.new.self.earlier.records c.answer.new.self.table c.args.live.now c.answer.new.live c.args.budget.now c.pay-cost.new.budget (pend c.answer.new.self.stack.items)
          (omega (arith, n.turns, c.turns.invariant.live)) (omega (arith, d, c.turns.invariant.paid)) (omega arith) c.pay-cost.ensures.within;
    }

pub returns-in_err-answer-in_default : goal.returns-in_err-answer-in_default
returns-in_err-answer-in_default g c =
    let p = err_from_is_err_and c.from_residual-in_err-answer-in_default.result c.from_residual-in_err-answer-in_default.ensures.1 in
    let old = ap (λ (r : Replay _). r.earlier.records) c.in_ok-call.ensures.others ∙ c.turns.invariant.old in
    record {
      done = rw p.1 tt;
      spoken = rw p.1 tt;
      kept = rw p.1 tt;
      still = rw p.1 tt;
      told = rw p.1 tt;
      some = rw p.1 tt;
      stops = rw (p.1, p.2, ← old) (stops-since _ _ _ _ _ (λ reason h. g.met.W.Numbering.fails_on _ _ _ reason c.turns.invariant.stays h) _ c.in_err-answer-in_default.ensures.stops);
      ran = rw p.1 tt;
      starts = rw p.1 tt;
      launched = rw p.1 tt;
      keeps = g.met.W.Numbering.keeps_on _ _ _ c.turns.invariant.kept c.in_err-answer-in_default.ensures.keeps;
      world = rw (p.1, p.2) (stays-by _ _ _ (λ h. g.met.W.Numbering.stays_on _ _ _ c.turns.invariant.stays h) c.in_err-answer-in_default.ensures.stays);
      stopped = rw (p.1, p.2, ← old) (stopped-asked _ _ _ _ _ _ (few-ran c.turns.replay.earlier.records c.turns.replay.table (pend c.turns.replay.stack.items) c.args.budget.now.used c.pay-cost.new.budget.used c.turns.invariant.under_way.records (omega (arith, c.turns.invariant.paid, c.pay-cost.ensures.used))) (c.in_ok-call.ensures.starts ∙ c.turns.invariant.starts) _ _ _ c.in_err-answer-in_default.ensures.stops c.in_err-answer-in_default.ensures.started);
      live = rw p.1 tt;
      paid = rw p.1 tt;
      limit = omega arith;
      within = rw p.1 tt;
      stays = λ h. c.pay-cost.ensures.within;
      at_least = omega (arith, c.in_err-answer-in_default.ensures.still, c.turns.invariant.live);
      at_most = omega (arith, c.in_err-answer-in_default.ensures.still, c.turns.invariant.few);
    }

pub returns-in_err-joined-in-Exit-clause-stops : goal.returns-in_err-joined-in-Exit-clause-stops
returns-in_err-joined-in-Exit-clause-stops g c =
    let p = err_from_is_err_and c.from_residual-in_err-joined-in-Exit.result c.from_residual-in_err-joined-in-Exit.ensures.1 in
    rw (p.1, ← (ap (λ (r : Replay _). r.earlier.records) c.in_ok-call.ensures.others ∙ c.turns.invariant.old)) (stops-forged _ _ _ _ _ (λ want reason gives. g.met.W.Numbering.fails_want _ _ want reason c.turns.invariant.stays gives) _ _ c.in_err-joined-in-Exit.ensures.forged p.2)

pub returns-in_err-joined-in-Exit-clause-stopped : goal.returns-in_err-joined-in-Exit-clause-stopped
returns-in_err-joined-in-Exit-clause-stopped g c =
    let p = err_from_is_err_and c.from_residual-in_err-joined-in-Exit.result c.from_residual-in_err-joined-in-Exit.ensures.1 in
    rw (p.1, ← (ap (λ (r : Replay _). r.earlier.records) c.in_ok-call.ensures.others ∙ c.turns.invariant.old)) (stopped-handed _ _ _ _ _ _ (few-ran c.turns.replay.earlier.records c.turns.replay.table (pend c.turns.replay.stack.items) c.args.budget.now.used c.pay-cost-in-Exit.new.budget.used c.turns.invariant.under_way.records (omega (arith, c.turns.invariant.paid, c.pay-cost-in-Exit.ensures.used))) (c.in_ok-call.ensures.starts ∙ c.turns.invariant.starts) _ _ _ p.2 c.in_err-joined-in-Exit.ensures.started)

pub returns-in_err-joined-in-Exit-clause-world : goal.returns-in_err-joined-in-Exit-clause-world
returns-in_err-joined-in-Exit-clause-world g c =
    let p = err_from_is_err_and c.from_residual-in_err-joined-in-Exit.result c.from_residual-in_err-joined-in-Exit.ensures.1 in
    rw p.1 (stays-any _ _ c.turns.invariant.stays)

pub turns-preserved : goal.turns-preserved
turns-preserved g c =
    let e = earlier-since c.turns.replay c.hear.new.self c.exit.new.self c.hear.new.self.top.machine c.hear.new.self.talks c.in_ok-call.ensures.others c.in_ok-joined-in-Exit.ensures.earlier in
    let n = counted-since c.turns.replay c.hear.new.self c.exit.new.self c.hear.new.self.top.machine c.hear.new.self.talks c.in_ok-call.ensures.others _ _ _ _ c.in_ok-joined-in-Exit.ensures.counted in
    let d = paid-since c.turns.replay c.hear.new.self c.exit.new.self c.hear.new.self.top.machine c.hear.new.self.talks c.in_ok-call.ensures.others c.pay-cost-in-Exit.result c.in_ok-joined-in-Exit.ensures.paid in
    let l = joins-since c.turns.replay c.hear.new.self c.exit.new.self c.hear.new.self.top.machine c.hear.new.self.talks c.in_ok-call.ensures.others (λ old. stands g.K.Made.Machine.talk g.K.Maker.first old) (λ old. waits g.K.Made.Machine.talk g.K.Maker.first old) _ _ (of-some _ _ _ c.in-Some.is c.in_ok-joined-in-Exit.ensures.joins) in
    record {
      under_way = of-some _ _ _ c.in-Some.is c.in_ok-joined-in-Exit.ensures.under_way;
      goes =
          rw (e, of-some _ _ _ c.in-Some.is c.in_ok-joined-in-Exit.ensures.answer)
          (told-still _ _ _ _ c.turns.invariant.goes
          (λ before now i. Freshing-join _ _ _ _ _ _ _ _ _ _ _ i _ _ (λ q. rw c.left.ensures.left at (c.in_ok-call.ensures.spoke q)) c.in_ok-call.ensures.goes
          _ _ _ _ _ _ _ _ _ c.in-Exit.is c.pay-cost-in-Exit.ensures.cost (omega arith) refl l.stack
          l.table l.place l.refs l.state));
      old = ap (λ (x : EarlierRecords). x.records) e ∙ c.turns.invariant.old;
      from = ap (λ (x : EarlierRecords). x.contents) e ∙ c.turns.invariant.from;
      kept = c.turns.invariant.kept;
      stays = c.turns.invariant.stays;
      known = rw (c.in_ok-joined-in-Exit.ensures.known ∙ ap (λ (r : Replay _). r.known) c.in_ok-call.ensures.others, e) c.turns.invariant.known;
      starts = starts-next _ _ _ _ _ _ _ c.turns.invariant.starts c.in_ok-call.ensures.starts n.machines n.ran;
      live = omega (arith, n.turns, c.turns.invariant.live);
      paid = omega (arith, d, c.turns.invariant.paid);
      limit = omega arith;
      few =
          few-counted c.exit.new.self.earlier.records c.exit.new.self.table c.args.live.now c.exit.new.live c.args.budget.now c.pay-cost-in-Exit.new.budget (pend c.exit.new.self.stack.items)
          (omega (arith, n.turns, c.turns.invariant.live)) (omega (arith, d, c.turns.invariant.paid)) (omega arith) c.pay-cost-in-Exit.ensures.within;
    }

pub finish-requires : goal.finish-requires
finish-requires g c =
    (of-none _ _ c.in-None.is c.in_ok-joined-in-Exit.ensures.ends).causes

pub returns-in-None-clause-done : goal.returns-in-None-clause-done
returns-in-None-clause-done g c =
    let l = ends-since c.turns.replay c.hear.new.self c.exit.new.self c.hear.new.self.top.machine c.hear.new.self.talks c.in_ok-call.ensures.others _ _ (of-none _ _ c.in-None.is c.in_ok-joined-in-Exit.ensures.ends) in
    rw (← c.turns.invariant.old)
    (told-last _ _ _ _ c.turns.invariant.goes
    (λ before now i q.
    Freshing-end _ _ _ _ _ _ _ _ _ _ _ i _ _ (λ q. rw c.left.ensures.left at (c.in_ok-call.ensures.spoke q)) c.in_ok-call.ensures.goes
    _ _ _ _ _ c.in-Exit.is c.pay-cost-in-Exit.ensures.cost (omega arith) (c.in_ok-table-in-None.ensures.table ∙ l.table) (ap length l.none) q))

pub returns-in-None-clause-spoken : goal.returns-in-None-clause-spoken
returns-in-None-clause-spoken g c =
    let l = ends-since c.turns.replay c.hear.new.self c.exit.new.self c.hear.new.self.top.machine c.hear.new.self.talks c.in_ok-call.ensures.others _ _ (of-none _ _ c.in-None.is c.in_ok-joined-in-Exit.ensures.ends) in
    rw (← c.turns.invariant.old)
    (told-first (g.W.Answerer.told c.args.world.now) (g.W.Answerer.told c.turns.world) _ _ c.turns.invariant.goes
    (λ before now i q.
    fresh-spoken (environment g.K.Maker.first g.W.Answerer.given) (all-last g.K.Maker.first g.met.K.Maker.command) g.met.W.Answerer.fitting _ _ _ _ _ _ _ _
    (Freshing-end _ _ _ _ _ _ _ _ _ _ _ i _ _ (λ q. rw c.left.ensures.left at (c.in_ok-call.ensures.spoke q)) c.in_ok-call.ensures.goes
    _ _ _ (left c.turns.budget - c.pay-cost-in-Exit.result) _ c.in-Exit.is c.pay-cost-in-Exit.ensures.cost refl (c.in_ok-table-in-None.ensures.table ∙ l.table) (ap length l.none) q)))

pub returns-in-None-clause-kept : goal.returns-in-None-clause-kept
returns-in-None-clause-kept g c =
    let old = ap (λ (x : EarlierRecords). x.records) (earlier-since c.turns.replay c.hear.new.self c.exit.new.self c.hear.new.self.top.machine c.hear.new.self.talks c.in_ok-call.ensures.others c.in_ok-joined-in-Exit.ensures.earlier) ∙ c.turns.invariant.old in
    rw (c.in_ok-table-in-None.ensures.table, ← old) (of-none _ _ c.in-None.is c.in_ok-joined-in-Exit.ensures.ends).kept

pub returns-in-None-clause-still : goal.returns-in-None-clause-still
returns-in-None-clause-still g c =
    let old = ap (λ (x : EarlierRecords). x.records) (earlier-since c.turns.replay c.hear.new.self c.exit.new.self c.hear.new.self.top.machine c.hear.new.self.talks c.in_ok-call.ensures.others c.in_ok-joined-in-Exit.ensures.earlier) ∙ c.turns.invariant.old in
    rw (c.in_ok-table-in-None.ensures.table, c.in_ok-table-in-None.ensures.still, ← old) (of-none _ _ c.in-None.is c.in_ok-joined-in-Exit.ensures.ends).still

pub returns-in-None-clause-told : goal.returns-in-None-clause-told
returns-in-None-clause-told g c =
    let e = earlier-since c.turns.replay c.hear.new.self c.exit.new.self c.hear.new.self.top.machine c.hear.new.self.talks c.in_ok-call.ensures.others c.in_ok-joined-in-Exit.ensures.earlier in
    let old = ap (λ (x : EarlierRecords). x.records) e ∙ c.turns.invariant.old in
    let from = ap (λ (x : EarlierRecords). x.contents) e ∙ c.turns.invariant.from in
    rw (c.in_ok-table-in-None.ensures.table, c.in_ok-table-in-None.ensures.still, ← old, ← from) (of-none _ _ c.in-None.is c.in_ok-joined-in-Exit.ensures.ends).told

pub returns-in-None-clause-some : goal.returns-in-None-clause-some
returns-in-None-clause-some g c = rw c.in_ok-table-in-None.ensures.table (of-none _ _ c.in-None.is c.in_ok-joined-in-Exit.ensures.ends).some

pub returns-in-None-clause-ran : goal.returns-in-None-clause-ran
returns-in-None-clause-ran g c =
    let old = ap (λ (x : EarlierRecords). x.records) (earlier-since c.turns.replay c.hear.new.self c.exit.new.self c.hear.new.self.top.machine c.hear.new.self.talks c.in_ok-call.ensures.others c.in_ok-joined-in-Exit.ensures.earlier) ∙ c.turns.invariant.old in
    rw (c.in_ok-table-in-None.ensures.table, ← old) c.in_ok-table-in-None.ensures.ran

pub returns-in-None-clause-starts : goal.returns-in-None-clause-starts
returns-in-None-clause-starts g c =
    let e = earlier-since c.turns.replay c.hear.new.self c.exit.new.self c.hear.new.self.top.machine c.hear.new.self.talks c.in_ok-call.ensures.others c.in_ok-joined-in-Exit.ensures.earlier in
    let n = counted-since c.turns.replay c.hear.new.self c.exit.new.self c.hear.new.self.top.machine c.hear.new.self.talks c.in_ok-call.ensures.others _ _ _ _ c.in_ok-joined-in-Exit.ensures.counted in
    let d = paid-since c.turns.replay c.hear.new.self c.exit.new.self c.hear.new.self.top.machine c.hear.new.self.talks c.in_ok-call.ensures.others c.pay-cost-in-Exit.result c.in_ok-joined-in-Exit.ensures.paid in
    starts-next _ _ _ _ _ _ _ c.turns.invariant.starts c.in_ok-call.ensures.starts n.machines (ap length c.in_ok-table-in-None.ensures.ran ∙ ran_count-length _ _ ∙ n.ran)

pub returns-in-None-clause-launched : goal.returns-in-None-clause-launched
returns-in-None-clause-launched g c =
    let l = ends-since c.turns.replay c.hear.new.self c.exit.new.self c.hear.new.self.top.machine c.hear.new.self.talks c.in_ok-call.ensures.others _ _ (of-none _ _ c.in-None.is c.in_ok-joined-in-Exit.ensures.ends) in
    let e = earlier-since c.turns.replay c.hear.new.self c.exit.new.self c.hear.new.self.top.machine c.hear.new.self.talks c.in_ok-call.ensures.others c.in_ok-joined-in-Exit.ensures.earlier in
    let n = counted-since c.turns.replay c.hear.new.self c.exit.new.self c.hear.new.self.top.machine c.hear.new.self.talks c.in_ok-call.ensures.others _ _ _ _ c.in_ok-joined-in-Exit.ensures.counted in
    let d = paid-since c.turns.replay c.hear.new.self c.exit.new.self c.hear.new.self.top.machine c.hear.new.self.talks c.in_ok-call.ensures.others c.pay-cost-in-Exit.result c.in_ok-joined-in-Exit.ensures.paid in
    let none = pend-none _ l.none in
    let left = pend-none _ l.left in
    let same = ap length l.table ∙ length-ended _ _ _ _ in
    rw c.in_ok-table-in-None.ensures.table (omega (arith, d, none, left, same, c.turns.invariant.under_way.records))

pub returns-in-None-clause-live : goal.returns-in-None-clause-live
returns-in-None-clause-live g c =
    let old = ap (λ (x : EarlierRecords). x.records) (earlier-since c.turns.replay c.hear.new.self c.exit.new.self c.hear.new.self.top.machine c.hear.new.self.talks c.in_ok-call.ensures.others c.in_ok-joined-in-Exit.ensures.earlier) ∙ c.turns.invariant.old in
    let e = earlier-since c.turns.replay c.hear.new.self c.exit.new.self c.hear.new.self.top.machine c.hear.new.self.talks c.in_ok-call.ensures.others c.in_ok-joined-in-Exit.ensures.earlier in
    let n = counted-since c.turns.replay c.hear.new.self c.exit.new.self c.hear.new.self.top.machine c.hear.new.self.talks c.in_ok-call.ensures.others _ _ _ _ c.in_ok-joined-in-Exit.ensures.counted in
    let d = paid-since c.turns.replay c.hear.new.self c.exit.new.self c.hear.new.self.top.machine c.hear.new.self.talks c.in_ok-call.ensures.others c.pay-cost-in-Exit.result c.in_ok-joined-in-Exit.ensures.paid in
    rw (c.in_ok-table-in-None.ensures.table, ← old) (omega (arith, n.turns, c.turns.invariant.live))

pub returns-in-None-clause-paid : goal.returns-in-None-clause-paid
returns-in-None-clause-paid g c =
    let l = ends-since c.turns.replay c.hear.new.self c.exit.new.self c.hear.new.self.top.machine c.hear.new.self.talks c.in_ok-call.ensures.others _ _ (of-none _ _ c.in-None.is c.in_ok-joined-in-Exit.ensures.ends) in
    let e = earlier-since c.turns.replay c.hear.new.self c.exit.new.self c.hear.new.self.top.machine c.hear.new.self.talks c.in_ok-call.ensures.others c.in_ok-joined-in-Exit.ensures.earlier in
    let n = counted-since c.turns.replay c.hear.new.self c.exit.new.self c.hear.new.self.top.machine c.hear.new.self.talks c.in_ok-call.ensures.others _ _ _ _ c.in_ok-joined-in-Exit.ensures.counted in
    let d = paid-since c.turns.replay c.hear.new.self c.exit.new.self c.hear.new.self.top.machine c.hear.new.self.talks c.in_ok-call.ensures.others c.pay-cost-in-Exit.result c.in_ok-joined-in-Exit.ensures.paid in
    let left = pend-none _ l.left in
    rw c.in_ok-table-in-None.ensures.table (omega (arith, d, left, c.turns.invariant.paid, c.pay-cost-in-Exit.ensures.used))

pub returns-in-None-clause-at_most : goal.returns-in-None-clause-at_most
returns-in-None-clause-at_most g c =
    let e = earlier-since c.turns.replay c.hear.new.self c.exit.new.self c.hear.new.self.top.machine c.hear.new.self.talks c.in_ok-call.ensures.others c.in_ok-joined-in-Exit.ensures.earlier in
    let n = counted-since c.turns.replay c.hear.new.self c.exit.new.self c.hear.new.self.top.machine c.hear.new.self.talks c.in_ok-call.ensures.others _ _ _ _ c.in_ok-joined-in-Exit.ensures.counted in
    let d = paid-since c.turns.replay c.hear.new.self c.exit.new.self c.hear.new.self.top.machine c.hear.new.self.talks c.in_ok-call.ensures.others c.pay-cost-in-Exit.result c.in_ok-joined-in-Exit.ensures.paid in
    few-counted c.exit.new.self.earlier.records c.exit.new.self.table c.args.live.now c.exit.new.live c.args.budget.now c.pay-cost-in-Exit.new.budget (pend c.exit.new.self.stack.items) (omega (arith, n.turns, c.turns.invariant.live)) (omega (arith, d, c.turns.invariant.paid)) (omega arith) c.pay-cost-in-Exit.ensures.within

pub returns-in_err-table-in-None-clause-stops : goal.returns-in_err-table-in-None-clause-stops
returns-in_err-table-in-None-clause-stops g c =
    let p = err_from_is_err_and c.from_residual-in_err-table-in-None.result c.from_residual-in_err-table-in-None.ensures.1 in
    rw p.1 (stops-want _ _ _ _ _ (λ want reason gives. g.met.W.Numbering.fails_want _ _ want reason c.turns.invariant.stays gives) _ p.2)

pub returns-in_err-table-in-None-clause-stopped : goal.returns-in_err-table-in-None-clause-stopped
returns-in_err-table-in-None-clause-stopped g c =
    let p = err_from_is_err_and c.from_residual-in_err-table-in-None.result c.from_residual-in_err-table-in-None.ensures.1 in
    let l = ends-since c.turns.replay c.hear.new.self c.exit.new.self c.hear.new.self.top.machine c.hear.new.self.talks c.in_ok-call.ensures.others _ _ (of-none _ _ c.in-None.is c.in_ok-joined-in-Exit.ensures.ends) in
    let e = earlier-since c.turns.replay c.hear.new.self c.exit.new.self c.hear.new.self.top.machine c.hear.new.self.talks c.in_ok-call.ensures.others c.in_ok-joined-in-Exit.ensures.earlier in
    let n = counted-since c.turns.replay c.hear.new.self c.exit.new.self c.hear.new.self.top.machine c.hear.new.self.talks c.in_ok-call.ensures.others _ _ _ _ c.in_ok-joined-in-Exit.ensures.counted in
    let d = paid-since c.turns.replay c.hear.new.self c.exit.new.self c.hear.new.self.top.machine c.hear.new.self.talks c.in_ok-call.ensures.others c.pay-cost-in-Exit.result c.in_ok-joined-in-Exit.ensures.paid in
    let none = pend-none _ l.none in
    let left = pend-none _ l.left in
    let same = ap length l.table ∙ length-ended _ _ _ _ in
    rw p.1
    (stopped-want _ _ _ _ _ _ (few-ran c.exit.new.self.earlier.records c.exit.new.self.table 0 c.args.budget.now.used c.pay-cost-in-Exit.new.budget.used (omega (arith, d, none, left, same, c.turns.invariant.under_way.records)) (omega (arith, d, left, c.turns.invariant.paid, c.pay-cost-in-Exit.ensures.used)))
    (starts-next _ _ _ _ _ _ _ c.turns.invariant.starts c.in_ok-call.ensures.starts n.machines n.ran) _ _ p.2 refl)

pub returns-in_err-table-in-None-clause-world : goal.returns-in_err-table-in-None-clause-world
returns-in_err-table-in-None-clause-world g c =
    let p = err_from_is_err_and c.from_residual-in_err-table-in-None.result c.from_residual-in_err-table-in-None.ensures.1 in
    rw p.1 (stays-any _ _ c.turns.invariant.stays)

pub returns-in_err-table-in-None-clause-at_most : goal.returns-in_err-table-in-None-clause-at_most
returns-in_err-table-in-None-clause-at_most g c =
    let e = earlier-since c.turns.replay c.hear.new.self c.exit.new.self c.hear.new.self.top.machine c.hear.new.self.talks c.in_ok-call.ensures.others c.in_ok-joined-in-Exit.ensures.earlier in
    let n = counted-since c.turns.replay c.hear.new.self c.exit.new.self c.hear.new.self.top.machine c.hear.new.self.talks c.in_ok-call.ensures.others _ _ _ _ c.in_ok-joined-in-Exit.ensures.counted in
    let d = paid-since c.turns.replay c.hear.new.self c.exit.new.self c.hear.new.self.top.machine c.hear.new.self.talks c.in_ok-call.ensures.others c.pay-cost-in-Exit.result c.in_ok-joined-in-Exit.ensures.paid in
    few-counted c.exit.new.self.earlier.records c.exit.new.self.table c.args.live.now c.exit.new.live c.args.budget.now c.pay-cost-in-Exit.new.budget (pend c.exit.new.self.stack.items) (omega (arith, n.turns, c.turns.invariant.live)) (omega (arith, d, c.turns.invariant.paid)) (omega arith) c.pay-cost-in-Exit.ensures.within

pub returns-in_err-check_with-in-Short-clause-stops : goal.returns-in_err-check_with-in-Short-clause-stops
returns-in_err-check_with-in-Short-clause-stops g c =
    let p = err_from_is_err_and c.from_residual-in_err-check_with-in-Short.result c.from_residual-in_err-check_with-in-Short.ensures.1 in
    rw p.1 (stops-forged _ _ _ _ _ (λ want reason gives. g.met.W.Numbering.fails_want _ _ want reason c.turns.invariant.stays gives) _ _ (told-forged _ _ _ c.in_err-check_with-in-Short.ensures.first) p.2)

pub returns-in_err-check_with-in-Short-clause-stopped : goal.returns-in_err-check_with-in-Short-clause-stopped
returns-in_err-check_with-in-Short-clause-stopped g c =
    let p = err_from_is_err_and c.from_residual-in_err-check_with-in-Short.result c.from_residual-in_err-check_with-in-Short.ensures.1 in
    rw p.1 (stopped-checked _ _ _ _ _ _ (few-ran c.turns.replay.earlier.records c.turns.replay.table (pend c.turns.replay.stack.items) c.args.budget.now.used c.turns.budget.used c.turns.invariant.under_way.records (omega (arith, c.turns.invariant.paid))) (c.in_ok-call.ensures.starts ∙ c.turns.invariant.starts) _ _ _ p.2 c.in_err-check_with-in-Short.ensures.starts)

pub returns-in_err-check_with-in-Short-clause-world : goal.returns-in_err-check_with-in-Short-clause-world
returns-in_err-check_with-in-Short-clause-world g c =
    let p = err_from_is_err_and c.from_residual-in_err-check_with-in-Short.result c.from_residual-in_err-check_with-in-Short.ensures.1 in
    rw p.1 (stays-any _ _ c.turns.invariant.stays)

pub returns-in-Short-clause-stops : goal.returns-in-Short-clause-stops
returns-in-Short-clause-stops g c =
    let spoken = c.in_ok-check_with-in-Short.ensures.spoken in (
      spoken,
      told-first (g.W.Answerer.told c.args.world.now) (g.W.Answerer.told c.turns.world) _ _ c.turns.invariant.goes
          (λ before now i.
          Freshing-short _ _ _ _ _ _ _ _ _ _ _ i _ _ (λ q. rw c.left.ensures.left at (c.in_ok-call.ensures.spoke q)) c.in_ok-call.ensures.goes c.in-Short.is (rw c.turns.invariant.old spoken)),
    )

pub returns-in-Short-clause-stopped : goal.returns-in-Short-clause-stopped
returns-in-Short-clause-stopped g c =
    ran-all _ _ _ _ _ _ (few-ran c.turns.replay.earlier.records c.turns.replay.table (pend c.turns.replay.stack.items) c.args.budget.now.used c.turns.budget.used c.turns.invariant.under_way.records (omega (arith, c.turns.invariant.paid))) (c.in_ok-call.ensures.starts ∙ c.turns.invariant.starts) c.in_ok-check_with-in-Short.ensures.starts
