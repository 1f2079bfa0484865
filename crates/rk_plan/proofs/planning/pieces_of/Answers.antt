use Rattle.std.proofs.Common.{rules, ap, sym, subst}
use Rattle.rk_plan.specs.Going.{Going}
use Rattle.rk_plan.proofs.PlanLemmas.{IsSoFarWhereTold, so-far-start, so-far-next, so-far-end}
use Rattle.rk_plan.proofs.planning.pieces_of.Goals as goal

pub events-init : goal.events-init
events-init g c = record {
  so_far =
      subst (λ course. IsSoFarWhereTold (g.G.Fetch.told c.args.fetch.now) c.args.world c.args.table.now course c.new-pieces.result)
      (sym (ap (λ (r : Going). r.course) c.in_ok-retrace.ensures))
      (so-far-start (g.G.Fetch.told c.args.fetch.now) c.args.world c.args.table.now c.new-pieces.result c.new-pieces.ensures.none);
  table = search rules;
  from = search rules;
  told = search rules;
  keeps = g.met.G.Fetch.keeps_itself _;
  stays = g.met.G.Fetch.stays_itself _;
  steady = search rules;
  faults = search rules;
}

pub events-preserved : goal.events-preserved
events-preserved g c = record {
  so_far =
      so-far-next (g.G.Fetch.told c.args.fetch.now) (g.G.Fetch.told c.events.fetch) c.args.world c.args.table.now c.events.retrace c.turn.new.self c.events.pieces
      c.take.new.pieces c.in-Some.event c.events.invariant.told c.events.invariant.table c.events.invariant.so_far (search rules) (search rules);
  table = search rules;
  from = search rules;
  told = search rules;
  keeps = g.met.G.Fetch.keeps_on _ _ _ c.events.invariant.keeps c.in_ok-event.ensures.keeps;
  stays = g.met.G.Fetch.stays_on _ _ _ c.events.invariant.stays (search rules);
  steady = search rules;
  faults = search rules;
}

pub returns-in_err-take-clause-keeps : goal.returns-in_err-take-clause-keeps
returns-in_err-take-clause-keeps g c = g.met.G.Fetch.keeps_on _ _ _ c.events.invariant.keeps c.in_ok-event.ensures.keeps

pub returns-clause-pieces : goal.returns-clause-pieces
returns-clause-pieces g c =
    so-far-end (g.G.Fetch.told c.args.fetch.now) c.args.world c.args.table.now c.events.retrace.course c.events.pieces (search rules) c.events.invariant.so_far

pub returns-clause-keeps : goal.returns-clause-keeps
returns-clause-keeps g c = g.met.G.Fetch.keeps_on _ _ _ c.events.invariant.keeps c.in_ok-event.ensures.keeps

pub returns-clause-stays : goal.returns-clause-stays
returns-clause-stays g c = g.met.G.Fetch.stays_on _ _ _ c.events.invariant.stays (search rules)
