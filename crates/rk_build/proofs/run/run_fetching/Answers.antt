use Rattle.std.proofs.Common.{◌∙◌, arith}
use Rattle.std.proofs.lemmas.Result.{err_from_is_err_and}
use Rattle.rk_calls.specs.Views.{talk-proper}
use Rattle.rk_build.proofs.ReadBackLemmas.{sound, small}
use Rattle.rk_build.proofs.RunLemmas.{counted-at, counted-forged, few-ran, none-started, paid-within, run-in-full, spent-in-full, starts-forged, starts-spent}
use Rattle.rk_build.proofs.run.run_fetching.Goals as goal

pub build_with-requires : goal.build_with-requires
build_with-requires g c = c.requires.contents

pub returns-in-Ok-clause-runs : goal.returns-in-Ok-clause-runs
returns-in-Ok-clause-runs g c =
    let e = c.in-Ok.ensures in (
      record { some = e.some; still = e.still; ran = e.ran; ticked = e.live },
      run-in-full g.M.Maker.first c.args.request.now _ _ _ _ _ _ _ _ _ _ e.keeps.2.told c.budget-budget.ensures.limit c.budget-budget.ensures.used c.in_ok-key.ensures c.requires.fresh e.done e.spoken
          (λ spoken. sound g.M.Maker.first _ (λ key. talk-proper (g.M.Maker.first key) (g.met.M.Maker.command key)) spoken (small _ _ _ _ _ e.paid c.budget-budget.ensures.used e.within (e.limit ∙ c.budget-budget.ensures.limit) c.budget-budget.ensures.few)),
    )

pub returns-in-Err-Spent-clause-runs : goal.returns-in-Err-Spent-clause-runs
returns-in-Err-Spent-clause-runs g c =
    spent-in-full g.M.Maker.first c.args.request.now _ _ _ _ _ _ _ _ c.budget-budget.ensures.limit c.budget-budget.ensures.used c.in_ok-key.ensures c.requires.fresh c.in-Err-Spent.field-0-is c.in-Err-Spent.ensures.stops

pub returns-in-Ok-clause-starts : goal.returns-in-Ok-clause-starts
returns-in-Ok-clause-starts g c =
    let e = c.in-Ok.ensures in
    (e.starts, few-ran c.args.request.now _ _ _ _ _ c.budget-budget.ensures.limit c.budget-budget.ensures.used e.paid e.limit e.within e.launched e.ran)

pub returns-in-Err-Spent-clause-starts : goal.returns-in-Err-Spent-clause-starts
returns-in-Err-Spent-clause-starts g c =
    let e = c.in-Err-Spent.ensures in
    starts-spent _ _ _ _ _ _ (paid-within c.args.request.now _ _ c.budget-budget.ensures.limit e.limit (e.stays (omega (arith, c.budget-budget.ensures.used)))) c.in-Err-Spent.field-0-is e.stopped

pub returns-in-Err-Forged-clause-starts : goal.returns-in-Err-Forged-clause-starts
returns-in-Err-Forged-clause-starts g c =
    let e = c.in-Err-Forged.ensures in
    starts-forged _ _ _ _ _ _ _ _ (paid-within c.args.request.now _ _ c.budget-budget.ensures.limit e.limit (e.stays (omega (arith, c.budget-budget.ensures.used)))) c.in-Err-Forged.field-0-is e.stopped

pub returns-in_err-key-clause-starts : goal.returns-in_err-key-clause-starts
returns-in_err-key-clause-starts g c =
    let p = err_from_is_err_and c.from_residual.result c.from_residual.ensures.1 in
    rw (p.1, p.2) (none-started _ _ _)

-- What the fetch comes to.

pub returns-in-Ok-clause-stays : goal.returns-in-Ok-clause-stays
returns-in-Ok-clause-stays g c = c.in-Ok.ensures.world.rest.0

pub returns-in-Ok-clause-from : goal.returns-in-Ok-clause-from
returns-in-Ok-clause-from g c = c.in-Ok.ensures.world.rest.1 c.requires.from

pub returns-in-Ok-clause-reads : goal.returns-in-Ok-clause-reads
returns-in-Ok-clause-reads g c = c.in-Ok.ensures.world.faults

pub returns-in-Err-Spent-clause-reads : goal.returns-in-Err-Spent-clause-reads
returns-in-Err-Spent-clause-reads g c = (counted-at _ _ c.in-Err-Spent.field-0-is c.in-Err-Spent.ensures.world).faults

pub returns-in-Err-Forged-clause-reads : goal.returns-in-Err-Forged-clause-reads
returns-in-Err-Forged-clause-reads g c = (counted-forged _ _ _ _ c.in-Err-Forged.field-0-is c.in-Err-Forged.ensures.world).faults
