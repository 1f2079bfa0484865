use Rattle.std.proofs.lemmas.Result.{err_from_is_err_and}
use Rattle.rk_build.proofs.FoundLemmas.{look-stops-so, kept-stops-so, kept-spells, is_found}
use Rattle.rk_build.proofs.found.find.Goals as goal

pub returns-in_err-holding-clause-finds : goal.returns-in_err-holding-clause-finds
returns-in_err-holding-clause-finds g c =
    let p = err_from_is_err_and c.from_residual.result c.from_residual.ensures.1 in
    rw (p.1, p.2) (look-stops-so c.args.request.now _ _ c.is_fresh.result c.is_fresh.ensures c.in_err-holding.ensures.look)

pub returns-in_err-attrs-clause-finds : goal.returns-in_err-attrs-clause-finds
returns-in_err-attrs-clause-finds g c =
    let p = err_from_is_err_and c.from_residual-in_err-attrs.result c.from_residual-in_err-attrs.ensures.1 in
    rw (p.1, p.2) (kept-stops-so c.args.request.now _ c.in_ok-holding.holding _ c.is_fresh.result c.is_fresh.ensures c.in_ok-holding.ensures.look c.in_err-attrs.ensures.reads)

pub returns-clause-finds : goal.returns-clause-finds
returns-clause-finds g c =
    is_found c.args.request.now _ (record { holding = c.in_ok-holding.holding; attrs = c.in_ok-attrs.field-0.attrs; old = c.in_ok-attrs.field-0.old; contents = c.in_ok-attrs.field-0.contents }) c.is_fresh.result c.is_fresh.ensures c.in_ok-holding.ensures.look c.in_ok-attrs.ensures.reads

pub returns-clause-spells : goal.returns-clause-spells
returns-clause-spells g c = kept-spells c.in_ok-holding.holding.state c.in_ok-attrs.field-0 c.in_ok-attrs.ensures.reads
