use Rattle.std.proofs.lemmas.Result.{err_from_is_err_and}
use Rattle.rk_database.proofs.TextLemmas.{trace-check, trace-unstarted}
use Rattle.rk_database.proofs.checking.text_of.Goals as goal

pub returns-in_err-kept-clause-refused : goal.returns-in_err-kept-clause-refused
returns-in_err-kept-clause-refused g c =
    let p = err_from_is_err_and c.from_residual.result c.from_residual.ensures.1 in
    rw (p.1, p.2) (trace-check g.M.Maker.first _ _ c.in_err-kept.ensures.refused)

pub returns-in_err-kept-clause-starts : goal.returns-in_err-kept-clause-starts
returns-in_err-kept-clause-starts g c =
    let p = err_from_is_err_and c.from_residual.result c.from_residual.ensures.1 in
    rw (p.1, p.2) (trace-unstarted _ _ _ c.in_err-kept.ensures.refused)
