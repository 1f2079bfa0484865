use Rattle.std.proofs.lemmas.Result.{err_from_is_err_and}
use Rattle.rk_traces.proofs.active.ask.Goals as goal

pub returns-in_err-seen-clause-fails : goal.returns-in_err-seen-clause-fails
returns-in_err-seen-clause-fails g c =
    let p = err_from_is_err_and c.from_residual-in_err-seen.result c.from_residual-in_err-seen.ensures.1 in
    rw p.1 (g.met.W.Numbering.fails_want _ _ _ _ c.in_ok-answer.ensures.stays p.2)
