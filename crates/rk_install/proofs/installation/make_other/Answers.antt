use Rattle.std.proofs.lemmas.Result.{err_from_is_err_and}
use Rattle.rk_install.proofs.AskedLemmas.{other-asked, other-failed, other-unasked}
use Rattle.rk_install.proofs.InstallLemmas.{made-other, may-other, passed-other}
use Rattle.rk_install.proofs.installation.make_other.Goals as goal

pub returns-then-makes_hidden-clause-held : goal.returns-then-makes_hidden-clause-held
returns-then-makes_hidden-clause-held g c = passed-other _ c.args.op.now c.makes_hidden.result c.makes_hidden.ensures c.if-makes_hidden.true

pub call-requires : goal.call-requires
call-requires g c = may-other _ c.args.op.now c.makes_hidden.result c.requires c.makes_hidden.ensures c.if-makes_hidden.false

pub returns-clause-held : goal.returns-clause-held
returns-clause-held g c = made-other _ _ c.args.op.now c.makes_hidden.result c.makes_hidden.ensures c.if-makes_hidden.false c.in_ok-call.ensures.held

pub returns-then-makes_hidden-clause-calls : goal.returns-then-makes_hidden-clause-calls
returns-then-makes_hidden-clause-calls g c = other-unasked c.args.op.now c.makes_hidden.result _ c.makes_hidden.ensures c.if-makes_hidden.true

pub returns-in_err-call-clause-calls : goal.returns-in_err-call-clause-calls
returns-in_err-call-clause-calls g c =
    let p = err_from_is_err_and c.from_residual.result c.from_residual.ensures.1 in
    rw (p.1, p.2) (other-failed _ c.args.op.now c.makes_hidden.result _ _ c.makes_hidden.ensures c.if-makes_hidden.false c.in_err-call.ensures.calls)

pub returns-clause-calls : goal.returns-clause-calls
returns-clause-calls g c = other-asked c.args.op.now c.makes_hidden.result _ _ c.makes_hidden.ensures c.if-makes_hidden.false c.in_ok-call.ensures.calls

pub returns-in_err-call-clause-clean : goal.returns-in_err-call-clause-clean
returns-in_err-call-clause-clean g c =
    let p = err_from_is_err_and c.from_residual.result c.from_residual.ensures.1 in
    rw (p.1, p.2) c.in_err-call.ensures.clean
