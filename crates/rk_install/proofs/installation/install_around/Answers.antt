use Rattle.std.proofs.lemmas.Result.{err_from_is_err_and}
use Rattle.rk_install.proofs.AskedLemmas.{all-asked, stop-draft-asked, stop-hidden-asked, stop-last-asked, stop-others-asked, stop-seal-asked}
use Rattle.rk_install.proofs.CleanLemmas.{memory-only, memory-then, moment-drafted, moment-last, moment-none, moment-rooted, moment-sealed}
use Rattle.rk_install.proofs.InstallLemmas.{drafted-as, installed-as, made-as, sealed-as, stop-draft, stop-last, stop-none, stop-others, stop-seal, told-hidden, told-may_call, told-may_draft, told-may_seal, told-may_unseal_it, unseal-left}
use Rattle.rk_install.proofs.installation.install_around.Goals as goal

pub make_hidden-requires-clause-may : goal.make_hidden-requires-clause-may
make_hidden-requires-clause-may g c = told-hidden _ c.args.ops.now c.requires.may

pub call-requires : goal.call-requires
call-requires g c = told-may_draft _ c.args.ops.now c.requires.may _ c.args.around.now.draft c.in_ok-make_hidden.ensures.held c.requires.around.draft

pub seal-requires : goal.seal-requires
seal-requires g c = told-may_seal _ c.args.ops.now c.requires.may _ _ c.args.around.now.draft c.args.around.now.fresh c.args.around.now.seal c.in_ok-make_hidden.ensures.held c.requires.around.draft c.in_ok-call.ensures.held c.requires.around.fresh c.requires.around.seal

pub make_others-requires : goal.make_others-requires
make_others-requires g c = told-may_call _ c.args.ops.now c.requires.may _ (sealed-as _ _ _ c.args.ops.now c.args.around.now.fresh c.args.around.now.seal (drafted-as _ _ _ c.args.ops.now c.args.around.now.draft c.in_ok-make_hidden.ensures.held c.requires.around.draft c.in_ok-call.ensures.held) c.requires.around.fresh c.requires.around.seal c.in_ok-seal.ensures.held)

pub call-requires-2 : goal.call-requires-2
call-requires-2 g c = told-may_unseal_it _ c.args.ops.now c.requires.may _ c.args.around.now.unsealing (made-as _ _ _ c.args.ops.now (sealed-as _ _ _ c.args.ops.now c.args.around.now.fresh c.args.around.now.seal (drafted-as _ _ _ c.args.ops.now c.args.around.now.draft c.in_ok-make_hidden.ensures.held c.requires.around.draft c.in_ok-call.ensures.held) c.requires.around.fresh c.requires.around.seal c.in_ok-seal.ensures.held) c.in_ok-make_others.ensures.held) c.requires.around.unsealing

pub returns-in_err-make_hidden-clause-stops : goal.returns-in_err-make_hidden-clause-stops
returns-in_err-make_hidden-clause-stops g c =
    let p = err_from_is_err_and c.from_residual.result c.from_residual.ensures.1 in
    rw p.1 (stop-none _ _ c.args.ops.now c.in_err-make_hidden.ensures.left)

pub returns-in_err-call-clause-stops : goal.returns-in_err-call-clause-stops
returns-in_err-call-clause-stops g c =
    let p = err_from_is_err_and c.from_residual-in_err-call.result c.from_residual-in_err-call.ensures.1 in
    rw p.1 (stop-draft _ _ _ c.args.ops.now c.args.around.now.draft c.in_ok-make_hidden.ensures.held c.requires.around.draft c.in_err-call.ensures.left)

pub returns-in_err-seal-clause-stops : goal.returns-in_err-seal-clause-stops
returns-in_err-seal-clause-stops g c =
    let p = err_from_is_err_and c.from_residual-in_err-seal.result c.from_residual-in_err-seal.ensures.1 in
    rw p.1 (stop-seal _ _ _ c.args.ops.now (drafted-as _ _ _ c.args.ops.now c.args.around.now.draft c.in_ok-make_hidden.ensures.held c.requires.around.draft c.in_ok-call.ensures.held) c.in_err-seal.ensures.left)

pub returns-in_err-make_others-clause-stops : goal.returns-in_err-make_others-clause-stops
returns-in_err-make_others-clause-stops g c =
    let p = err_from_is_err_and c.from_residual-in_err-make_others.result c.from_residual-in_err-make_others.ensures.1 in
    rw p.1 (stop-others _ _ _ c.args.ops.now (sealed-as _ _ _ c.args.ops.now c.args.around.now.fresh c.args.around.now.seal (drafted-as _ _ _ c.args.ops.now c.args.around.now.draft c.in_ok-make_hidden.ensures.held c.requires.around.draft c.in_ok-call.ensures.held) c.requires.around.fresh c.requires.around.seal c.in_ok-seal.ensures.held) c.in_err-make_others.ensures.left)

pub returns-in_err-done-clause-stops : goal.returns-in_err-done-clause-stops
returns-in_err-done-clause-stops g c =
    let p = err_from_is_err_and c.from_residual-in_err-done.result c.from_residual-in_err-done.ensures.1 in
    rw p.1 (stop-last _ _ _ c.args.ops.now (made-as _ _ _ c.args.ops.now (sealed-as _ _ _ c.args.ops.now c.args.around.now.fresh c.args.around.now.seal (drafted-as _ _ _ c.args.ops.now c.args.around.now.draft c.in_ok-make_hidden.ensures.held c.requires.around.draft c.in_ok-call.ensures.held) c.requires.around.fresh c.requires.around.seal c.in_ok-seal.ensures.held) c.in_ok-make_others.ensures.held) (unseal-left _ _ _ c.requires.around.unsealing c.in_err-done.ensures.left))

pub returns-clause-held : goal.returns-clause-held
returns-clause-held g c = installed-as _ _ _ c.args.ops.now c.args.around.now.unsealing (made-as _ _ _ c.args.ops.now (sealed-as _ _ _ c.args.ops.now c.args.around.now.fresh c.args.around.now.seal (drafted-as _ _ _ c.args.ops.now c.args.around.now.draft c.in_ok-make_hidden.ensures.held c.requires.around.draft c.in_ok-call.ensures.held) c.requires.around.fresh c.requires.around.seal c.in_ok-seal.ensures.held) c.in_ok-make_others.ensures.held) c.requires.around.unsealing c.in_ok-done.ensures.held

pub returns-in_err-make_hidden-clause-calls : goal.returns-in_err-make_hidden-clause-calls
returns-in_err-make_hidden-clause-calls g c =
    let p = err_from_is_err_and c.from_residual.result c.from_residual.ensures.1 in
    rw (p.1, p.2) (stop-hidden-asked _ c.args.ops.now _ _ c.in_err-make_hidden.ensures.calls)

pub returns-in_err-call-clause-calls : goal.returns-in_err-call-clause-calls
returns-in_err-call-clause-calls g c =
    let p = err_from_is_err_and c.from_residual-in_err-call.result c.from_residual-in_err-call.ensures.1 in
    rw (p.1, p.2) (stop-draft-asked c.args.ops.now _ _ c.in_ok-make_hidden.ensures.calls _ c.args.around.now.draft _ c.requires.around.draft c.in_err-call.ensures.calls)

pub returns-in_err-seal-clause-calls : goal.returns-in_err-seal-clause-calls
returns-in_err-seal-clause-calls g c =
    let p = err_from_is_err_and c.from_residual-in_err-seal.result c.from_residual-in_err-seal.ensures.1 in
    rw (p.1, p.2) (stop-seal-asked c.args.ops.now _ _ c.in_ok-make_hidden.ensures.calls c.args.around.now.draft _ c.requires.around.draft c.in_ok-call.ensures.calls _ c.args.around.now.fresh c.args.around.now.seal _ c.requires.around.fresh c.requires.around.seal c.in_err-seal.ensures.calls)

pub returns-in_err-make_others-clause-calls : goal.returns-in_err-make_others-clause-calls
returns-in_err-make_others-clause-calls g c =
    let p = err_from_is_err_and c.from_residual-in_err-make_others.result c.from_residual-in_err-make_others.ensures.1 in
    rw (p.1, p.2) (stop-others-asked c.args.ops.now _ _ c.in_ok-make_hidden.ensures.calls c.args.around.now.draft _ c.requires.around.draft c.in_ok-call.ensures.calls c.args.around.now.fresh c.args.around.now.seal _ c.requires.around.fresh c.requires.around.seal c.in_ok-seal.ensures.calls _ _ c.in_err-make_others.ensures.calls)

pub returns-in_err-done-clause-calls : goal.returns-in_err-done-clause-calls
returns-in_err-done-clause-calls g c =
    let p = err_from_is_err_and c.from_residual-in_err-done.result c.from_residual-in_err-done.ensures.1 in
    rw (p.1, p.2) (stop-last-asked c.args.ops.now _ _ c.in_ok-make_hidden.ensures.calls c.args.around.now.draft _ c.requires.around.draft c.in_ok-call.ensures.calls c.args.around.now.fresh c.args.around.now.seal _ c.requires.around.fresh c.requires.around.seal c.in_ok-seal.ensures.calls _ c.in_ok-make_others.ensures.calls c.args.around.now.unsealing c.requires.around.unsealing _ _ c.in_err-done.ensures.calls)

pub returns-clause-calls : goal.returns-clause-calls
returns-clause-calls g c = all-asked c.args.ops.now _ _ c.in_ok-make_hidden.ensures.calls c.args.around.now.draft _ c.requires.around.draft c.in_ok-call.ensures.calls c.args.around.now.fresh c.args.around.now.seal _ c.requires.around.fresh c.requires.around.seal c.in_ok-seal.ensures.calls _ c.in_ok-make_others.ensures.calls c.args.around.now.unsealing c.requires.around.unsealing _ c.in_ok-done.ensures.calls

pub returns-in_err-make_hidden-clause-clean : goal.returns-in_err-make_hidden-clause-clean
returns-in_err-make_hidden-clause-clean g c =
    let p = err_from_is_err_and c.from_residual.result c.from_residual.ensures.1 in
    rw (p.1, p.2) (memory-only _ (moment-none _ _ c.args.ops.now c.in_err-make_hidden.ensures.left))

pub returns-in_err-call-clause-clean : goal.returns-in_err-call-clause-clean
returns-in_err-call-clause-clean g c =
    let p = err_from_is_err_and c.from_residual-in_err-call.result c.from_residual-in_err-call.ensures.1 in
    rw (p.1, p.2) (memory-then c.in_err-call.field-0.0 (λ same. moment-rooted _ _ _ c.args.ops.now c.in_ok-make_hidden.ensures.held same) c.in_err-call.ensures.clean)

pub returns-in_err-seal-clause-clean : goal.returns-in_err-seal-clause-clean
returns-in_err-seal-clause-clean g c =
    let p = err_from_is_err_and c.from_residual-in_err-seal.result c.from_residual-in_err-seal.ensures.1 in
    rw (p.1, p.2) (memory-only _ (moment-drafted _ _ _ c.args.ops.now (drafted-as _ _ _ c.args.ops.now c.args.around.now.draft c.in_ok-make_hidden.ensures.held c.requires.around.draft c.in_ok-call.ensures.held) c.in_err-seal.ensures.left))

pub returns-in_err-make_others-clause-clean : goal.returns-in_err-make_others-clause-clean
returns-in_err-make_others-clause-clean g c =
    let p = err_from_is_err_and c.from_residual-in_err-make_others.result c.from_residual-in_err-make_others.ensures.1 in
    rw (p.1, p.2) (memory-then c.in_err-make_others.field-0.0 (λ front. moment-sealed _ _ _ c.args.ops.now (sealed-as _ _ _ c.args.ops.now c.args.around.now.fresh c.args.around.now.seal (drafted-as _ _ _ c.args.ops.now c.args.around.now.draft c.in_ok-make_hidden.ensures.held c.requires.around.draft c.in_ok-call.ensures.held) c.requires.around.fresh c.requires.around.seal c.in_ok-seal.ensures.held) front) c.in_err-make_others.ensures.clean)

pub returns-in_err-done-clause-clean : goal.returns-in_err-done-clause-clean
returns-in_err-done-clause-clean g c =
    let p = err_from_is_err_and c.from_residual-in_err-done.result c.from_residual-in_err-done.ensures.1 in
    rw (p.1, p.2) (memory-then c.in_err-done.field-0.0 (λ same. moment-last _ _ _ c.args.ops.now (made-as _ _ _ c.args.ops.now (sealed-as _ _ _ c.args.ops.now c.args.around.now.fresh c.args.around.now.seal (drafted-as _ _ _ c.args.ops.now c.args.around.now.draft c.in_ok-make_hidden.ensures.held c.requires.around.draft c.in_ok-call.ensures.held) c.requires.around.fresh c.requires.around.seal c.in_ok-seal.ensures.held) c.in_ok-make_others.ensures.held) same) c.in_err-done.ensures.clean)
