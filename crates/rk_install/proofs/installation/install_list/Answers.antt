use Rattle.std.proofs.Common.{List, Some, refl, subst}
use Rattle.std.proofs.lemmas.Result.{err_from_is_err_and}
use Rattle.rk_seal.specs.declared.ops.Op.{Op}
use Rattle.rk_install.specs.Asked.{CallsInOrder, install_calls}
use Rattle.rk_install.proofs.AskedLemmas.{or-none}
use Rattle.rk_install.proofs.CleanLemmas.{memory-only, moment-none, readable-all}
use Rattle.rk_install.proofs.InstallLemmas.{stop-none}
use Rattle.rk_install.proofs.installation.install_list.Goals as goal

pub returns-in_err-around-clause-stops : goal.returns-in_err-around-clause-stops
returns-in_err-around-clause-stops g c =
    let p = err_from_is_err_and c.from_residual.result c.from_residual.ensures.1 in
    rw p.1 (stop-none (g.F.Folder.told c.args.folder.now) (g.F.Folder.told c.args.folder.now) c.args.list.now refl)

pub returns-clause-calls : goal.returns-clause-calls
returns-clause-calls g c =
    or-none (install_calls c.args.list.now) _ _ c.install_around.result
    (subst (λ (l : List Op). CallsInOrder (install_calls l) (g.F.Folder.schedule c.args.folder.now) (g.F.Folder.schedule c.install_around.new.folder) c.install_around.result) c.as_slice.ensures.value c.install_around.ensures.calls)

pub returns-in_err-around-clause-clean : goal.returns-in_err-around-clause-clean
returns-in_err-around-clause-clean g c =
    let p = err_from_is_err_and c.from_residual.result c.from_residual.ensures.1 in
    rw p.1 (memory-only _ (moment-none (g.F.Folder.told c.args.folder.now) (g.F.Folder.told c.args.folder.now) c.args.list.now refl))

pub returns-clause-readable : goal.returns-clause-readable
returns-clause-readable g c = readable-all (Some c.args.list.now) _ _ c.install_around.result c.in_ok-around.ensures.readable
