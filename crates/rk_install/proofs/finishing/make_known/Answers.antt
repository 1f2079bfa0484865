use Rattle.std.proofs.Common.{refl}
use Rattle.std.proofs.lemmas.Result.{err_from_is_err_and}
use Rattle.rk_install.specs.Known.{seen_at}
use Rattle.rk_install.proofs.KnownLemmas.{told-knows_call}
use Rattle.rk_install.proofs.StepLemmas.{damage-none}
use Rattle.rk_install.proofs.finishing.make_known.Goals as goal

pub returns-in_err-put_call-clause-left : goal.returns-in_err-put_call-clause-left
returns-in_err-put_call-clause-left g c =
    let p = err_from_is_err_and c.from_residual.result c.from_residual.ensures.1 in
    rw p.1 (damage-none c.args.op.now (g.F.Folder.told c.args.folder.now) (g.F.Folder.told c.args.folder.now) refl)

pub returns-clause-known : goal.returns-clause-known
returns-clause-known g c = told-knows_call (g.F.Folder.told c.args.folder.now) _ c.args.op.now (seen_at c.args.known.now) (seen_at c.put_call.new.self) c.in_ok-make.ensures.held c.requires.known c.in_ok-put_call.ensures
