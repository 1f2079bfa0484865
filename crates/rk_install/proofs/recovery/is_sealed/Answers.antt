use Rattle.std.proofs.Common.{ap, ◌∙◌}
use Rattle.rk_base.specs.Text.{is_root}
use Rattle.rk_base.specs.Canonical.{is_canonical}
use Rattle.rk_folder.proofs.HiddenLemmas.{hidden-canonical}
use Rattle.rk_install.proofs.LookLemmas.{calls-hidden, calls-root, hidden-below_root, install-below_root, install-canonical, told-hidden_listed, told-no_hidden_dir, told-seal_listed, told-seal_stands}
use Rattle.rk_install.proofs.recovery.is_sealed.Goals as goal

pub place_listed-requires-clause-canonical : goal.place_listed-requires-clause-canonical
place_listed-requires-clause-canonical g c = ap is_canonical c.in_ok-dir.ensures ∙ hidden-canonical

pub place_listed-requires-clause-below_root : goal.place_listed-requires-clause-below_root
place_listed-requires-clause-below_root g c = ap is_root c.in_ok-dir.ensures ∙ hidden-below_root

pub place_listed-requires-clause-dir : goal.place_listed-requires-clause-dir
place_listed-requires-clause-dir g c = told-hidden_listed (g.F.Folder.told c.args.folder.now) c.in_ok-dir.dir (g.met.F.Folder.whole c.args.folder.now) c.in_ok-dir.ensures

pub returns-in_err-place-clause-calls : goal.returns-in_err-place-clause-calls
returns-in_err-place-clause-calls g c = calls-root c.in_ok-dir.dir c.args.path.now _ _ c.in_ok-dir.ensures c.requires c.place_listed.ensures.calls

pub returns-then-not-is_dir-clause-told : goal.returns-then-not-is_dir-clause-told
returns-then-not-is_dir-clause-told g c = told-no_hidden_dir (g.F.Folder.told c.args.folder.now) c.in_ok-dir.dir c.in_ok-place.place c.is_dir.result (g.met.F.Folder.whole c.args.folder.now) c.in_ok-dir.ensures c.in_ok-place.ensures.told c.is_dir.ensures c.if-not-is_dir.true

pub returns-then-not-is_dir-clause-calls : goal.returns-then-not-is_dir-clause-calls
returns-then-not-is_dir-clause-calls g c = calls-root c.in_ok-dir.dir c.args.path.now _ _ c.in_ok-dir.ensures c.requires c.in_ok-place.ensures.calls

pub place_listed-requires-2-clause-canonical : goal.place_listed-requires-2-clause-canonical
place_listed-requires-2-clause-canonical g c = ap is_canonical c.requires ∙ install-canonical

pub place_listed-requires-2-clause-below_root : goal.place_listed-requires-2-clause-below_root
place_listed-requires-2-clause-below_root g c = ap is_root c.requires ∙ install-below_root

pub place_listed-requires-2-clause-dir : goal.place_listed-requires-2-clause-dir
place_listed-requires-2-clause-dir g c = told-seal_listed _ (g.F.Folder.told c.args.folder.now) c.args.path.now c.in_ok-dir.dir c.in_ok-place.place c.is_dir.result c.in_ok-place.ensures.held c.requires c.in_ok-dir.ensures c.in_ok-place.ensures.told c.is_dir.ensures c.if-not-is_dir.false

pub returns-in_err-place-2-clause-calls : goal.returns-in_err-place-2-clause-calls
returns-in_err-place-2-clause-calls g c = calls-hidden c.in_ok-dir.dir c.args.path.now _ _ _ c.in_ok-dir.ensures c.requires c.in_ok-place.ensures.calls c.place_listed-2.ensures.calls

pub returns-clause-told : goal.returns-clause-told
returns-clause-told g c = told-seal_stands _ (g.F.Folder.told c.args.folder.now) c.args.path.now c.in_ok-place-2.place c.is_file.result c.in_ok-place.ensures.held c.requires c.in_ok-place-2.ensures.told c.is_file.ensures

pub returns-clause-calls : goal.returns-clause-calls
returns-clause-calls g c = calls-hidden c.in_ok-dir.dir c.args.path.now _ _ _ c.in_ok-dir.ensures c.requires c.in_ok-place.ensures.calls c.in_ok-place-2.ensures.calls
