use Rattle.std.proofs.Common.{◌≡◌, Option, Some, arith, ap}
use Rattle.rk_base.specs.Text.{depth}
use Rattle.rk_folder.specs.Steps.{listed_in, with_item}
use Rattle.rk_folder.specs.declared.hidden_listing.Listed.{Listed}
use Rattle.rk_folder.proofs.ImportLemmas.{root-depth}
use Rattle.rk_folder.proofs.RootLemmas.{told-top, told-top_failed}
use Rattle.rk_folder.proofs.entries.take_top.Goals as goal

pub returns-in-Ok-clause-taken : goal.returns-in-Ok-clause-taken
returns-in-Ok-clause-taken g c =
    told-top {A = Listed} {B = Option Listed} _ c.args.root.now c.args.item.now c.is_hidden_dir.result c.args.snapshot.now (λ held x. x ≡ listed_in held) c.in-Ok.listed (Some c.in-Ok.listed) (g.met.F.Folder.whole c.args.folder.now) c.requires.root c.requires.agrees c.is_hidden_dir.ensures c.if-is_hidden_dir.true c.in-Ok.ensures.listed

pub returns-in-Err-clause-taken : goal.returns-in-Err-clause-taken
returns-in-Err-clause-taken g c =
    told-top_failed {A = Listed} {B = Option Listed} _ c.args.root.now c.args.item.now c.is_hidden_dir.result (λ held x. x ≡ listed_in held) (λ held x. c.args.snapshot.now ≡ with_item held c.args.root.now c.args.snapshot.now c.args.item.now) c.in-Err.e (g.met.F.Folder.whole c.args.folder.now) c.requires.root c.requires.agrees c.is_hidden_dir.ensures c.if-is_hidden_dir.true c.in-Err.ensures.listed

pub take_item-requires-clause-deep : goal.take_item-requires-clause-deep
take_item-requires-clause-deep g c = omega (arith, ap depth c.requires.root, root-depth)
