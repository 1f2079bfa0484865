use Rattle.std.proofs.Common.{refl}
use Rattle.rk_tree.proofs.SnapshotLemmas.{fold_all, fold_on}
use Rattle.rk_install.specs.Known.{seen_at, with_item}
use Rattle.rk_install.proofs.knowing.Known.put_items.Goals as goal

pub loop-item-init : goal.loop-item-init
loop-item-init c = refl

pub loop-item-preserved : goal.loop-item-preserved
loop-item-preserved c =
    fold_on (with_item c.args.dir.now) (seen_at c.args.self.now) c.args.items.now (seen_at c.loop-item.self) (seen_at c.put_item.new.self) c.loop-item.item-index c.item-item.result c.loop-item.invariant c.loop-item-test.true c.item-item.is c.in_ok-put_item.ensures

pub returns : goal.returns
returns c = fold_all (with_item c.args.dir.now) (seen_at c.args.self.now) c.args.items.now (seen_at c.loop-item.self) c.loop-item.item-index c.loop-item.invariant c.loop-item-test.false
