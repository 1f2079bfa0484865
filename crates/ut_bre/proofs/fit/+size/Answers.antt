use Rattle.std.proofs.Common.{arith}
use Rattle.ut_bre.proofs.Alike.{size_more, size_all}
use Rattle.ut_bre.proofs.fit.+size.Goals as goal

pub least_size-returns : goal.least_size-returns
least_size-returns t c = size_all c.args.items.now c.items.item-index c.items.sum (omega (arith, c.items-test.false)) c.items.invariant.within c.items.invariant.counted

pub least_size-items-preserved : goal.least_size-items-preserved
least_size-items-preserved t c = record {
  within = omega arith;
  counted = size_more c.args.items.now c.items.item-index c.item-item.result c.items.sum c.saturating_mul-more.result c.saturating_add-sum.result c.turn_size.result c.times.result c.items-test.true c.item-item.is c.times.ensures c.turn_size.ensures c.saturating_mul-more.ensures c.saturating_add-sum.ensures c.items.invariant.counted;
}
