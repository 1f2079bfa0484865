use Rattle.std.proofs.Common.{◌≡◌, ◌+◌, ◌-◌, ◌<◌, length, drop, ap, ◌∙◌, arith}
use Rattle.ut_bre.specs.Trees.{trees_of}
use Rattle.ut_bre.specs.Starting.{starts}
use Rattle.ut_bre.proofs.StartLemmas.{starts_more}
use Rattle.ut_bre.proofs.starts.+starts.Goals as goal

pub starts-items-preserved : goal.starts-items-preserved
starts-items-preserved t c =
    let items = c.args.items.now in
    let here : c.items.at - 1 < length items = omega (arith, c.items.invariant.within, c.items-test.true) in
    let next : c.items.at ≡ (c.items.at - 1) + 1 = omega (arith, c.items-test.true) in
    let on = c.items.invariant.told ∙ ap (λ k. starts (trees_of (drop k items)) c.args.behind c.args.b) next in
    record {
      within = omega (arith, c.items.invariant.within);
      told = starts_more items (c.items.at - 1) c.index-items-at.result c.args.b c.args.behind c.items.on c.starts_item-on.result here c.index-items-at.is on c.starts_item-on.ensures;
    }
