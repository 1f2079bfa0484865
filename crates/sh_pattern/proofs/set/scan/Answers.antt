use Rattle.std.proofs.Common.{◌≤◌, ◌+◌, length, arith, sym, ◌∙◌}
use Rattle.sh_pattern.proofs.SetLemmas.{items-step}
use Rattle.sh_pattern.proofs.set.scan.Goals as goal

pub items-preserved : goal.items-preserved
items-preserved c =
    let within : c.items.at + c.item_at-item.result.1 ≤ length c.args.text.now = omega (arith, c.item_at-item.ensures.within, c.in-Some.ensures.length, c.split_at.ensures.back_len, c.items.invariant.1) in
    (items-step c.args.text.now c.items.at _ _ _ _ c.args.b _ _ (sym c.split_at.ensures.back ∙ c.in-Some.ensures.cut) (sym c.closes.ensures ∙ c.if-closes.false) (sym c.item_at-item.ensures.value) c.item_at-item.ensures.some c.adds-held.ensures c.items.invariant.0, within)
