use Rattle.std.proofs.Common.{◌≡◌, drop}
use Rattle.rk_install.specs.Known.{seen_at, with_items}
use Rattle.rk_install.proofs.knowing.Known.put_items.Given as goal

abbrev pub invariant-loop-item : goal.invariant-loop-item
invariant-loop-item l = with_items l.dir (drop l.item-index l.items) (seen_at l.self) ≡ with_items l.dir l.items (seen_at l.fn.self)
