use Rattle.std.proofs.Common.{◌≡◌, ◌++◌, take}
use Rattle.std.specs.List.{flat_map}
use Rattle.rk_base.specs.Text.{Text}
use Rattle.tr_codec.proofs.writer.push_all.Given as goal

abbrev pub invariant-nodes : goal.invariant-nodes
invariant-nodes l = l.out.items ≡ l.fn.out.items ++ flat_map (λ (node : Text). node) (take l.node-index l.nodes)
