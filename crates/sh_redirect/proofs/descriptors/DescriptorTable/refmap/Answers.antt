use Rattle.std.proofs.Common.{sym, ◌∙◌, arith}
use Rattle.sh_redirect.proofs.Maps.{never_none}
use Rattle.sh_redirect.proofs.descriptors.DescriptorTable.refmap.Goals as goal

pub unreachable-requires : goal.unreachable-requires
unreachable-requires c = never_none c.in_ok-pairs.pairs.items c.args.self.now.slots (omega arith) c.in_ok-pairs.ensures (sym c.in-None.is ∙ c.in_ok-map.ensures)
