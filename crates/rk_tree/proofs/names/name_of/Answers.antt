use Rattle.std.proofs.Common.{refl}
use Rattle.rk_tree.proofs.NamesLemmas.{no_fault}
use Rattle.rk_tree.proofs.names.name_of.Goals as goal

pub unreachable-requires : goal.unreachable-requires
unreachable-requires c = no_fault c.args.text.now c.args.text.now c.in-Err-Invalid.field-0 refl c.requires c.in-Err-Invalid.ensures c.in-Err-Invalid.field-0-is
