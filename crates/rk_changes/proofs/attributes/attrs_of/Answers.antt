use Rattle.std.proofs.Common.{◌∙◌, ap}
use Rattle.rk_attrs.specs.Rows.{are_rows}
use Rattle.rk_changes.proofs.AttributesLemmas.{attrs_are, taken}
use Rattle.rk_changes.proofs.attributes.attrs_of.Goals as goal

pub unreachable-requires : goal.unreachable-requires
unreachable-requires c = taken (are_rows c.in_ok-rows.rows.items) c.in_ok-rows.rows.items c.from_vec.result c.from_vec.ensures (ap are_rows c.in_ok-rows.ensures ∙ attrs_are c.args.snapshot.now c.requires) c.in-None.is
