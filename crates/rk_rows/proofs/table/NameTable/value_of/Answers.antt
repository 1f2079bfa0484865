use Rattle.std.proofs.Common.{sym, ap, ◌∙◌}
use Rattle.std.specs.FinMap.{get}
use Rattle.rk_rows.specs.NameTable.{NameValues}
use Rattle.sh_vars.proofs.NameMap.{get_named}
use Rattle.rk_rows.proofs.table.NameTable.value_of.Goals as goal

pub returns : goal.returns
returns c = c.get.ensures.value ∙ sym (get_named c.self.inside.rows.entries c.args.name.now) ∙ ap (λ (m : NameValues). get m c.args.name.now) c.self.view_is
