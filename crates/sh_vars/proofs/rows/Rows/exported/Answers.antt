use Rattle.std.proofs.Common.{List, ◌++◌, ap, sym, ◌∙◌}
use Rattle.std.specs.List.{filter_map}
use Rattle.rk_base.specs.declared.vars.Var.{Var}
use Rattle.sh_vars.specs.Held.{exported_var}
use Rattle.sh_vars.proofs.RowsLemmas.{exported_all, no_other, listed}
use Rattle.sh_vars.proofs.rows.Rows.exported.Goals as goal

pub unreachable-requires : goal.unreachable-requires
unreachable-requires c =
    let listed = c.in_ok-list_exported.ensures.listed ∙ ap (λ (vars : List Var). vars ++ filter_map exported_var c.self.inside.tree) c.new-vars.ensures.items ∙ exported_all c.self.inside.tree c.args.self.now c.self.view_is c.list_exported.ensures.in_order in
    no_other c.list_exported.new.vars.items c.args.self.now listed (sym c.from_vec.ensures ∙ c.in-None.is)

pub returns : goal.returns
returns c =
    let listed_so = c.in_ok-list_exported.ensures.listed ∙ ap (λ (vars : List Var). vars ++ filter_map exported_var c.self.inside.tree) c.new-vars.ensures.items ∙ exported_all c.self.inside.tree c.args.self.now c.self.view_is c.list_exported.ensures.in_order in
    listed c.list_exported.new.vars.items c.args.self.now c.in-Some.list listed_so (sym c.from_vec.ensures ∙ c.in-Some.is)
