use Rattle.std.proofs.Common.{sym, ap, ◌∙◌}
use Rattle.std.specs.FinMap.{get}
use Rattle.sh_vars.specs.Held.{Variables}
use Rattle.sh_vars.proofs.NameMap.{get_found}
use Rattle.sh_vars.proofs.rows.Rows.get.Goals as goal

pub returns : goal.returns
returns c = c.get.ensures ∙ sym (get_found c.self.inside.tree c.args.name.now) ∙ ap (λ (m : Variables). get m c.args.name.now) c.self.view_is
