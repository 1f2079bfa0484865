use Rattle.std.proofs.Common.{ap, sym, ◌∙◌}
use Rattle.rk_base.specs.Text.{parent}
use Rattle.rk_base.specs.Canonical.{is_canonical}
use Rattle.rk_base.proofs.PathLemmas.{parent-canonical}
use Rattle.rk_base.proofs.path.Path.parent.Goals as goal

pub invariant_of-result : goal.invariant_of-result
invariant_of-result c = ap is_canonical (c.in_ok-text.ensures ∙ c.parent_text.ensures ∙ ap parent (sym c.self.view_is)) ∙ parent-canonical _ c.self.invariant
