use Rattle.std.proofs.Common.{ap, ◌∙◌}
use Rattle.rk_base.specs.Canonical.{is_canonical}
use Rattle.rk_base.proofs.CanonicalLemmas.{root-canonical}
use Rattle.rk_base.proofs.path.Path.root.Goals as goal

pub invariant_of-result : goal.invariant_of-result
invariant_of-result c = ap is_canonical c.in_ok-text.ensures ∙ root-canonical
