use Rattle.std.proofs.Common.{ap, ◌∙◌}
use Rattle.rk_base.specs.Canonical.{is_canonical, is_name}
use Rattle.rk_base.specs.Text.{join}
use Rattle.rk_base.proofs.CanonicalLemmas.{join-canonical}
use Rattle.rk_base.proofs.PathLemmas.{depth-join}
use Rattle.rk_base.proofs.path.Path.join.Goals as goal

pub invariant_of-result : goal.invariant_of-result
invariant_of-result c = ap is_canonical (c.in_ok-text.ensures ∙ ap (λ t. join t c.as_slice-2.result.now) c.as_slice.ensures) ∙ join-canonical _ _ c.self.invariant (ap is_name c.as_slice-2.ensures.value ∙ c.as_slice-2.ensures.name)

pub returns-in_err-text-clause-deeper : goal.returns-in_err-text-clause-deeper
returns-in_err-text-clause-deeper c = depth-join _ _ c.as_slice-2.ensures.name

pub returns-clause-deeper : goal.returns-clause-deeper
returns-clause-deeper c = depth-join _ _ c.as_slice-2.ensures.name
