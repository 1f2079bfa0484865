use Rattle.std.proofs.Common.{ap, ◌∙◌}
use Rattle.sh_means.specs.declared.state.SavedState.{SavedState}
use Rattle.sh_means.specs.Views.{back_to}
use Rattle.sh_means.proofs.Copied.{saved_is}
use Rattle.sh_means.proofs.state.State.save.Goals as goal

pub returns : goal.returns
returns c =
    λ e. ap (λ (s : SavedState). back_to s e) c.in_ok-boxed.ensures.ok
    ∙ saved_is c.args.self.now c.in_ok-vars.vars c.in_ok-zero.zero c.in_ok-wd.wd c.in_ok-functions.functions.value c.in_ok-descriptors.descriptors.value e c.in_ok-vars.ensures c.in_ok-zero.ensures c.in_ok-wd.ensures.copy c.in_ok-functions.ensures.cases c.in_ok-descriptors.ensures.cases
