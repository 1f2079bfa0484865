use Rattle.std.proofs.Common.{◌≡◌, refl}
use Rattle.rk_waves.specs.Programs.{end_of}
use Rattle.rk_feet.specs.Checks.{row}
use Rattle.rk_feet.specs.Course.{made_of}
use Rattle.rk_feet.proofs.WayLemmas.{path-holds}
use Rattle.rk_feet.proofs.leads_alike.Goals as goal

pub returns : goal.returns
returns c = record {
  alike = λ held at name_of shows whole make path follow.
      path-holds held at name_of shows whole (row make) follow (λ end spot. end ≡ end_of at (made_of held at name_of make spot))
      (λ passed here reached. refl) (λ passed dir name slash near. refl) (λ e. refl) path;
}
