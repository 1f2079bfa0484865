use Rattle.std.proofs.Common.{Option, codes, sym, ap, ◌∙◌}
use Rattle.rk_base.specs.Text.{Text}
use Rattle.sh_means.specs.Simple.{errs, unless_barred}
use Rattle.sh_means.specs.Views.{shell_of}
use Rattle.sh_simple.proofs.special.unless_barred.Goals as goal

pub returns-in_ok-acted-in-Some-clause-talk : goal.returns-in_ok-acted-in-Some-clause-talk
returns-in_ok-acted-in-Some-clause-talk c =
    let e = shell_of c.args.state.now in
    λ k p. ap (λ (o : Option Text). unless_barred o k e p) c.in-Some.is
    ∙ ap (λ (t : Text). errs t (codes "readonly") k e p) (sym c.as_slice.ensures)
    ∙ c.in_ok-acted-in-Some.ensures.talk k p
