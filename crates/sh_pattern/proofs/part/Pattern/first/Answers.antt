use Rattle.std.proofs.Common.{sym, subst}
use Rattle.sh_pattern.specs.Parts.{Begins, parts}
use Rattle.rk_base.specs.Text.{Text}
use Rattle.sh_pattern.proofs.PartLemmas.{begins}
use Rattle.sh_pattern.proofs.part.Pattern.first.Goals as goal

pub returns : goal.returns
returns c =
    let b : Begins c.args.b (parts c.self.inside.rest.now) c.first_of-first.result.part (parts c.split_at.result.1.now) =
    subst (λ (t : Text). Begins c.args.b (parts c.self.inside.rest.now) c.first_of-first.result.part (parts t)) (sym c.split_at.ensures.back) (begins c.self.inside.rest.now _ _ c.args.b c.first_of-first.result c.in_ok-c.ensures.cut c.first_of-first.ensures.value) in
    subst (λ (x : Text). Begins c.args.b (parts x) c.first_of-first.result.part (parts c.split_at.result.1.now)) c.self.view_is b
