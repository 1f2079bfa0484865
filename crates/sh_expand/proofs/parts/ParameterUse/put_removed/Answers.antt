use Rattle.std.proofs.Common.{◌≡◌, refl, sym, ◌∙◌}
use Rattle.std.specs.Prelude.{Some}
use Rattle.sh_expand.specs.Values.{values}
use Rattle.sh_expand.proofs.parts.ParameterUse.put_removed.Goals as goal

pub returns-in_ok-pattern-in-Some-clause-does : goal.returns-in_ok-pattern-in-Some-clause-does
returns-in_ok-pattern-in-Some-clause-does c =
    λ body k fail p.
    let some : values c.args.self.now.env.now c.args.self.now.parameter.now ≡ Some c.in-Some.words = sym c.in_ok-words.ensures ∙ c.in-Some.is in
    rw (some, c.is_apart-apart.ensures, c.take.ensures.left, c.take.ensures.taken, c.in_ok-pattern-in-Some.ensures) refl
