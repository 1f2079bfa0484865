use Rattle.std.proofs.Common.{rules, ◌≡◌, sym, ap, ◌∙◌}
use Rattle.std.proofs.lemmas.Bool.{ltb-true}
use Rattle.sh_token.specs.Bytes.{class_is}
use Rattle.sh_token.specs.Brackets.{closes_bracket}
use Rattle.sh_token.specs.Folded.{folded}
use Rattle.sh_token.proofs.unread.Unread.is_unclosed.Goals as goal

pub returns-then-eq : goal.returns-then-eq
returns-then-eq c = λ h.
    let same : c.args.class ≡ c.self.inside.class = search (rules, sym c.eq.ensures ∙ c.if-eq.true) in
    ap (λ k. closes_bracket (class_is k) (folded c.args.self.now)) same
    ∙ ap (λ xs. closes_bracket (class_is c.self.inside.class) (folded xs)) (sym c.self.view_is)
    ∙ c.self.invariant.none_closed 0 (ltb-true _ _ h)
