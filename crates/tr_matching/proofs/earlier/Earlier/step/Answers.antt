use Rattle.std.proofs.Common.{◌≡◌, ◌∷◌, ◌∙◌, ◌≤◌, length, sym, ap, subst}
use Rattle.tr_record.specs.Pool.{steps_under}
use Rattle.tr_matching.specs.Earlier.{EarlierRecords}
use Rattle.tr_matching.proofs.RestLemmas.{rest-next, rest-none}
use Rattle.tr_matching.proofs.earlier.Earlier.step.Goals as goal

pub returns-in_default-clause-none : goal.returns-in_default-clause-none
returns-in_default-clause-none c =
    rest-none _ _ _ _ c.requires.rest (ap (λ (e : EarlierRecords). steps_under e.contents.nodes c.args.rest) (sym c.self.view_is) ∙ c.in_default.ensures.none)

pub returns-clause-rest : goal.returns-clause-rest
returns-clause-rest c =
    rest-next _ _ _ _ c.requires.rest c.in-Some.step.now c.next.result
    (subst (λ (e : EarlierRecords). steps_under e.contents.nodes c.args.rest ≡ c.in-Some.step.now ∷ steps_under e.contents.nodes c.next.result) c.self.view_is
    (c.in-Some.ensures.some ∙ ap (λ n. c.in-Some.step.now ∷ steps_under c.self.inside.contents.now.nodes n) (sym c.next.ensures.value)))
    (subst (λ (e : EarlierRecords). c.next.result ≤ length e.contents.nodes) c.self.view_is c.next.ensures.within)
