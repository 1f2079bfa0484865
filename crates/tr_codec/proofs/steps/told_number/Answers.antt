use Rattle.std.proofs.Common.{◌∙◌, ℕ, Some, ap}
use Rattle.tr_codec.proofs.ToldLemmas.{if_some_weaker, told_at}
use Rattle.tr_codec.proofs.steps.told_number.Goals as goal

pub returns-in-Ok-eq4-default : goal.returns-in-Ok-eq4-default
returns-in-Ok-eq4-default c = if_some_weaker c.peek.result _ _ (λ n at. told_at _ _ c.in-Ok-eq4-default.text.now _ n _ c.requires (c.in-Ok-eq4-default.ensures ∙ ap (λ (k : ℕ). Some (k, c.in-Ok-eq4-default.text.now)) c.in-Ok-eq4-default.field-0-0-test) at) c.peek.ensures
