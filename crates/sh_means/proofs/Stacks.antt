-- A frame more, and a payment of nothing.
use Rattle.std.proofs.Common.{◌≡◌, ℕ, List, [], ◌∷◌, ◌++◌, refl, ap, ◌∙◌}
use Rattle.rk_calls.specs.Talk.{Says, pay}
use Rattle.rk_calls.specs.Views.{pay-nothing}
use Rattle.sh_means.specs.declared.control.Frame.{Frame}
use Rattle.sh_means.specs.Eval.{over}
use Rattle.sh_means.specs.Flows.{Next}
use Rattle.sh_means.specs.Stack.{above, context_on, context}

context_on_push : (k : Next) (fs : List Frame) (f : Frame) → context_on k (fs ++ f ∷ []) ≡ above f (context_on k fs)
context_on_push k [] f = refl
context_on_push k (g ∷ fs) f = context_on_push (above g k) fs f

pub context_push : (fs : List Frame) (f : Frame) → context (fs ++ f ∷ []) ≡ above f (context fs)
context_push fs f = context_on_push over fs f

pub context_pushed : (fs fs' : List Frame) (f : Frame) → fs' ≡ fs ++ f ∷ [] → context fs' ≡ above f (context fs)
context_pushed fs fs' f is = ap context is ∙ context_push fs f

pub pay_nothing : (x : Says) (p : ℕ) → pay 0 x p ≡ x p
pay_nothing x p = pay-nothing x p
