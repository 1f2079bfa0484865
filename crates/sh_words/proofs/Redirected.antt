-- Redirections, as they go on.
use Rattle.std.proofs.Common.{◌≡◌, ℕ, sym, ap, ◌∙◌}
use Rattle.std.specs.Global.{Box}
use Rattle.rk_base.specs.Text.{Text}
use Rattle.rk_calls.specs.Talk.{ask}
use Rattle.rk_calls.specs.declared.answer.Answer.{Answer}
use Rattle.rk_calls.specs.declared.answer.Answer.TheVariants as answer
use Rattle.rk_calls.specs.declared.call.Call.{Call}
use Rattle.sh_vars.specs.declared.env.Env.{Env}
use Rattle.sh_expand.specs.Expands.{counted}
use Rattle.sh_redirect.specs.declared.descriptors.DescriptorTable.{DescriptorTable}
use Rattle.sh_redirect.specs.declared.redirecting.Redirecting.{Redirecting}
use Rattle.sh_redirect.specs.declared.redirecting.Turn.{Turn}
use Rattle.sh_redirect.specs.declared.redirecting.Turn.TheVariants as turn
use Rattle.sh_redirect.specs.Answers as redirection
use Rattle.sh_redirect.specs.declared.kind.Redirect as kinds
use Rattle.sh_redirect.specs.Redirects.{After, Action, redirects}
use Rattle.sh_redirect.specs.Stages.{redirecting_does, after}
use Rattle.sh_means.specs.declared.control.Control.TheVariants as control
use Rattle.sh_means.specs.declared.control.PendingRedirects.{PendingRedirects}
use Rattle.sh_means.specs.declared.control.Wait.TheVariants as wait
use Rattle.sh_means.specs.declared.flow.Place.{Place}
use Rattle.sh_means.specs.Flows.{Next, asks}
use Rattle.sh_means.specs.Stack.{making, when_refused, redirecting, resumed}
use Rattle.sh_means.specs.State.{Shell}
use Rattle.sh_means.specs.Words.{moved, redirect_to}
use Rattle.sh_words.proofs.Hearing.{redirection_heard}

all_heard : (λ (a : Answer) (env : Env). redirection.heard a env) ≡ counted
all_heard = λ i a env. redirection_heard a env i

-- what comes after a redirection, from a state
abbrev pub then_of : PendingRedirects → Place → Next → Shell → After
then_of m pl k e = record { made = λ ds env. making m pl k (moved ds env e); refused = λ ds env. when_refused m pl k (moved ds env e) }

module _ (m : PendingRedirects) (pl : Place) (k : Next) (r r0 r' : Redirecting) (a : Answer) (e : Shell) (ds : DescriptorTable) (t : Turn) (hr : r0 ≡ r) (h : (x : After) (p : ℕ) → redirecting_does r0 a x e.descriptors e.env p ≡ after t (redirecting_does r') x ds e.env p) where
  from : (p : ℕ) → redirecting m pl k r a e p ≡ redirecting m pl k r0 a e p
  from p = ap (λ (x : Redirecting). redirecting m pl k x a e p) (sym hr)

  pub redirect_asks : (c : Call) (cost : ℕ) (p : ℕ) → t ≡ turn.Ask c cost → redirecting m pl k r a e p ≡ asks c cost (λ a. redirecting m pl k r' a) (record e { descriptors = ds }) p
  redirect_asks c cost p is =
      from p ∙ h (then_of m pl k e) p
      ∙ ap (λ (t : Turn). after t (redirecting_does r') (then_of m pl k e) ds e.env p) is
      ∙ ap (λ (f : Answer → Env → Env). ask c cost (λ a. redirecting_does r' a (then_of m pl k e) ds (f a e.env)) p) all_heard

  pub redirect_made : (p : ℕ) → t ≡ turn.Made → redirecting m pl k r a e p ≡ making m pl k (record e { descriptors = ds }) p
  redirect_made p is = from p ∙ h (then_of m pl k e) p ∙ ap (λ (t : Turn). after t (redirecting_does r') (then_of m pl k e) ds e.env p) is

  pub redirect_refused : (p : ℕ) → t ≡ turn.Refused → redirecting m pl k r a e p ≡ when_refused m pl k (record e { descriptors = ds }) p
  redirect_refused p is = from p ∙ h (then_of m pl k e) p ∙ ap (λ (t : Turn). after t (redirecting_does r') (then_of m pl k e) ds e.env p) is

-- a redirection begins, once its operand was expanded
pub redirect_begun : (m : PendingRedirects) (pl : Place) (kd : kinds.Redirect) (d : ℕ) (text : Text) (r0 : Redirecting) (r : Box Redirecting) (k : Next) (e : Shell) (p : ℕ) → ((a : Answer) → redirecting_does r0 a ≡ redirects kd d text) → r.value ≡ r0 → redirect_to kd d text (making m pl k) (when_refused m pl k) e p ≡ resumed (control.Waits (wait.Redirects pl m r)) k answer.Go e p
redirect_begun m pl kd d text r0 r k e p h hr =
    ap (λ (x : Action). x (record { made = λ ds env. making m pl k (moved ds env e); refused = λ ds env. when_refused m pl k (moved ds env e) }) e.descriptors e.env p) (sym (h answer.Go))
    ∙ ap (λ (x : Redirecting). redirecting m pl k x answer.Go e p) (sym hr)
