-- A run under way: what is left of it comes to the whole run.
use Rattle.std.proofs.Common.{◌≡◌, ℕ, ◌-◌, List, [], ◌∷◌, ◌++◌, false, length, sym, ◌∙◌, ap, subst, refl}
use Rattle.rk_calls.specs.declared.call.Call.{Call}
use Rattle.rk_calls.specs.declared.call.Call.TheVariants.{Launch}
use Rattle.rk_calls.specs.declared.answer.Answer.{Answer}
use Rattle.rk_calls.specs.declared.answer.Answer.TheVariants.{Joined}
use Rattle.rk_calls.specs.declared.drive.Spoke.{Spoke}
use Rattle.rk_calls.specs.declared.drive.Spoke.TheVariants.{Call as Calls, Exit as Exits, Short}
use Rattle.rk_calls.specs.Talk.{Says}
use Rattle.rk_calls.specs.Saying.{speaks, goes_on}
use Rattle.rk_calls.specs.Heard.{Goes}
use Rattle.rk_calls.specs.Keys.{KeyValue}
use Rattle.rk_calls.specs.Refs.{RefsHeld, passed_refs}
use Rattle.rk_calls.specs.Given.{Given}
use Rattle.rk_calls.specs.Fits.{is_launch}
use Rattle.tr_record.specs.declared.records.Record.{Record}
use Rattle.tr_record.specs.Rec.{begun, stepped, ended}
use Rattle.rk_traces.specs.Run.{Environment, Outcome, Done, Spent, On, step, after_answer, after_ask, after_spoke, run}
use Rattle.rk_traces.specs.Running.{run-is}
use Rattle.rk_traces.specs.Rest.{Pending, pending, rest, rest-push, rest-spent}

-- each call but a launch is asked of the world
pub asked-world : {W : Type 0} (g : Environment W) (on : On W) (p place : ℕ) (refs : RefsHeld) (x : Says) (w : W) (t : List Record) (c : ℕ) (call : Call) → is_launch call ≡ false → after_ask g on p place refs x w t c call ≡ after_answer on p place (goes_on c x) t c call (g.given w refs call)
asked-world g on p place refs x w t c (Launch key map) e = cc
asked-world g on p place refs x w t c call e = refl

-- a call that is no launch
pub no-launch : (call : Call) → ((key : KeyValue) (map : List (ℕ × ℕ)) → call ≡ Launch key map → ⊥) → is_launch call ≡ false
no-launch (Launch key map) h = absurd (h key map refl)
no-launch call h = refl

abbrev pub Going : {W : Type 0} → Environment W → Outcome W → ℕ → ℕ → RefsHeld → Says → W → List Record → List Pending → Type 0
Going g o p place refs x w t fs = o ≡ rest g fs (run g p place refs x w t)

-- the world gives this
abbrev pub gives : {W : Type 0} → Answer → RefsHeld → W → Given W
gives a refs w = record { answer = a; refs = refs; world = w }

module _ {W : Type 0} (g : Environment W) (o : Outcome W) (p place : ℕ) (refs : RefsHeld) (x : Says) (w : W) (t : List Record) (fs : List Pending) (i : Going g o p place refs x w t fs) (s : Spoke) (e : s ≡ speaks p x) where
  goes : (s' : Spoke) → s ≡ s' → o ≡ rest g fs (after_spoke g (run g) p place refs x w t s')
  goes s' es = i ∙ ap (rest g fs) (run-is g p place refs x w t ∙ ap (after_spoke g (run g) p place refs x w t) (sym e ∙ es))

  pub Going-ask : (wait : Answer → Says) → Goes s x wait → (call : Call) (c : ℕ) (a : Answer) (refs' : RefsHeld) (x' : Says) (w' : W) (t' : List Record) → s ≡ Calls call c → is_launch call ≡ false → gives a refs' w' ≡ g.given w refs call → t' ≡ stepped place (step c call a) t → x' ≡ wait a → Going g o (p - c) place refs' x' w' t' fs
  Going-ask wait gs call c a refs' x' w' t' es el eg et ex =
      let h = subst (λ s. Goes s x wait) es gs in
      let hw : wait ≡ goes_on c x = λ i a. h a i in
      rw (ex, hw, et)
      (goes (Calls call c) es
      ∙ ap (rest g fs) (asked-world g (run g) p place refs x w t c call el ∙ ap (after_answer (run g) p place (goes_on c x) t c call) (sym eg)))

  pub Going-launch : (wait : Answer → Says) → Goes s x wait → (call : Call) (key : KeyValue) (map : List (ℕ × ℕ)) (c new : ℕ) (refs' : RefsHeld) (x' : Says) (t' : List Record) (fs' : List Pending) → s ≡ Calls call c → call ≡ Launch key map → refs' ≡ passed_refs refs map → x' ≡ g.first key → new ≡ length t → t' ≡ begun key t → fs' ≡ fs ++ pending place refs key map c wait ∷ [] → Going g o (p - c) new refs' x' w t' fs'
  Going-launch wait gs call key map c new refs' x' t' fs' es ec er ex en et ef =
      let h = subst (λ s. Goes s x wait) es gs in
      let hw : wait ≡ goes_on c x = λ i a. h a i in
      rw (ef, hw, et, en, ex, er)
      (goes (Calls (Launch key map) c) (es ∙ ap (λ call. Calls call c) ec)
      ∙ sym (rest-push g fs (pending place refs key map c (goes_on c x)) (run g (p - c) (length t) (passed_refs refs map) (g.first key) w (begun key t))))

  pub Going-short : s ≡ Short → o ≡ Spent
  Going-short es = goes Short es ∙ rest-spent g fs

  pub Going-end : (status c : ℕ) (t' : List Record) → s ≡ Exits status c → t' ≡ ended place status c t → fs ≡ [] → o ≡ Done w status (p - c) t'
  Going-end status c t' es et ef = rw et (goes (Exits status c) es ∙ ap (λ fs. rest g fs (Done w status (p - c) (ended place status c t))) ef)

  pub Going-join : (status c : ℕ) (x' : Says) (t' t'' : List Record) (fs' : List Pending) (f : Pending) → s ≡ Exits status c → t' ≡ ended place status c t → fs ≡ fs' ++ f ∷ [] → t'' ≡ stepped f.place (step f.cost (Launch f.key f.map) (Joined status)) t' → x' ≡ f.wait (Joined status) → Going g o (p - c) f.place f.refs x' w t'' fs'
  Going-join status c x' t' t'' fs' f es et ef et' ex =
      rw (ex, et', et)
      (goes (Exits status c) es
      ∙ ap (λ fs. rest g fs (Done w status (p - c) (ended place status c t))) ef
      ∙ rest-push g fs' f (Done w status (p - c) (ended place status c t)))
