-- A command that is given recorded answers, one after another.
use Rattle.std.proofs.Common.{◌≡◌, ℕ, ◌+◌, ◌-◌, ◌≤◌, ◌<◌, List, length, take, get_or, refl, sym, ◌∙◌, ap, subst, arith, inl}
use Rattle.std.proofs.lemmas.List.{get_or_default}
use Rattle.rk_calls.specs.declared.answer.Answer.{Answer}
use Rattle.rk_calls.specs.declared.answer.Answer.TheVariants.{Go}
use Rattle.rk_calls.specs.Talk.{Says}
use Rattle.rk_calls.specs.Saying.{goes_on}
use Rattle.rk_calls.specs.Keys.{KeyValue}
use Rattle.tr_record.specs.declared.records.Record.{Record}
use Rattle.tr_record.specs.declared.steps.Step.{Step}
use Rattle.rk_traces.specs.Following.{Follows-snoc, next-take, follow-next}
use Rattle.rk_traces.specs.Spoken.{follow, IsStep, Follows, step_at, no_step, IsWrongStep}
use Rattle.rk_traces.specs.Fed.{waits_at}

-- it was given so many answers, and is to hear the last of them
pub record Feeding {S : Type 0} (talk : S → Answer → Says) (x : Says) (steps : List Step) (i : ℕ) (m : S) (a : Answer) : Type 0 where
  pub says : talk m a ≡ follow x (take i steps)
  pub waits : 1 ≤ i → (b : Answer) → talk m b ≡ waits_at x steps i b
  pub follows : Follows x (take i steps)

pub Feeding-start : {S : Type 0} (talk : S → Answer → Says) (x : Says) (steps : List Step) (m : S) → talk m Go ≡ x → Feeding talk x steps 0 m Go
Feeding-start talk x steps m e = record { says = e; waits = λ h. absurd (omega arith); follows = tt }

pub step-is : (xs steps : List Step) (i : ℕ) (st : Step) → xs ≡ steps → i < length steps → st ≡ get_or xs i st → st ≡ step_at i steps
step-is xs steps i st e h es = es ∙ get_or_default xs i st no_step (rw e h) ∙ ap (step_at i) e

pub Feeding-more : {S : Type 0} (talk : S → Answer → Says) (x : Says) (steps : List Step) (i : ℕ) (m : S) (a : Answer) → Feeding talk x steps i m a → i < length steps → (st : Step) → st ≡ step_at i steps → (m' : S) (a' : Answer) → IsStep (talk m a) st → ((b : Answer) → talk m' b ≡ goes_on st.cost (talk m a) b) → a' ≡ st.answer → Feeding talk x steps (i + 1) m' a'
Feeding-more talk x steps i m a f h st es m' a' is on ea =
    let back : (i + 1) - 1 ≡ i = omega arith in
    let is' = subst (λ st. IsStep (talk m a) st) es is in
    let on' : (b : Answer) → talk m' b ≡ goes_on (step_at i steps).cost (follow x (take i steps)) b = λ b. on b ∙ ap (λ (st : Step). goes_on st.cost (talk m a) b) es ∙ ap (λ y. goes_on (step_at i steps).cost y b) f.says in
    let ea' : a' ≡ (step_at i steps).answer = ea ∙ ap (λ (st : Step). st.answer) es in
    record {
      says = rw ea' (on' (step_at i steps).answer ∙ sym (follow-next x steps i h));
      waits = λ k b. rw back (on' b);
      follows = rw (next-take steps i h) (Follows-snoc x (take i steps) (step_at i steps) f.follows (subst (λ y. IsStep y (step_at i steps)) f.says is'));
    }

-- a step that it doesn't take
pub Feeding-wrong : {S : Type 0} (talk : S → Answer → Says) (first : KeyValue → Says) (rec : Record) (i : ℕ) (m : S) (a : Answer) → Feeding talk (first rec.key) rec.steps i m a → i < length rec.steps → ¬ IsStep (talk m a) (step_at i rec.steps) → IsWrongStep first rec (i + 1)
Feeding-wrong talk first rec i m a f h ne = record {
  place = i;
  number_is = refl;
  before = f.follows;
  wrong = inl (h, subst (λ y. ¬ IsStep y (step_at i rec.steps)) f.says ne);
}
