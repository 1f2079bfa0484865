-- What a world that fetches keeps.
use Rattle.std.specs.Prelude.{◌≡◌, ℕ, Bool, true}
use Rattle.std.proofs.Common.{refl, subst, ◌∙◌}
use Rattle.rk_kernel.specs.Causes.{Stopped, IsNoFaultAt}
use Rattle.rk_kernel.specs.declared.answer_err.AnswerErr.{AnswerErr}
use Rattle.rk_kernel.specs.declared.answer_err.AnswerErr.TheVariants.{ReadFault, NoMemory}

-- whatever is answered: the same is told, it is as steady, and this is kept
pub record Kept {V : Type 0} (old new : V) (was now : Bool) (Keeps : Type 0) : Type 0 where
  pub told : new ≡ old
  pub steady : now ≡ was
  pub keeps : Keeps

pub kept-itself : {V : Type 0} {it : V} {steady : Bool} {Keeps : Type 0} → Keeps → Kept it it steady steady Keeps
kept-itself keeps = record { told = refl; steady = refl; keeps = keeps }

pub kept-on : {V : Type 0} {a b c : V} {k l m : Bool} {P Q R : Type 0} → (P → Q → R) → Kept a b k l P → Kept b c l m Q → Kept a c k m R
kept-on on s t = record { told = t.told ∙ s.told; steady = t.steady ∙ s.steady; keeps = on s.keeps t.keeps }

-- where there is an answer: no more calls failed, it is as steady, and this stays
pub record Stayed (before now : ℕ) (was is : Bool) (Stays : Type 0) : Type 0 where
  pub faults : now ≡ before
  pub steady : is ≡ was
  pub rest : Stays

pub stayed-itself : {faults : ℕ} {steady : Bool} {Stays : Type 0} → Stays → Stayed faults faults steady steady Stays
stayed-itself rest = record { faults = refl; steady = refl; rest = rest }

pub stayed-on : {a b c : ℕ} {k l m : Bool} {P Q R : Type 0} → (P → Q → R) → Stayed a b k l P → Stayed b c l m Q → Stayed a c k m R
stayed-on on s t = record { faults = t.faults ∙ s.faults; steady = t.steady ∙ s.steady; rest = on s.rest t.rest }

-- where there is none: a read fault comes only where more calls failed, and never of what is steady
pub record Failed (before now : ℕ) (was : Bool) (stop : AnswerErr) : Type 0 where
  pub cause : Stopped before now stop
  pub steady : was ≡ true → IsNoFaultAt stop

-- a stop says the same of it as it was before
pub failed-on : (a b c : ℕ) (k l : Bool) (stop : AnswerErr) {P : Type 0} → Stayed a b k l P → Failed b c l stop → Failed a c k stop
failed-on a b c k l stop s t = record {
  cause = subst (λ (n : ℕ). Stopped n c stop) s.faults t.cause;
  steady = λ is. t.steady (s.steady ∙ is);
}

pub failed-want : (a b : ℕ) (k l : Bool) (stop : AnswerErr) {P : Type 0} → Stayed a b k l P → stop ≡ NoMemory → Failed a b k stop
failed-want a b k l ReadFault s is = cc
failed-want a b k l NoMemory s is = record { cause = s.faults; steady = λ steady. tt }
