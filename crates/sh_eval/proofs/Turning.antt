-- The machine's turns.
use Rattle.std.proofs.Common.{◌≡◌, ◌+◌, ◌<◌, ◌↔◌, Bool, false, IsTrue, ℕ, refl, ap, ◌∙◌, zero, suc, arith, Result, Ok, Err, IfOk}
use Rattle.rk_calls.specs.Costly.{IsCostly}
use Rattle.rk_calls.specs.Talk.{Says, pay, after}
use Rattle.rk_calls.specs.Views.{pay-nothing}
use Rattle.rk_calls.specs.declared.answer.Answer.TheVariants.{Go}
use Rattle.rk_calls.specs.declared.turn.Turn.{Turn}
use Rattle.rk_calls.specs.declared.turn.Turn.TheVariants.{Ask, More, Exit}
use Rattle.sh_eval.specs.declared.machine.Evaluator.{Evaluator}
use Rattle.sh_eval.specs.Machine.{Sheds, steps_on, evaluator_says}
use Rattle.sh_means.specs.declared.control.Acted.{Acted}
use Rattle.sh_means.specs.declared.control.Control.{Control}
use Rattle.sh_means.specs.Flows.{Next}
use Rattle.sh_means.specs.Stack.{Steps, IsStep, context, stepped}
use Rattle.sh_means.specs.State.{Shell}
use Rattle.sh_means.specs.Views.{shell_of}
use Rattle.sh_means.specs.Weights.{Falls, IsFree, Lowers, weigh, weigh_all}
use Rattle.sh_means.proofs.Weighing.{falls_step, falls_less}

pub stepped_after : (t : Turn) (x : Evaluator) (p : ℕ) → stepped t x.control (context x.shell.stack.items) (shell_of x.shell.state) p ≡ after t (evaluator_says x) p
stepped_after (Ask call c) x p = refl
stepped_after (More c) x p = refl
stepped_after (Exit status c) x p = refl

-- what was to be said, in other words
pub said_so : {E : Type 0} (result : Result Acted E) (x y : Next → Says) (e : Shell) → ((k : Next) (p : ℕ) → x k p ≡ y k p) →
    IfOk result (λ t. (k : Next) → Steps (y k) k e t) → IfOk result (λ t. (k : Next) → Steps (x k) k e t)
said_so (Ok t) x y e is talk = λ k p. is k p ∙ talk k p
said_so (Err z) x y e is talk = tt

-- what was said before a turn without cost is said after it
pub after_free : (t : Turn) (x : Evaluator) (p : ℕ) → IsFree t → after t (evaluator_says x) p ≡ steps_on x Go p
after_free (Ask call c) x p h = absurd h
after_free (More c) x p h = ap (λ (c : ℕ). pay c (evaluator_says x Go) p) h ∙ pay-nothing (evaluator_says x Go) p
after_free (Exit status c) x p h = absurd h

-- a turn that isn't free costs something
pub costly_step : (t : Turn) → IsStep t → (IsFree t → ⊥) → IsCostly t
costly_step (Ask call c) h free = h
costly_step (More zero) h free = absurd (free refl)
costly_step (More (suc c)) h free = omega arith
costly_step (Exit status c) h free = tt

pub not_free : (b : Bool) (t : Turn) → (IsTrue b ↔ IsFree t) → b ≡ false → IsFree t → ⊥
not_free b t h never free = let yes : IsTrue b = h.1 free in cc

-- a step from what comes next, and what comes next then
pub sheds : (x y : Evaluator) (t : Acted) (ctl : Control) → ctl ≡ x.control → y.control ≡ t.control → Lowers (weigh ctl) x.shell.stack.items y.shell.stack.items t → Sheds x t.turn y
sheds x y t ctl hx hy h =
    let falls : Falls (weigh ctl + weigh_all x.shell.stack.items) (weigh_all y.shell.stack.items) t = h (weigh ctl + weigh_all x.shell.stack.items) (omega arith) in
    let was : weigh ctl ≡ weigh x.control = ap weigh hx in
    let is : weigh y.control ≡ weigh t.control = ap weigh hy in (
      falls_step (weigh ctl + weigh_all x.shell.stack.items) (weigh_all y.shell.stack.items) t falls,
      λ free.
          let less : weigh t.control + weigh_all y.shell.stack.items < weigh ctl + weigh_all x.shell.stack.items = falls_less (weigh ctl + weigh_all x.shell.stack.items) (weigh_all y.shell.stack.items) t falls free in
          omega arith,
    )
