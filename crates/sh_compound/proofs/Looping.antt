-- Loops go on, or are over.
use Rattle.std.proofs.Common.{◌≡◌, ℕ, zero, suc, ◌+◌, Bool, true, false, not, refl, sym, ap, ◌∙◌}
use Rattle.std.proofs.Math.Dec.{eqb-suc-zero}
use Rattle.std.proofs.lemmas.Bool.{false≢true}
use Rattle.std.specs.declared.rc.Rc.{Rc}
use Rattle.std.specs.declared.alloc.Global.{Global}
use Rattle.rk_calls.specs.declared.answer.Answer.TheVariants.{Go}
use Rattle.sh_ast.specs.declared.command.CommandList.{CommandList}
use Rattle.sh_ast.specs.declared.command.LoopKind.{LoopKind}
use Rattle.sh_ast.specs.declared.command.LoopKind.TheVariants.{While, Until}
use Rattle.sh_means.specs.declared.control.Continuation.TheVariants as continuation
use Rattle.sh_means.specs.declared.control.Control.TheVariants as control
use Rattle.sh_means.specs.declared.control.Each.{Each}
use Rattle.sh_means.specs.declared.control.Loop.{Loop}
use Rattle.sh_means.specs.declared.flow.Flow.TheVariants.{Normal}
use Rattle.sh_means.specs.declared.flow.Place.{Place}
use Rattle.sh_means.specs.Compound.{turns_round, after_body}
use Rattle.sh_means.specs.Eval.{is_until}
use Rattle.sh_means.specs.Flows.{Next, Go_on, by_status, ends, deeper}
use Rattle.sh_compound.specs.Leaving.{goes_on, entered}
use Rattle.sh_means.specs.Stack.{each_body, loop_of, whole, continued, resumed}
use Rattle.sh_means.specs.State.{Shell}

pub each_entered : (each : Each) (b : Place) (body : Rc CommandList Global) (pl : Place) (k k' : Next) (e : Shell) (p : ℕ) → body.value ≡ each.body.value → b ≡ deeper pl → k' ≡ continued (continuation.Each pl (record each { at = each.at + 1 })) k → each_body each pl k e p ≡ resumed (control.Whole b body) k' Go e p
each_entered each b body pl k k' e p hc hb hk =
    ap (λ (c : CommandList). whole c (deeper pl) e (continued (continuation.Each pl (record each { at = each.at + 1 })) k) p) (sym hc)
    ∙ ap (λ (b : Place). whole body.value b e (continued (continuation.Each pl (record each { at = each.at + 1 })) k) p) (sym hb)
    ∙ ap (λ (k : Next). whole body.value b e k p) (sym hk)

chosen : LoopKind → ℕ → Go_on → Go_on → Go_on
chosen While n x y e = by_status n x y e
chosen Until n x y e = by_status n y x e

turns_is : (kd : LoopKind) (x y : Go_on) (e : Shell) (p : ℕ) → turns_round (is_until kd) x y e p ≡ chosen kd e.env.status x y e p
unfolding chosen
turns_is While x y e p = refl
turns_is Until x y e p = refl

goes : (kd : LoopKind) (n : ℕ) (x y : Go_on) (e : Shell) (p : ℕ) → goes_on kd n ≡ true → chosen kd n x y e p ≡ x e p
unfolding chosen
goes While zero x y e p h = refl
goes While (suc n) x y e p h = absurd (false≢true (sym (eqb-suc-zero n) ∙ h))
goes Until zero x y e p h = cc
goes Until (suc n) x y e p h = refl

stops : (kd : LoopKind) (n : ℕ) (x y : Go_on) (e : Shell) (p : ℕ) → goes_on kd n ≡ false → chosen kd n x y e p ≡ y e p
unfolding chosen
stops While zero x y e p h = cc
stops While (suc n) x y e p h = refl
stops Until zero x y e p h = refl
stops Until (suc n) x y e p h = absurd (false≢true (sym h ∙ ap not (eqb-suc-zero n)))

pub loop_entered : (l : Loop) (last : ℕ) (t : Bool) (b : Place) (body : Rc CommandList Global) (pl : Place) (k k' : Next) (e : Shell) (p : ℕ) → t ≡ goes_on l.kind e.env.status → t ≡ true → body.value ≡ l.body.value → b ≡ deeper pl → k' ≡ continued (continuation.Body pl l) k → entered l last pl k e p ≡ resumed (control.Whole b body) k' Go e p
loop_entered l last t b body pl k k' e p ht h hc hb hk =
    let x : Go_on = λ e. whole l.body.value (deeper pl) e (after_body (loop_of l) pl k) in
    let y : Go_on = λ e. ends Normal last k e in
    turns_is l.kind x y e p ∙ goes l.kind e.env.status x y e p (sym ht ∙ h)
    ∙ ap (λ (c : CommandList). whole c (deeper pl) e (continued (continuation.Body pl l) k) p) (sym hc)
    ∙ ap (λ (b : Place). whole body.value b e (continued (continuation.Body pl l) k) p) (sym hb)
    ∙ ap (λ (k : Next). whole body.value b e k p) (sym hk)

pub loop_over : (l : Loop) (last : ℕ) (t : Bool) (pl : Place) (k : Next) (e : Shell) (p : ℕ) → t ≡ goes_on l.kind e.env.status → t ≡ false → entered l last pl k e p ≡ ends Normal last k e p
loop_over l last t pl k e p ht h =
    let x : Go_on = λ e. whole l.body.value (deeper pl) e (after_body (loop_of l) pl k) in
    let y : Go_on = λ e. ends Normal last k e in
    turns_is l.kind x y e p ∙ stops l.kind e.env.status x y e p (sym ht ∙ h)
