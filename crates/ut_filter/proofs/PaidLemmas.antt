-- An output that is paid for by its length.
use Rattle.std.proofs.Common.{◌≡◌, ℕ, ◌+◌, ◌-◌, ◌≤◌, ◌<◌, [], ◌∷◌, length, Bool, false, cond, inl, inr, refl, sym, ap, ◌∙◌, arith}
use Rattle.std.proofs.lemmas.Bool.{le-leb, lt-leb}
use Rattle.std.proofs.lemmas.Bool.Decides.{leb_tells}
use Rattle.std.specs.Int.{div_ceil}
use Rattle.rk_base.specs.Canonical.{is_empty}
use Rattle.rk_base.specs.Text.{Text}
use Rattle.rk_calls.specs.Brought.{brought}
use Rattle.rk_calls.specs.declared.answer.Answer.{Answer}
use Rattle.rk_calls.specs.declared.call.Call.{Call}
use Rattle.rk_calls.specs.declared.call.Call.TheVariants.{Write}
use Rattle.rk_calls.specs.Talk.{Says, Asked, pay, ask}
use Rattle.rk_calls.specs.Turns.{turns}
use Rattle.ut_filter.specs.declared.made.Made.{Made}
use Rattle.ut_filter.specs.Filters.{Job, tells, told, puts, puts_paid}

-- a call that is paid for in part before it is asked
ask-paid : (call : Call) (c p : ℕ) (next : Answer → Says) → ask call (1 + c) next p ≡ pay c (ask call 1 next) p
ask-paid call c p next =
    elim (leb_tells c p) [
      | inl e ↦
          elim (leb_tells 1 (p - c)) [
            | inl f ↦
                let le : c ≤ p = e.1 in
                let more : 1 ≤ p - c = f.1 in
                let m : p - (1 + c) ≡ (p - c) - 1 = omega arith in
                let n : 1 + c ≡ c + 1 = omega arith in
                rw (e.0, f.0, le-leb (1 + c) p (omega arith), m) (ap (λ (k : ℕ). Asked call k (λ a. next a ((p - c) - 1))) n)
            | inr f ↦ let none : p - c < 1 = f.1 in rw (e.0, f.0, lt-leb (1 + c) p (omega arith)) refl
          ]
      | inr e ↦ let lt : p < c = e.1 in rw (e.0, lt-leb (1 + c) p (omega arith)) refl
    ]

some-is-not-empty : (text : Text) → 1 ≤ length text → is_empty text ≡ false
some-is-not-empty [] some = absurd (omega arith)
some-is-not-empty (b ∷ bs) some = refl

-- an output of this length
pub puts-paid : (job : Job) (place : Text) (number : ℕ) (made : Made) (n : ℕ) → n ≡ length made.output → 1 ≤ n → (p : ℕ) → puts job place number made p ≡ pay (div_ceil n 64) (puts_paid job place number made) p
unfolding turns
puts-paid job place number made n e some p =
    let next : Answer → Says = λ a. told job place made.errors made.status (brought a) in
    let there : is_empty made.output ≡ false = some-is-not-empty made.output (omega arith) in
    let cost : turns made.output ≡ div_ceil n 64 = ap (λ (m : ℕ). div_ceil m 64) (sym e) in
    ap (λ (b : Bool). cond b (tells made.errors made.status) (ask (Write number made.output) (1 + turns made.output) next) p) there
    ∙ ask-paid (Write number made.output) (turns made.output) p next
    ∙ ap (λ (c : ℕ). pay c (puts_paid job place number made) p) cost
