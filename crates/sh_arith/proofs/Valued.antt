-- No evaluation ends in a fault of reading, so the value of a text is that of its expression.
use Rattle.std.proofs.Common.{◌≡◌, List, [], ◌∷◌, ◌∙◌, subst}
use Rattle.std.specs.Prelude.{ℕ, ℤ, pos, Bool, true, false, not, Option, Some, None, Ok, Err, if◌then◌else◌}
use Rattle.rk_base.specs.Text.{Text}
use Rattle.sh_arith.specs.declared.error.ArithErr.TheVariants as err
use Rattle.sh_arith.specs.declared.operator.Operator.{Operator}
use Rattle.sh_arith.specs.declared.operator.Operator.TheVariants as operator
use Rattle.sh_arith.specs.declared.operator.Sign.{Sign}
use Rattle.sh_arith.specs.declared.operator.Sign.TheVariants as sign
use Rattle.sh_arith.specs.declared.step.Instruction.{Instruction}
use Rattle.sh_arith.specs.Constants.{number, fitted, number_worth, name_worth}
use Rattle.sh_arith.specs.Environment.{Environment, value_in, is_readonly, assigned}
use Rattle.sh_arith.specs.Expression.{Expression, Constant, Name, Group, Signed, Applied, Both, Either, Choice, Assignment}
use Rattle.sh_arith.specs.Grammar.{Is}
use Rattle.sh_arith.specs.Meaning.{Ends, Next, ends, on_with, stores, means, value_of}
use Rattle.sh_arith.specs.Operators.{Worth, or_overflow, is_zero, truth, left_by, right_by, shift_count, applied, signed}
use Rattle.sh_arith.specs.Steps.{steps, Ended}
use Rattle.sh_arith.specs.Told.{Valued}

-- no fault of reading
abbrev IsRead : Worth → Type 0
IsRead (Err (err.Syntax at)) = ⊥
IsRead w = Unit {0}

overflow_read : (n : Option ℤ) → IsRead (or_overflow n)
overflow_read None = tt
overflow_read (Some z) = tt

chosen_read : (b : Bool) (w v : Worth) → IsRead w → IsRead v → IsRead (if b then w else v)
chosen_read true w v p q = p
chosen_read false w v p q = q

left_read : (a : ℤ) (k : Option ℕ) → IsRead (left_by a k)
left_read a None = tt
left_read a (Some k) = overflow_read _

right_read : (a : ℤ) (k : Option ℕ) → IsRead (right_by a k)
right_read a None = tt
right_read a (Some k) = tt

applied_read : (o : Operator) (a b : ℤ) → IsRead (applied o a b)
applied_read operator.Times a b = overflow_read _
applied_read operator.Over a b = chosen_read (is_zero b) _ _ tt (overflow_read _)
applied_read operator.Remainder a b = chosen_read (is_zero b) _ _ tt (overflow_read _)
applied_read operator.Plus a b = overflow_read _
applied_read operator.Minus a b = overflow_read _
applied_read operator.ShiftLeft a b = left_read a (shift_count b)
applied_read operator.ShiftRight a b = right_read a (shift_count b)
applied_read operator.Less a b = tt
applied_read operator.AtMost a b = tt
applied_read operator.Greater a b = tt
applied_read operator.AtLeast a b = tt
applied_read operator.Equal a b = tt
applied_read operator.Differs a b = tt
applied_read operator.And a b = tt
applied_read operator.ExclusiveOr a b = tt
applied_read operator.Or a b = tt

signed_read : (s : Sign) (a : ℤ) → IsRead (signed s a)
signed_read sign.Plus a = tt
signed_read sign.Minus a = overflow_read _
signed_read sign.Complement a = tt
signed_read sign.Not a = tt

number_read : (x : Text) (n : Option (Option ℤ)) → IsRead (number_worth x n)
number_read x None = tt
number_read x (Some z) = overflow_read z

name_read : (u : Bool) (x : Text) (value : Option Text) → IsRead (name_worth u x value)
name_read u x None = chosen_read u _ _ tt tt
name_read u x (Some []) = tt
name_read u x (Some (b ∷ bs)) = number_read x (fitted (number (b ∷ bs)))

-- whatever comes next is none
abbrev AreRead : {S : Type 0} → Next S → Type 0
AreRead {S = S} next = (v : ℤ) (e : Environment S) → IsRead (next v e).worth

with_read : {S : Type 0} (w : Worth) (next : Next S) (e : Environment S) → IsRead w → AreRead next → IsRead (on_with w next e).worth
with_read (Ok v) next e p h = h v e
with_read (Err fault) next e p h = p

stores_read : {S : Type 0} (x : Text) (v : ℤ) (next : Next S) (e : Environment S) → AreRead next → IsRead (stores x v next e).worth
stores_read x v next e h = elim (is_readonly e x) as (λ b. IsRead (if b then ends (Err (err.Readonly x)) e else next v (assigned x v e)).worth) [
  | true ↦ tt
  | false ↦ h v (assigned x v e)
]

means_read : {S : Type 0} (x : Expression) (u : Bool) (next : Next S) (e : Environment S) → AreRead next → IsRead (means u x next e).worth
unfolding means
means_read (Constant n) u next e h = with_read (or_overflow n) next e (overflow_read n) h
means_read (Name x) u next e h = with_read (name_worth u x (value_in e x)) next e (name_read u x (value_in e x)) h
means_read (Group a) u next e h = means_read a u next e h
means_read (Signed s a) u next e h = means_read a u (λ v. on_with (signed s v) next) e (λ v e'. with_read (signed s v) next e' (signed_read s v) h)
means_read (Applied o a b) u next e h =
    means_read a u (λ v. means u b (λ w. on_with (applied o v w) next)) e (λ v e'. means_read b u (λ w. on_with (applied o v w) next) e' (λ w e''. with_read (applied o v w) next e'' (applied_read o v w) h))
means_read {S = S} (Both a b) u next e h =
    let other : Environment S → Ends S = means u b (λ w. next (truth (not (is_zero w)))) in
    means_read a u (λ v e'. if is_zero v then next (pos 0) e' else other e') e (λ v e'. elim (is_zero v) as (λ t. IsRead (if t then next (pos 0) e' else other e').worth) [
      | true ↦ h (pos 0) e'
      | false ↦ means_read b u (λ w. next (truth (not (is_zero w)))) e' (λ w e''. h (truth (not (is_zero w))) e'')
    ])
means_read {S = S} (Either a b) u next e h =
    let other : Environment S → Ends S = means u b (λ w. next (truth (not (is_zero w)))) in
    means_read a u (λ v e'. if is_zero v then other e' else next (pos 1) e') e (λ v e'. elim (is_zero v) as (λ t. IsRead (if t then other e' else next (pos 1) e').worth) [
      | true ↦ means_read b u (λ w. next (truth (not (is_zero w)))) e' (λ w e''. h (truth (not (is_zero w))) e'')
      | false ↦ h (pos 1) e'
    ])
means_read (Choice c a b) u next e h =
    means_read c u (λ v e'. if is_zero v then means u b next e' else means u a next e') e (λ v e'. elim (is_zero v) as (λ t. IsRead (if t then means u b next e' else means u a next e').worth) [
      | true ↦ means_read b u next e' h
      | false ↦ means_read a u next e' h
    ])
means_read (Assignment n x None a) u next e h = means_read a u (λ v. stores x v next) e (λ v e'. stores_read x v next e' h)
means_read (Assignment n x (Some o) a) u next e h =
    with_read (name_worth u x (value_in e x)) (λ old. means u a (λ v. on_with (applied o old v) (λ w. stores x w next))) e (name_read u x (value_in e x)) (λ old e'. means_read a u (λ v. on_with (applied o old v) (λ w. stores x w next)) e' (λ v e''. with_read (applied o old v) (λ w. stores x w next) e'' (applied_read o old v) (λ w e'''. stores_read x w next e''' h)))

value_read : {S : Type 0} (u : Bool) (x : Expression) (e : Environment S) → IsRead (value_of u x e).worth
unfolding value_of
value_read u x e = means_read x u (λ v. ends (Ok v)) e (λ v e'. tt)

ended_valued : {S : Type 0} (u : Bool) (text : Text) (x : Expression) (old new : Environment S) (r : Worth) → Is text x → Ended r new (value_of u x old) → Valued u text old r new
ended_valued u text x old new (Ok v) is h = (x, is, h)
ended_valued {S = S} u text x old new (Err (err.Syntax at)) is h = absurd (subst (λ (end : Ends S). IsRead end.worth) h (value_read u x old))
ended_valued u text x old new (Err err.Overflow) is h = (x, is, h)
ended_valued u text x old new (Err err.ZeroDivisor) is h = (x, is, h)
ended_valued u text x old new (Err (err.Name y)) is h = (x, is, h)
ended_valued u text x old new (Err (err.Unset y)) is h = (x, is, h)
ended_valued u text x old new (Err (err.Readonly y)) is h = (x, is, h)
ended_valued u text x old new (Err err.NoMemory) is h = tt

pub valued : {S : Type 0} (u : Bool) (text : Text) (ss items : List Instruction) (old new : Environment S) (r : Worth) → ss ≡ items → (x : Expression) × Is text x × (items ≡ steps x []) → ((x : Expression) → ss ≡ steps x [] → Ended r new (value_of u x old)) → Valued u text old r new
valued u text ss items old new r e h k = ended_valued u text h.0 old new r h.1 (k h.0 (e ∙ h.2))
