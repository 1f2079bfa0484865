-- One pass over what builtins do: each keeps what is alike in any view, whatever comes after it.
use Rattle.std.proofs.Common.{ℕ, ◌+◌, ◌-◌, ◌≤◌, Bool, true, false, if◌then◌else◌, Option, Some, None, arith}
use Rattle.rk_base.specs.Text.{Text}
use Rattle.rk_base.specs.declared.errno.Errno.TheVariants.{BadRef}
use Rattle.rk_calls.specs.declared.call.Call.{Call}
use Rattle.rk_calls.specs.declared.call.Call.TheVariants.{Write}
use Rattle.rk_calls.specs.declared.answer.Answer.{Answer}
use Rattle.rk_calls.specs.declared.answer.Answer.TheVariants as answer
use Rattle.rk_calls.specs.Proper.{IsProper}
use Rattle.rk_calls.specs.Talk.{Says}
use Rattle.rk_calls.specs.Turns.{turns}
use Rattle.rk_calls.specs.Views.{View, Alike, alike-ask}
use Rattle.sh_vars.specs.declared.env.Env.{Env}
use Rattle.sh_builtin.specs.Action.{Ended, Action, heard, at_slot, ends, asks}
use Rattle.sh_builtin.specs.Telling.{tells}
use Rattle.sh_builtin.specs.Laws.{EndsAlike, BothAlike, IsAlike}

pub lower : (v : View) (p q : ℕ) (k k' : Ended) → q ≤ p → EndsAlike v p k k' → EndsAlike v q k k'
lower v p q k k' le h status env r le' = h status env r (omega arith)

pub alike-ends : (status : ℕ) → IsAlike (ends status)
alike-ends status v p slots k k' env h = h status env p (omega arith)

pub alike-choice : (b : Bool) (x y : Action) → IsAlike x → IsAlike y → IsAlike (if b then x else y)
alike-choice true x y h k = h
alike-choice false x y h k = k

-- by a call on a descriptor, which costs a turn where it is asked
pub alike-at_slot : (v : View) (p : ℕ) (o : Option ℕ) (call : ℕ → Call) (c : ℕ) (n n' : Answer → Env → Says) (env : Env) → ((m : ℕ) → IsProper (call m)) → Alike v p (n (answer.No BadRef) env) (n' (answer.No BadRef) env) → ((a : Answer) → c ≤ p → Alike v (p - c) (n a (heard a env)) (n' a (heard a env))) → Alike v p (at_slot o call c n env) (at_slot o call c n' env)
alike-at_slot v p None call c n n' env proper none some = none
alike-at_slot v p (Some m) call c n n' env proper none some = alike-ask v p (call m) c (λ a. n a (heard a env)) (λ a. n' a (heard a env)) (proper m) (λ le a. some a le)

pub alike-write : (v : View) (p d : ℕ) (bytes : Text) (c : ℕ) (x y : Answer → Action) → ((a : Answer) (q : ℕ) → q ≤ p → BothAlike v q (x a) (y a)) → BothAlike v p (asks (Write d bytes) c x) (asks (Write d bytes) c y)
alike-write v p d bytes c x y h slots k k' env hk =
    alike-at_slot v p (slots d) (λ m. Write m bytes) c (λ a. x a slots k) (λ a. y a slots k') env (λ m. tt) (h (answer.No BadRef) p (omega arith) slots k k' env hk)
    (λ a le. h a (p - c) (omega arith) slots k k' (heard a env) (lower v p (p - c) k k' (omega arith) hk))

pub alike-tells : (line : Text) (status : ℕ) → IsAlike (tells line status)
alike-tells line status v p = alike-write v p 2 line (1 + turns line) (λ a. ends status) (λ a. ends status) (λ a q le. alike-ends status v q)
