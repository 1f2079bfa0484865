-- Calls on descriptors that the map lacks, which leave fewer to come.
use Rattle.std.proofs.Common.{◌≡◌, ◌<◌, ◌≤◌, ℕ, Result, Ok, Err, IfOk, sym, ap, subst, ◌∙◌, arith}
use Rattle.rk_base.specs.Text.{Text}
use Rattle.rk_base.specs.declared.errno.Errno.{Errno}
use Rattle.rk_base.specs.declared.errno.Errno.TheVariants.{BadRef}
use Rattle.rk_calls.specs.Brought.{brought}
use Rattle.rk_calls.specs.declared.answer.Answer.{Answer}
use Rattle.rk_calls.specs.declared.answer.Answer.TheVariants.{No}
use Rattle.rk_calls.specs.declared.turn.Turn.{Turn}
use Rattle.rk_calls.specs.declared.turn.Turn.TheVariants.{Ask, More, Exit}
use Rattle.sh_builtin.specs.declared.stage.Move.{Move}
use Rattle.sh_builtin.specs.declared.stage.Progress.{Progress}
use Rattle.sh_builtin.specs.Refused.{HasBegunAt, IsFewer, IsLast, refusals, refusals_at}

fewer_turn : (t : Turn) (n m : ℕ) → m < n → IsFewer n t m
fewer_turn (Ask call cost) n m h = h
fewer_turn (More cost) n m h = tt
fewer_turn (Exit status cost) n m h = tt

-- after the last call
pub last_fewer : (move : Move) (n : ℕ) → IsLast move → 0 < n → IsFewer n move.turn (refusals move.stage)
last_fewer move n h some = fewer_turn move.turn n (refusals move.stage) (omega arith)

pub last_refused : {E : Type 0} (r : Result Move E) (a : Answer) (n : ℕ) → IfOk r IsLast → 0 < n → IfOk r (λ move. a ≡ No BadRef → IsFewer n move.turn (refusals move.stage))
last_refused (Ok move) a n h some = λ is. last_fewer move n h some
last_refused (Err e) a n h some = tt

pub last_read : {E : Type 0} (r : Result Move E) (a : Answer) (n : ℕ) → IfOk r (λ move. a ≡ No BadRef → IsLast move) → 0 < n → IfOk r (λ move. a ≡ No BadRef → IsFewer n move.turn (refusals move.stage))
last_read (Ok move) a n h some = λ is. last_fewer move n (h is) some
last_read (Err e) a n h some = tt

pub fewer_refused : {E : Type 0} (r : Result Move E) (a : Answer) (n n' : ℕ) → IfOk r (λ move. IsFewer n' move.turn (refusals move.stage)) → n ≡ n' → IfOk r (λ move. a ≡ No BadRef → IsFewer n move.turn (refusals move.stage))
fewer_refused (Ok move) a n n' h same = λ is. subst (λ (n : ℕ). IsFewer n move.turn (refusals move.stage)) (sym same) h
fewer_refused (Err e) a n n' h same = tt

more_left : (t : Turn) (n n' m : ℕ) → n ≤ n' → IsFewer n t m → IsFewer n' t m
more_left (Ask call cost) n n' m le h = omega arith
more_left (More cost) n n' m le h = tt
more_left (Exit status cost) n n' m le h = tt

-- fewer than these, so than more
pub fewer_left : {E : Type 0} (r : Result Move E) (n n' : ℕ) → n ≤ n' → IfOk r (λ move. IsFewer n move.turn (refusals move.stage)) → IfOk r (λ move. IsFewer n' move.turn (refusals move.stage))
fewer_left (Ok move) n n' le h = more_left move.turn n n' (refusals move.stage) le h
fewer_left (Err e) n n' le h = tt

-- a refusal brings no line
pub last_told : {E : Type 0} (r : Result Move E) (a : Answer) → IfOk r IsLast → IfOk r (λ move. a ≡ No BadRef → IsLast move)
last_told (Ok move) a h = λ is. h
last_told (Err e) a h = tt

nothing_brought : (a : Answer) (it : Result Text Errno) (text : Text) → it ≡ brought a → it ≡ Ok text → a ≡ No BadRef → ⊥
nothing_brought a it text h ok is = let both : it ≡ Err BadRef = h ∙ ap brought is in cc

pub line_brought : {E : Type 0} (r : Result Move E) (a : Answer) (it : Result Text Errno) (text : Text) → it ≡ brought a → it ≡ Ok text → IfOk r (λ move. a ≡ No BadRef → IsLast move)
line_brought (Ok move) a it text h ok = λ is. absurd (nothing_brought a it text h ok is)
line_brought (Err e) a it text h ok = tt

-- before and after the first turn
pub not_begun : {E : Type 0} (r : Result Move E) (a : Answer) (x : Progress) → (HasBegunAt x → ⊥) → IfOk r (λ move. a ≡ No BadRef → HasBegunAt x → IsFewer (refusals_at x) move.turn (refusals move.stage))
not_begun (Ok move) a x never = λ is begun. absurd (never begun)
not_begun (Err e) a x never = tt

pub begun_refused : {E : Type 0} (r : Result Move E) (a : Answer) (x : Progress) (n : ℕ) → IfOk r (λ move. a ≡ No BadRef → IsFewer n move.turn (refusals move.stage)) → refusals_at x ≡ n → IfOk r (λ move. a ≡ No BadRef → HasBegunAt x → IsFewer (refusals_at x) move.turn (refusals move.stage))
begun_refused (Ok move) a x n h same = λ is begun. subst (λ (n : ℕ). IsFewer n move.turn (refusals move.stage)) (sym same) (h is)
begun_refused (Err e) a x n h same = tt
