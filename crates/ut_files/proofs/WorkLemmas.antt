-- One step of a work, by what stands first in what is left.
use Rattle.std.proofs.Common.{◌≡◌, ℕ, ◌+◌, Bool, true, false, List, [], ◌∷◌, sym, ap, ◌∙◌}
use Rattle.std.specs.Prelude.{IfOk, Result, Ok, Err}
use Rattle.rk_base.specs.declared.memory.NoMemory.{NoMemory}
use Rattle.rk_calls.specs.declared.answer.Answer.{Answer}
use Rattle.rk_calls.specs.declared.answer.Answer.TheVariants.{Go}
use Rattle.rk_calls.specs.declared.turn.Turn.{Turn}
use Rattle.rk_base.specs.Text.{Text}
use Rattle.rk_calls.specs.declared.call.Call.{Call}
use Rattle.rk_calls.specs.declared.call.Call.TheVariants.{Write}
use Rattle.rk_calls.specs.Talk.{Says, ask, exits, after}
use Rattle.rk_calls.specs.Turns.{turns}
use Rattle.ut_files.specs.declared.manner.Manner.{Manner}
use Rattle.ut_files.specs.declared.step.WorkItem.{WorkItem}
use Rattle.ut_files.specs.declared.step.WorkItem.TheVariants.{Tell, Do}
use Rattle.ut_files.specs.declared.worker.Worker.{Worker}
use Rattle.ut_files.specs.Works.{Rules, Work, works, works-is, steps, cost, status, answered}
use Rattle.ut_files.specs.Working.{work_of, worker_talk}

pub work-ends : {T : Type 0} (rules : Rules T) (failed : Bool) (left : List (WorkItem T)) (n : ℕ) → left ≡ [] → n ≡ status failed → (next p : ℕ) → works rules (work_of failed next left) p ≡ exits n 0 p
work-ends rules failed left n e k next p =
    works-is rules (work_of failed next left) p ∙ (ap (λ l. steps rules (works rules) (work_of failed next left) l p) e ∙ ap (λ s. exits s 0 p) (sym k))

pub work-tells : {T : Type 0} (rules : Rules T) (failed : Bool) (left rest : List (WorkItem T)) (step : WorkItem T) (line : Text) (n : ℕ) → left ≡ step ∷ rest → step ≡ Tell line → n ≡ turns line → (next p : ℕ) → works rules (work_of failed next left) p ≡ ask (Write 2 line) (1 + n) (λ a. works rules (work_of true next rest)) p
work-tells rules failed left rest step line n e is k next p =
    works-is rules (work_of failed next left) p
    ∙ (ap (λ l. steps rules (works rules) (work_of failed next left) l p) (e ∙ ap (λ s. s ∷ rest) is) ∙ ap (λ m. ask (Write 2 line) (1 + m) (λ a. works rules (work_of true next rest)) p) (sym k))

pub work-asks : {T : Type 0} (rules : Rules T) (failed : Bool) (left rest : List (WorkItem T)) (step : WorkItem T) (task : T) (call : Call) (n : ℕ) → left ≡ step ∷ rest → step ≡ Do task → call ≡ rules.asks task → n ≡ cost call → (next p : ℕ) → works rules (work_of failed next left) p ≡ ask call n (λ a. works rules (answered rules task a (work_of failed next rest))) p
work-asks rules failed left rest step task call n e is said k next p =
    works-is rules (work_of failed next left) p
    ∙ (ap (λ l. steps rules (works rules) (work_of failed next left) l p) (e ∙ ap (λ s. s ∷ rest) is)
    ∙ (ap (λ c. ask c (cost c) (λ a. works rules (answered rules task a (work_of failed next rest))) p) (sym said) ∙ ap (λ m. ask call m (λ a. works rules (answered rules task a (work_of failed next rest))) p) (sym k)))

-- A turn that comes of what was settled, whatever the next number is.
pub resumed : {T : Type 0} (rules : Rules T) (before : Work T) (failed : Bool) (next : ℕ) (left : List (WorkItem T)) (talk : ℕ → Answer → Says) (r : Result Turn NoMemory) → before ≡ work_of failed next left → IfOk r (λ turn. (n p : ℕ) → works rules (work_of failed n left) p ≡ after turn (talk n) p) → IfOk r (λ turn. (p : ℕ) → works rules before p ≡ after turn (talk next) p)
resumed rules before failed next left talk (Ok turn) e h = λ p. ap (λ w. works rules w p) e ∙ h next p
resumed rules before failed next left talk (Err want) e h = tt

-- What a new worker says, by its manner and its steps.
pub newly : {T : Type 0} (rules : Manner → Rules T) (r : Result (Worker T) NoMemory) (m m' : Manner) (first first' : List (WorkItem T)) → m ≡ m' → first ≡ first' → IfOk r (λ w. worker_talk rules w Go ≡ works (rules m) (work_of false 10 first)) → IfOk r (λ w. worker_talk rules w Go ≡ works (rules m') (work_of false 10 first'))
newly rules (Ok w) m m' first first' e k h = h ∙ (ap (λ n. works (rules n) (work_of false 10 first)) e ∙ ap (λ s. works (rules m') (work_of false 10 s)) k)
newly rules (Err want) m m' first first' e k h = tt

-- The same where options and operands are.
pub of_parts : {W A B : Type 0} (r : Result W NoMemory) (talk : W → Says) (says : A → B → Says) (a a' : A) (b b' : B) → a ≡ a' → b ≡ b' → IfOk r (λ w. talk w ≡ says a b) → IfOk r (λ w. talk w ≡ says a' b')
of_parts (Ok w) talk says a a' b b' e k h = h ∙ (ap (λ x. says x b) e ∙ ap (says a') k)
of_parts (Err want) talk says a a' b b' e k h = tt
