-- What the machine of parts says.
use Rattle.std.specs.Prelude.{◌≡◌, ℕ, zero, suc, ◌+◌, ◌<◌, List, [], ◌∷◌, ◌++◌, Option, Some, None, Bool}
use Rattle.rk_calls.specs.declared.call.Call.TheVariants.{Pipe, Read}
use Rattle.rk_calls.specs.declared.answer.Answer.{Answer}
use Rattle.rk_calls.specs.declared.answer.Answer.TheVariants.{Go}
use Rattle.rk_calls.specs.Talk.{ask}
use Rattle.rk_calls.specs.Brought.{brought}
use Rattle.sh_ast.specs.Words.{parts, PartsTree, no_parts, part_and}
use Rattle.sh_vars.specs.declared.env.Env.{Env}
use Rattle.sh_split.specs.Cutting.{Marks}
use Rattle.sh_split.specs.Marked.{given, captured}
use Rattle.sh_expand.specs.declared.machine.Level.{Level}
use Rattle.sh_expand.specs.declared.machine.Frame.{Frame}
use Rattle.sh_expand.specs.declared.machine.Stage.{Stage}
use Rattle.sh_expand.specs.declared.machine.Stage.TheVariants.{Before, Piped, Evaluates, Reads}
use Rattle.sh_expand.specs.declared.machine.Machine.{Machine}
use Rattle.sh_expand.specs.declared.machine.Wants.{Wants}
use Rattle.sh_expand.specs.declared.machine.Wants.TheVariants as wants
use Rattle.sh_expand.specs.declared.acts.Acted.{Acted}
use Rattle.sh_expand.specs.Acting.{then_over, acted_on, acted_size, size}
use Rattle.sh_expand.specs.Expands.{Go_on, Body, Ended, Failed, read_of, counted, performed, manner_of, expand}

-- what is left of parts behind so many
abbrev pub after : ℕ → PartsTree → PartsTree
after zero ps = ps
after (suc n) no_parts = no_parts
after (suc n) (part_and p ps) = after n ps

abbrev pub left_of : Level → PartsTree
left_of l = after l.place (parts l.parts.value)

-- the rest of a word
abbrev pub goes : (ℕ → Body) → Level → Ended → Failed → Ended
goes body l k fail marks e = expand (manner_of body l.inner l.splits) (left_of l) marks k fail e

-- what comes after the word on top of these frames, the outermost first
abbrev pub context : (ℕ → Body) → List Frame → Ended → Failed → Ended
context body [] k fail = k
context body (f ∷ fs) k fail = context body fs (then_over f.then (goes body f.level k fail) fail) fail

-- before the next part
abbrev pub before : (ℕ → Body) → Level → Marks → List Frame → Ended → Failed → Go_on
before body l marks stack k fail e p = goes body l (context body stack k fail) fail marks e p

-- before the next part of this machine
abbrev pub goes_on : (ℕ → Body) → Machine → Ended → Failed → Go_on
goes_on body x k fail e p = before body x.level x.marks.items x.stack.items k fail e p

-- what the pipe gave stands there
abbrev pub put_back : (ℕ → Body) → Bool → Answer → Machine → Ended → Failed → Go_on
put_back body quoted a x k fail e = before body x.level (x.marks.items ++ given quoted (captured (read_of (brought a)))) x.stack.items k fail (performed e)

-- once a body was evaluated: its pipe is read
abbrev pub reads_back : (ℕ → Body) → Bool → ℕ → Machine → Ended → Failed → Go_on
reads_back body quoted from x k fail e = ask (Read from) 1 (λ b. put_back body quoted b x k fail (counted b e))

abbrev pub at_stage : Stage → Machine → Answer → (ℕ → Body) → Ended → Failed → Go_on
at_stage Before x a body k fail e = goes_on body x k fail e
at_stage (Piped n quoted from) x a body k fail e = body n e (reads_back body quoted from x k fail)
at_stage (Evaluates quoted from) x a body k fail e = reads_back body quoted from x k fail e
at_stage (Reads quoted) x a body k fail e = put_back body quoted a x k fail e

abbrev pub says : Machine → Answer → (ℕ → Body) → Ended → Failed → Go_on
says x a body k fail e p = at_stage x.stage x a body k fail e p

-- what it wants, and what it does afterwards
abbrev pub after_wants : Wants → Machine → (ℕ → Body) → Ended → Failed → Go_on
after_wants wants.Pipe x body k fail e p = ask Pipe 2 (λ a. says x a body k fail (counted a e)) p
after_wants (wants.Read from) x body k fail e p = ask (Read from) 1 (λ a. says x a body k fail (counted a e)) p
after_wants (wants.Evaluate n) x body k fail e p = body n e (says x Go body k fail) p
after_wants (wants.Done marks) x body k fail e p = k marks e p
after_wants (wants.Fault parameter message) x body k fail e p = fail parameter message e p

abbrev pub stack_size : List Frame → ℕ
stack_size [] = 0
stack_size (f ∷ fs) = size (left_of f.level) + 1 + stack_size fs

-- how much is left, as a measure
abbrev pub size_of : Machine → ℕ
size_of x = size (left_of x.level) + stack_size x.stack.items

-- it went by, or something is wanted
abbrev pub turned : (ℕ → Body) → Option Wants → Machine → Ended → Failed → Go_on
turned body None x k fail e p = goes_on body x k fail e p
turned body (Some t) x k fail e p = after_wants t x body k fail e p

-- no body is to be evaluated
abbrev pub IsNoBody : Wants → Type 0
IsNoBody wants.Pipe = Unit {0}
IsNoBody (wants.Read from) = Unit {0}
IsNoBody (wants.Evaluate n) = ⊥
IsNoBody (wants.Done marks) = Unit {0}
IsNoBody (wants.Fault parameter message) = Unit {0}

abbrev pub IsSmaller : Option Wants → ℕ → Machine → Type 0
IsSmaller None n x = size_of x < n
IsSmaller (Some t) n x = IsNoBody t

-- after a part has acted
pub record ActedOn (old : Machine) (acted : Acted) (e : Env) (new : Machine) (r : Option Wants) : Type 0 where
  pub smaller : IsSmaller r (size_of old + acted_size acted + 1) new
  pub talk : (body : ℕ → Body) (k : Ended) (fail : Failed) (p : ℕ) → acted_on body acted old.marks.items (goes body old.level (context body old.stack.items k fail) fail) fail e p ≡ turned body r new k fail e p

-- after the last part of a word
pub record EndsAs (old : Machine) (before_e : Env) (new : Machine) (e : Env) (r : Option Wants) : Type 0 where
  pub smaller : IsSmaller r (stack_size old.stack.items) new
  pub talk : (body : ℕ → Body) (k : Ended) (fail : Failed) (p : ℕ) → context body old.stack.items k fail old.marks.items before_e p ≡ turned body r new k fail e p

-- from before a part on
pub record Advances (old : Machine) (before_e : Env) (new : Machine) (e : Env) (r : Option Wants) : Type 0 where
  pub smaller : IsSmaller r (size_of old) new
  pub talk : (body : ℕ → Body) (k : Ended) (fail : Failed) (p : ℕ) → goes_on body old k fail before_e p ≡ turned body r new k fail e p

-- from before a part on to what is wanted
abbrev pub Runs : Machine → Env → Machine → Env → Wants → Type 0
Runs old before_e new e t = (body : ℕ → Body) (k : Ended) (fail : Failed) (p : ℕ) → goes_on body old k fail before_e p ≡ after_wants t new body k fail e p

-- how many bodies are to be evaluated before anything else is wanted: that of a substitution whose pipe was asked
abbrev pub bodies_at : Stage → ℕ
bodies_at Before = 0
bodies_at (Piped n quoted from) = 1
bodies_at (Evaluates quoted from) = 0
bodies_at (Reads quoted) = 0

-- a body is wanted where there is one, and then there is one less
abbrev pub IsDue : ℕ → Wants → ℕ → Type 0
IsDue n wants.Pipe m = Unit {0}
IsDue n (wants.Read from) m = Unit {0}
IsDue n (wants.Evaluate i) m = m < n
IsDue n (wants.Done marks) m = Unit {0}
IsDue n (wants.Fault parameter message) m = Unit {0}
