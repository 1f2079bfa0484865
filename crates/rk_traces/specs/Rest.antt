-- What is left of a run while commands wait for those that they launched.
use Rattle.std.proofs.Common.{◌≡◌, ℕ, List, [], ◌∷◌, ◌++◌, refl, ap}
use Rattle.rk_calls.specs.declared.call.Call.TheVariants.{Launch}
use Rattle.rk_calls.specs.declared.answer.Answer.{Answer}
use Rattle.rk_calls.specs.Talk.{Says}
use Rattle.rk_calls.specs.Keys.{KeyValue}
use Rattle.rk_calls.specs.Refs.{RefsHeld}
use Rattle.rk_traces.specs.Run.{Environment, Outcome, Spent, and_then, after_launch, run}

-- a command that waits: its place and descriptors, what it launched at which cost, and what it says by the answer
pub record Pending : Type 0 where
  pub place : ℕ
  pub refs : RefsHeld
  pub key : KeyValue
  pub map : List (ℕ × ℕ)
  pub cost : ℕ
  pub wait : Answer → Says

abbrev pub pending : ℕ → RefsHeld → KeyValue → List (ℕ × ℕ) → ℕ → (Answer → Says) → Pending
pending place refs key map c wait = record { place = place; refs = refs; key = key; map = map; cost = c; wait = wait }

-- how it ends for the waiting command, when the launched one has ended so
abbrev pub resumed : {W : Type 0} → Environment W → Pending → Outcome W → Outcome W
resumed g f o = and_then o (after_launch (run g) f.place f.refs f.wait f.cost (Launch f.key f.map))

-- the same for a stack of them, of which the last was launched last
abbrev pub rest : {W : Type 0} → Environment W → List Pending → Outcome W → Outcome W
rest g [] o = o
rest g (f ∷ fs) o = resumed g f (rest g fs o)

-- the command that was launched last goes on first
pub rest-push : {W : Type 0} (g : Environment W) (fs : List Pending) (f : Pending) (o : Outcome W) → rest g (fs ++ f ∷ []) o ≡ rest g fs (resumed g f o)
rest-push g [] f o = refl
rest-push g (x ∷ fs) f o = ap (resumed g x) (rest-push g fs f o)

pub rest-spent : {W : Type 0} (g : Environment W) (fs : List Pending) → rest g fs (let o : Outcome W = Spent in o) ≡ Spent
rest-spent g [] = refl
rest-spent g (x ∷ fs) = ap (resumed g x) (rest-spent g fs)
