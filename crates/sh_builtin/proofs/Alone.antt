-- A builtin as a command by itself.
use Rattle.std.proofs.Common.{◌≡◌, ℕ, Some, ◌-◌, refl, add-zero, arith, inl, inr}
use Rattle.std.proofs.lemmas.Bool.{le-leb}
use Rattle.std.proofs.lemmas.Bool.Decides.{leb_tells}
use Rattle.rk_calls.specs.declared.answer.Answer.{Answer}
use Rattle.rk_calls.specs.declared.call.Call.{Call}
use Rattle.rk_calls.specs.declared.call.Call.TheVariants as call
use Rattle.rk_calls.specs.declared.turn.Turn.{Turn}
use Rattle.rk_calls.specs.declared.turn.Turn.TheVariants.{Ask, More, Exit}
use Rattle.rk_calls.specs.Talk.{Says, pay, ask, exits, after as said}
use Rattle.sh_vars.specs.declared.env.Env.{Env}
use Rattle.sh_builtin.specs.Commands.{alone}
use Rattle.sh_builtin.specs.Action.{Action, heard, through, after}

-- each call is asked of the descriptor that it names
through_own : (c : Call) (cost : ℕ) (next : Answer → Env → Says) (env : Env) (p : ℕ) → through (λ d. Some d) c cost next env p ≡ ask c cost (λ a. next a (heard a env)) p
through_own (call.Open path how) cost next env p = refl
through_own (call.Read r) cost next env p = refl
through_own (call.ReadLine r) cost next env p = refl
through_own (call.Write r bytes) cost next env p = refl
through_own (call.Stat path follow) cost next env p = refl
through_own (call.List path) cost next env p = refl
through_own (call.ReadLink path) cost next env p = refl
through_own (call.Walk path) cost next env p = refl
through_own (call.Same a b) cost next env p = refl
through_own (call.Mkdir path mode) cost next env p = refl
through_own (call.Rmdir path) cost next env p = refl
through_own (call.Unlink path) cost next env p = refl
through_own (call.Rename a b) cost next env p = refl
through_own (call.Symlink text path) cost next env p = refl
through_own (call.Link a b) cost next env p = refl
through_own (call.Chmod path mode) cost next env p = refl
through_own call.Pipe cost next env p = refl
through_own (call.Launch key map) cost next env p = refl

exits_paid : (status c p : ℕ) → pay c (exits status 0) p ≡ exits status c p
exits_paid status c p =
    elim (leb_tells c p) [
      | inl e ↦ rw (e.0, le-leb 0 (p - c) (omega arith), add-zero) refl
      | inr e ↦ rw e.0 refl
    ]

pub alone_after : (t : Turn) (next : Answer → Action) (env : Env) (p : ℕ) → after (λ d. Some d) t (λ a. next a (λ d. Some d) (λ status env. exits status 0)) (λ status env. exits status 0) env p ≡ said t (λ a. alone (next a) (heard a env)) p
alone_after (Ask c cost) next env p = through_own c cost (λ a. next a (λ d. Some d) (λ status env. exits status 0)) env p
alone_after (More c) next env p = refl
alone_after (Exit status c) next env p = exits_paid status c p
