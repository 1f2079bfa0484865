-- Local numbers are counted in one way.
use Rattle.std.proofs.Common.{◌≡◌, ℕ, Option, Some, None, option_map, refl, sym, ap}
use Rattle.rk_base.specs.declared.errno.Errno.TheVariants.{BadRef}
use Rattle.rk_calls.specs.Talk.{Says, ask}
use Rattle.rk_calls.specs.declared.answer.Answer.{Answer}
use Rattle.rk_calls.specs.declared.answer.Answer.TheVariants as answer
use Rattle.rk_calls.specs.declared.call.Call.{Call}
use Rattle.rk_calls.specs.declared.call.Call.TheVariants as call
use Rattle.sh_vars.specs.declared.env.Env.{Env}
use Rattle.sh_expand.specs.Told.{numbered}
use Rattle.sh_expand.specs.Expands.{counted}
use Rattle.sh_redirect.specs.declared.descriptors.DescriptorTable.{DescriptorTable}
use Rattle.sh_redirect.specs.DescriptorTable.{slot}
use Rattle.sh_builtin.specs.Action as builtin
use Rattle.sh_simple.specs.Launching.{through}

numbered_builtin : (a : Answer) (n : ℕ) → numbered a n ≡ builtin.numbered a n
numbered_builtin answer.Go n = refl
numbered_builtin answer.Done n = refl
numbered_builtin answer.Opened n = refl
numbered_builtin answer.Piped n = refl
numbered_builtin (answer.Content bytes) n = refl
numbered_builtin (answer.Stat kind mode empty) n = refl
numbered_builtin (answer.Names names) n = refl
numbered_builtin (answer.Text text) n = refl
numbered_builtin (answer.Place path) n = refl
numbered_builtin (answer.Same same) n = refl
numbered_builtin (answer.Joined status) n = refl
numbered_builtin (answer.No errno) n = refl

pub builtin_heard : (a : Answer) (env : Env) → builtin.heard a env ≡ counted a env
builtin_heard a env = ap (λ (n : ℕ). record env { next = n }) (sym (numbered_builtin a env.next))

-- A call of a builtin, by the map of descriptors.

abbrev pub by_call : Option Call → ℕ → (Answer → Env → Says) → Env → Says
by_call None cost next env = next (answer.No BadRef) env
by_call (Some c) cost next env = ask c cost (λ a. next a (counted a env))

all_heard : (λ (a : Answer) (env : Env). builtin.heard a env) ≡ counted
all_heard = λ i a env. builtin_heard a env i

asked : (c : Call) (cost : ℕ) (next : Answer → Env → Says) (env : Env) (p : ℕ) → ask c cost (λ a. next a (builtin.heard a env)) p ≡ ask c cost (λ a. next a (counted a env)) p
asked c cost next env p = ap (λ (h : Answer → Env → Env). ask c cost (λ a. next a (h a env)) p) all_heard

slotted : (o : Option ℕ) (f : ℕ → Call) (cost : ℕ) (next : Answer → Env → Says) (env : Env) (p : ℕ) → builtin.at_slot o f cost next env p ≡ by_call (option_map f o) cost next env p
slotted None f cost next env p = refl
slotted (Some n) f cost next env p = asked (f n) cost next env p

pub through_is : (c : Call) (ds : DescriptorTable) (cost : ℕ) (next : Answer → Env → Says) (env : Env) (p : ℕ) → builtin.through (slot ds) c cost next env p ≡ by_call (through c ds) cost next env p
through_is (call.Open path how) ds cost next env p = asked (call.Open path how) cost next env p
through_is (call.Read n) ds cost next env p = asked (call.Read n) cost next env p
through_is (call.ReadLine n) ds cost next env p = slotted (slot ds n) (λ m. call.ReadLine m) cost next env p
through_is (call.Write n bytes) ds cost next env p = slotted (slot ds n) (λ m. call.Write m bytes) cost next env p
through_is (call.Stat path follow) ds cost next env p = asked (call.Stat path follow) cost next env p
through_is (call.List path) ds cost next env p = asked (call.List path) cost next env p
through_is (call.ReadLink path) ds cost next env p = asked (call.ReadLink path) cost next env p
through_is (call.Walk path) ds cost next env p = asked (call.Walk path) cost next env p
through_is (call.Same a b) ds cost next env p = asked (call.Same a b) cost next env p
through_is (call.Mkdir path mode) ds cost next env p = asked (call.Mkdir path mode) cost next env p
through_is (call.Rmdir path) ds cost next env p = asked (call.Rmdir path) cost next env p
through_is (call.Unlink path) ds cost next env p = asked (call.Unlink path) cost next env p
through_is (call.Rename a b) ds cost next env p = asked (call.Rename a b) cost next env p
through_is (call.Symlink text path) ds cost next env p = asked (call.Symlink text path) cost next env p
through_is (call.Link a b) ds cost next env p = asked (call.Link a b) cost next env p
through_is (call.Chmod path mode) ds cost next env p = asked (call.Chmod path mode) cost next env p
through_is call.Pipe ds cost next env p = asked call.Pipe cost next env p
through_is (call.Launch key refs) ds cost next env p = asked (call.Launch key refs) cost next env p
