-- Builtins, as they go on.
use Rattle.std.proofs.Common.{◌≡◌, ℕ, Bool, Option, Some, None, is_some, sym, ap, ◌∙◌}
use Rattle.rk_base.specs.declared.errno.Errno.TheVariants.{BadRef}
use Rattle.rk_calls.specs.Talk.{pay}
use Rattle.rk_calls.specs.declared.answer.Answer.{Answer}
use Rattle.rk_calls.specs.declared.answer.Answer.TheVariants as answer
use Rattle.rk_calls.specs.declared.call.Call.{Call}
use Rattle.rk_calls.specs.declared.turn.Turn as calls
use Rattle.rk_calls.specs.declared.turn.Turn.TheVariants as calling
use Rattle.sh_vars.specs.declared.env.Env.{Env}
use Rattle.sh_redirect.specs.DescriptorTable.{slot}
use Rattle.sh_redirect.specs.declared.descriptors.DescriptorTable.{DescriptorTable}
use Rattle.sh_builtin.specs.declared.builtin.Builtin.{Builtin}
use Rattle.sh_builtin.specs.Action as action
use Rattle.sh_builtin.specs.Stages.{HasOutput, builtin_does}
use Rattle.sh_means.specs.declared.flow.Flow.TheVariants.{Normal}
use Rattle.sh_means.specs.Flows.{Next, asks, ends}
use Rattle.sh_simple.specs.Launching.{through}
use Rattle.sh_means.specs.Stack.{building}
use Rattle.sh_means.specs.State.{Shell, with_env}
use Rattle.sh_simple.proofs.Hearing.{by_call, through_is}

-- what comes after a builtin, from a state
abbrev pub end_of : Next → Shell → action.Ended
end_of k e = λ status env. ends Normal status k (with_env env e)

module _ (k : Next) (b b0 b' : Builtin) (a : Answer) (e : Shell) (env : Env) (t : calls.Turn) (hb : b0 ≡ b) (has_output : Bool) (h : (slots : action.Slots) (x : action.Ended) (p : ℕ) → HasOutput slots has_output → builtin_does b0 a slots x e.env p ≡ action.after slots t (λ a. builtin_does b' a slots x) x env p) (out : HasOutput (slot e.descriptors) has_output) where
  so : (p : ℕ) → building b k a e p ≡ action.after (slot e.descriptors) t (λ a. builtin_does b' a (slot e.descriptors) (end_of k e)) (end_of k e) env p
  so p = ap (λ (b : Builtin). building b k a e p) (sym hb) ∙ h (slot e.descriptors) (end_of k e) p out

  asked : (c : Call) (cost : ℕ) (o : Option Call) (p : ℕ) → t ≡ calling.Ask c cost → o ≡ through c e.descriptors → building b k a e p ≡ by_call o cost (λ a. builtin_does b' a (slot e.descriptors) (end_of k e)) env p
  asked c cost o p is ho =
      so p
      ∙ ap (λ (t : calls.Turn). action.after (slot e.descriptors) t (λ a. builtin_does b' a (slot e.descriptors) (end_of k e)) (end_of k e) env p) is
      ∙ through_is c e.descriptors cost (λ a. builtin_does b' a (slot e.descriptors) (end_of k e)) env p
      ∙ ap (λ (o : Option Call). by_call o cost (λ a. builtin_does b' a (slot e.descriptors) (end_of k e)) env p) (sym ho)

  pub builtin_asks : (c d : Call) (cost : ℕ) (o : Option Call) (p : ℕ) → t ≡ calling.Ask c cost → o ≡ through c e.descriptors → o ≡ Some d → building b k a e p ≡ asks d cost (λ a. building b' k a) (with_env env e) p
  builtin_asks c d cost o p is ho hd = asked c cost o p is ho ∙ ap (λ (o : Option Call). by_call o cost (λ a. builtin_does b' a (slot e.descriptors) (end_of k e)) env p) hd

  pub builtin_lacks : (c : Call) (cost : ℕ) (o : Option Call) (p : ℕ) → t ≡ calling.Ask c cost → o ≡ through c e.descriptors → o ≡ None → building b k a e p ≡ building b' k (answer.No BadRef) (with_env env e) p
  builtin_lacks c cost o p is ho hn = asked c cost o p is ho ∙ ap (λ (o : Option Call). by_call o cost (λ a. builtin_does b' a (slot e.descriptors) (end_of k e)) env p) hn

  pub builtin_pays : (cost : ℕ) (p : ℕ) → t ≡ calling.More cost → building b k a e p ≡ pay cost (building b' k answer.Go (with_env env e)) p
  builtin_pays cost p is = so p ∙ ap (λ (t : calls.Turn). action.after (slot e.descriptors) t (λ a. builtin_does b' a (slot e.descriptors) (end_of k e)) (end_of k e) env p) is

  pub builtin_ends : (status cost : ℕ) (p : ℕ) → t ≡ calling.Exit status cost → building b k a e p ≡ pay cost (ends Normal status k (with_env env e)) p
  builtin_ends status cost p is = so p ∙ ap (λ (t : calls.Turn). action.after (slot e.descriptors) t (λ a. builtin_does b' a (slot e.descriptors) (end_of k e)) (end_of k e) env p) is

-- what the machine is told of its output
pub output_of : (has_output : Bool) (ds now : DescriptorTable) → has_output ≡ is_some (slot now 1) → now ≡ ds → HasOutput (slot ds) has_output
output_of has_output ds now is same = is ∙ ap (λ (d : DescriptorTable). is_some (slot d 1)) same
