-- An output that is paid by its length before it is made, where the map has a descriptor for it.
use Rattle.std.proofs.Common.{◌≡◌, ℕ, ◌+◌, [], ◌∷◌, length, true, Option, Some, None, is_some, sym, ap, ◌∙◌, arith}
use Rattle.std.proofs.lemmas.Bool.{false≢true}
use Rattle.std.specs.Int.{div_ceil}
use Rattle.rk_base.specs.Text.{Text}
use Rattle.rk_calls.specs.declared.answer.Answer.{Answer}
use Rattle.rk_calls.specs.declared.call.Call.{Call}
use Rattle.rk_calls.specs.declared.call.Call.TheVariants.{Write}
use Rattle.rk_calls.specs.Brought.{brought}
use Rattle.rk_calls.specs.Talk.{Says, pay}
use Rattle.rk_calls.specs.Turns.{turns}
use Rattle.rk_calls.proofs.Paying.{pay-ask_at}
use Rattle.sh_vars.specs.declared.env.Env.{Env}
use Rattle.sh_builtin.specs.declared.name.Name.TheVariants.{Printf}
use Rattle.sh_builtin.specs.Action.{Slots, Ended, at_slot, heard}
use Rattle.sh_builtin.specs.Prints.{writes_made}
use Rattle.sh_builtin.specs.Telling.{puts, written}

-- where the map has the descriptor, what a call costs may be paid before it
paid_before : (o : Option ℕ) (call : ℕ → Call) (c d : ℕ) (next : Answer → Env → Says) (env : Env) (p : ℕ) → true ≡ is_some o → pay c (at_slot o call d next env) p ≡ at_slot o call (c + d) next env p
paid_before None call c d next env p is = absurd (false≢true (sym is))
paid_before (Some n) call c d next env p is = pay-ask_at c d (call n) (λ a. next a (heard a env)) p

module _ (status : ℕ) (slots : Slots) (k : Ended) (env : Env) (p : ℕ) where
  abbrev then : Answer → Env → Says
  then a = written Printf status (brought a) slots k

  pub made_paid : (output : Text) (n : ℕ) → n ≡ length output → (n ≡ 0 → ⊥) → true ≡ is_some (slots 1) → puts Printf output status slots k env p ≡ pay (div_ceil n 64) (writes_made output status slots k env) p
  unfolding turns
  made_paid [] n e some is = absurd (some e)
  made_paid (b ∷ bs) n e some is =
      let cost : 1 + turns (b ∷ bs) ≡ div_ceil n 64 + 1 = ap (λ (m : ℕ). 1 + div_ceil m 64) (sym e) ∙ omega arith in
      ap (λ (m : ℕ). at_slot (slots 1) (λ d. Write d (b ∷ bs)) m then env p) cost
      ∙ sym (paid_before (slots 1) (λ d. Write d (b ∷ bs)) (div_ceil n 64) 1 then env p is)
