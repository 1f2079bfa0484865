-- What is told of a record, as what is told of its table.
use Rattle.std.proofs.Common.{◌≡◌, ℕ, suc, ◌+◌, ◌<◌, List, length, Err, refl, ◌∙◌, ap, arith, inl, inr}
use Rattle.rk_calls.specs.Starts.{one_more}
use Rattle.rk_calls.specs.Talk.{Says}
use Rattle.rk_calls.specs.Keys.{KeyValue}
use Rattle.tr_record.specs.declared.records.Record.{Record}
use Rattle.tr_record.specs.Rec.{rec_at}
use Rattle.rk_traces.specs.Following.{never-wrong}
use Rattle.rk_traces.specs.Spoken.{IsSpoken, AreSpoken}
use Rattle.rk_traces.specs.declared.feeding.FeedErr.{FeedErr}
use Rattle.rk_traces.specs.declared.feeding.FeedErr.TheVariants.{Forged as ForgedStep, NoMemory as NoRoom}
use Rattle.rk_traces.specs.declared.check.CheckErr.TheVariants.{NoMemory}
use Rattle.rk_traces.specs.Checked.{IsWrong, IsFirstWrong, IsTold, at_record, TellsForged}
use Rattle.rk_traces.specs.CheckLaws.{one-first_wrong}
use Rattle.rk_traces.specs.Started.{started, StartsOne, StartsEach}

module _ (first : KeyValue → Says) (table : List Record) (i : ℕ) (h : i < length table) (before : (k : ℕ) → k < i → IsSpoken first (rec_at k table)) where
  pub told : (e : FeedErr) → IsWrong first (rec_at i table) e → IsTold first table (at_record i e)
  told (ForgedStep step) w = record { here = h; wrong = w; before = before }
  told NoRoom w = tt

  pub complete : (e : FeedErr) → IsWrong first (rec_at i table) e → AreSpoken first table → at_record i e ≡ NoMemory
  complete (ForgedStep step) w s = absurd (never-wrong first (rec_at i table) step (s i h) w)
  complete NoRoom w s = refl

  pub forged : (T : Type 0) (e : FeedErr) → IsWrong first (rec_at i table) e → (rec step : ℕ) → IsFirstWrong first table rec step → TellsForged {T = T} rec step (Err (at_record i e))
  forged T (ForgedStep step') w rec step f = one-first_wrong first table i step' rec step (record { here = h; wrong = w; before = before }) f
  forged T NoRoom w rec step f = tt

pub never-first_wrong : (first : KeyValue → Says) (table : List Record) (rec step : ℕ) → AreSpoken first table → IsFirstWrong first table rec step → ⊥
never-first_wrong first table rec step s f = never-wrong first (rec_at rec table) step (s rec f.here) f.wrong

-- the count of starts after one record more
pub starts : (T : Type 0) (many i before then now : ℕ) (e : FeedErr) → i < many → then ≡ started i before → StartsOne {T = T} then now (Err e) → StartsEach {T = T} many before now (Err (at_record i e))
starts T many i before then now (ForgedStep step) h es s =
    let z : suc i ≡ i + 1 = omega arith in
    s ∙ ap one_more es ∙ ap (λ k. started k before) z
starts T many i before then now NoRoom h es s =
    elim s [
      | inl e ↦ record { many = i; few = omega arith; now_is = e ∙ es }
      | inr e ↦ record { many = suc i; few = omega arith; now_is = e ∙ ap one_more es }
    ]
