-- What counts of all records, as the table changes.
use Rattle.std.proofs.Common.{◌≡◌, ℕ, ◌+◌, ◌≤◌, ◌<◌, List, [], ◌∷◌, length, refl, sym, ◌∙◌, ap, arith, Option, Some, None}
use Rattle.std.specs.Prelude.{slice_set}
use Rattle.std.specs.List.{cons_option}
use Rattle.std.proofs.lemmas.List.Sums.{sum_by-set, sum_by-append}
use Rattle.rk_calls.specs.Keys.{KeyValue}
use Rattle.tr_record.specs.declared.records.Record.{Record}
use Rattle.tr_record.specs.declared.steps.Step.{Step}
use Rattle.tr_record.specs.Rec.{rec_at, begun, stepped, ended, fresh_rec, with_step, with_exit, no_key, count_of}
use Rattle.rk_traces.specs.Own.{own, total}
use Rattle.tr_matching.specs.declared.cause.Cause.{Cause}
use Rattle.rk_replay.specs.Ran.{cause_of, own_for, ran_count, ran_for, ran_of, ran_one, ran_total}
use Rattle.rk_replay.proofs.Linking.{Changes}

pub ran_count-length : (old t : List Record) → length (ran_of old t) ≡ ran_count old t
unfolding ran_of
ran_count-length old [] = refl
ran_count-length old (r ∷ t) =
    by_cause (cause_of old r) (ran_count-length old t) ∙ sym (sum_by-append (λ rec. ran_one (cause_of old rec)) (r ∷ []) t ∙ ap (λ n. n + ran_count old t) (omega arith))
  where
    by_cause : (o : Option Cause) → length (ran_of old t) ≡ ran_count old t → length (cons_option (ran_for r o) (ran_of old t)) ≡ ran_one o + ran_count old t
    by_cause None e = e ∙ omega arith
    by_cause (Some c) e = let e' : length (ran_of old t) ≡ ran_count old t = e in omega arith

-- what changes of the counts
pub record Counts (old t t' : List Record) (more count : ℕ) : Type 0 where
  pub ran : ran_count old t' ≡ ran_count old t + more
  pub live : ran_total old t' ≡ ran_total old t + count

set-counts : (old t : List Record) (i : ℕ) (r : Record) (ran live : ℕ) → i < length t → Changes old (rec_at i t) r ran live → Counts old t (slice_set t i r) ran live
unfolding ran_total
set-counts old t i r ran live h c =
    let a = sum_by-set (λ rec. ran_one (cause_of old rec)) t i r (fresh_rec no_key 0) h in
    let b = sum_by-set (λ rec. own_for rec (cause_of old rec)) t i r (fresh_rec no_key 0) h in
    let x : ran_one (cause_of old r) ≡ ran_one (cause_of old (rec_at i t)) + ran = c.ran in
    let y : own_for r (cause_of old r) ≡ own_for (rec_at i t) (cause_of old (rec_at i t)) + live = c.live in
    record { ran = omega arith; live = omega arith }

pub stepped-counts : (old t : List Record) (i : ℕ) (st : Step) (ran live : ℕ) → i < length t → Changes old (rec_at i t) (with_step (rec_at i t) st) ran live → Counts old t (stepped i st t) ran live
unfolding stepped
stepped-counts old t i st ran live h c = set-counts old t i (with_step (rec_at i t) st) ran live h c

pub ended-counts : (old t : List Record) (i status cost : ℕ) (ran live : ℕ) → i < length t → Changes old (rec_at i t) (with_exit (rec_at i t) status cost) ran live → Counts old t (ended i status cost t) ran live
unfolding ended
ended-counts old t i status cost ran live h c = set-counts old t i (with_exit (rec_at i t) status cost) ran live h c

pub begun-counts : (old t : List Record) (key : KeyValue) (ran : ℕ) → ran_one (cause_of old (fresh_rec key (count_of key t))) ≡ ran → own_for (fresh_rec key (count_of key t)) (cause_of old (fresh_rec key (count_of key t))) ≡ 0 → Counts old t (begun key t) ran 0
unfolding begun ran_total
begun-counts old t key ran e z =
    let a = sum_by-append (λ rec. ran_one (cause_of old rec)) t (fresh_rec key (count_of key t) ∷ []) in
    let b = sum_by-append (λ rec. own_for rec (cause_of old rec)) t (fresh_rec key (count_of key t) ∷ []) in
    record { ran = omega arith; live = omega arith }

pub ran_total-none : (old : List Record) → ran_total old [] ≡ 0
unfolding ran_total
ran_total-none old = refl

-- no more than all that was paid
own-least : (r : Record) (o : Option Cause) → own_for r o ≤ own r
own-least r None = omega arith
own-least r (Some c) = omega arith

pub ran-within : (old t : List Record) → ran_total old t ≤ total t
unfolding ran_total
ran-within old [] = omega arith
ran-within old (r ∷ t) =
    let a = sum_by-append (λ rec. own_for rec (cause_of old rec)) (r ∷ []) t in
    let b = sum_by-append own (r ∷ []) t in
    let c = ran-within old t in
    let d = own-least r (cause_of old r) in
    omega arith
