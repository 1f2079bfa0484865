-- What records paid, as the table changes.
use Rattle.std.proofs.Common.{◌≡◌, ℕ, ◌+◌, ◌<◌, List, [], ◌∷◌, ◌++◌, length, arith}
use Rattle.std.specs.Prelude.{slice_set}
use Rattle.std.proofs.lemmas.List.Sums.{sum_by-set, sum_by-append}
use Rattle.rk_calls.specs.Keys.{KeyValue}
use Rattle.tr_record.specs.Costs.{steps_cost}
use Rattle.tr_record.specs.declared.records.Record.{Record}
use Rattle.tr_record.specs.declared.steps.Step.{Step}
use Rattle.tr_record.specs.Rec.{rec_at, begun, stepped, ended, fresh_rec, with_step, with_exit, no_key, count_of}
use Rattle.rk_traces.specs.Own.{own, total}

pub steps_cost-append : (xs : List Step) (st : Step) → steps_cost (xs ++ st ∷ []) ≡ steps_cost xs + st.cost
steps_cost-append xs st = let e = sum_by-append (λ (s : Step). s.cost) xs (st ∷ []) in omega arith

pub own-step : (r : Record) (st : Step) → own (with_step r st) ≡ own r + st.cost
own-step r st = let e = steps_cost-append r.steps st in omega arith

pub own-exit : (r : Record) (status c : ℕ) → r.exit_cost ≡ 0 → own (with_exit r status c) ≡ own r + c
own-exit r status c e = omega arith

pub total-set : (t : List Record) (i : ℕ) (r : Record) → i < length t → total (slice_set t i r) + own (rec_at i t) ≡ total t + own r
total-set t i r h = sum_by-set own t i r (fresh_rec no_key 0) h

pub total-stepped : (place : ℕ) (st : Step) (t : List Record) → place < length t → total (stepped place st t) ≡ total t + st.cost
unfolding stepped
total-stepped place st t h = let e = total-set t place (with_step (rec_at place t) st) h in let f = own-step (rec_at place t) st in omega arith

pub total-ended : (place status c : ℕ) (t : List Record) → place < length t → (rec_at place t).exit_cost ≡ 0 → total (ended place status c t) ≡ total t + c
unfolding ended
total-ended place status c t h z = let e = total-set t place (with_exit (rec_at place t) status c) h in let f = own-exit (rec_at place t) status c z in omega arith

pub total-begun : (key : KeyValue) (t : List Record) → total (begun key t) ≡ total t
unfolding begun
total-begun key t = let e = sum_by-append own t (fresh_rec key (count_of key t) ∷ []) in omega arith
