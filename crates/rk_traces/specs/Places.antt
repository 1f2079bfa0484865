-- Places in the table of records.
use Rattle.std.proofs.Common.{◌≡◌, ◌≢◌, ℕ, ◌+◌, ◌<◌, List, [], ◌∷◌, length, length-append}
use Rattle.std.proofs.Math.ListN.{length-set}
use Rattle.std.proofs.Math.Seq.{get_or-append_seam}
use Rattle.std.proofs.lemmas.List.{get_or-set_other, get_or-set_same, get_or_append_left}
use Rattle.rk_calls.specs.Keys.{KeyValue}
use Rattle.tr_record.specs.declared.records.Record.{Record}
use Rattle.tr_record.specs.declared.steps.Step.{Step}
use Rattle.tr_record.specs.Rec.{rec_at, begun, stepped, ended, fresh_rec, with_step, with_exit, count_of, no_key}

pub length-begun : (key : KeyValue) (t : List Record) → length (begun key t) ≡ length t + 1
unfolding begun
length-begun key t = length-append t (fresh_rec key (count_of key t) ∷ [])

pub length-stepped : (i : ℕ) (s : Step) (t : List Record) → length (stepped i s t) ≡ length t
unfolding stepped
length-stepped i s t = simp length-set

pub length-ended : (i status cost : ℕ) (t : List Record) → length (ended i status cost t) ≡ length t
unfolding ended
length-ended i status cost t = simp length-set

pub rec-begun : (i : ℕ) (key : KeyValue) (t : List Record) → i < length t → rec_at i (begun key t) ≡ rec_at i t
unfolding begun
rec-begun i key t h = get_or_append_left t (fresh_rec key (count_of key t) ∷ []) (fresh_rec no_key 0) i h

pub rec-begun_last : (key : KeyValue) (t : List Record) → rec_at (length t) (begun key t) ≡ fresh_rec key (count_of key t)
unfolding begun
rec-begun_last key t = get_or-append_seam t (fresh_rec key (count_of key t)) [] (fresh_rec no_key 0)

pub rec-stepped : (i place : ℕ) (st : Step) (t : List Record) → i ≢ place → rec_at i (stepped place st t) ≡ rec_at i t
unfolding stepped
rec-stepped i place st t h = get_or-set_other t place i (with_step (rec_at place t) st) (fresh_rec no_key 0) h

pub rec-stepped_same : (place : ℕ) (st : Step) (t : List Record) → place < length t → rec_at place (stepped place st t) ≡ with_step (rec_at place t) st
unfolding stepped
rec-stepped_same place st t h = get_or-set_same t place (with_step (rec_at place t) st) (fresh_rec no_key 0) h

pub rec-ended : (i place status c : ℕ) (t : List Record) → i ≢ place → rec_at i (ended place status c t) ≡ rec_at i t
unfolding ended
rec-ended i place status c t h = get_or-set_other t place i (with_exit (rec_at place t) status c) (fresh_rec no_key 0) h

pub rec-ended_same : (place status c : ℕ) (t : List Record) → place < length t → rec_at place (ended place status c t) ≡ with_exit (rec_at place t) status c
unfolding ended
rec-ended_same place status c t h = get_or-set_same t place (with_exit (rec_at place t) status c) (fresh_rec no_key 0) h
