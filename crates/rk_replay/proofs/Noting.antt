-- What is noted of why commands run, as the table changes.
use Rattle.std.proofs.Common.{◌≡◌, ℕ, ◌+◌, ◌≤◌, ◌<◌, inl, inr, List, [], ◌∷◌, ◌++◌, length, take, refl, sym, ◌∙◌, ap, subst, arith, Option, Some, None, get_or}
use Rattle.std.specs.Prelude.{slice_set}
use Rattle.std.specs.List.{cons_option}
use Rattle.std.proofs.Math.Seq.{get_or-append_seam}
use Rattle.std.proofs.lemmas.Bool.{cases_eq, cases_lt}
use Rattle.std.proofs.lemmas.List.{length-append, length-set, get_or_append_left, get_or-set_same, get_or-set_other, get_or_default, take_all}
use Rattle.rk_calls.specs.declared.call.Call.{Call}
use Rattle.rk_calls.specs.declared.answer.Answer.{Answer}
use Rattle.rk_calls.specs.Keys.{KeyValue}
use Rattle.tr_record.specs.declared.records.Record.{Record}
use Rattle.tr_record.specs.Rec.{rec_at, begun, stepped, ended, fresh_rec, with_step, with_exit, no_key, count_of}
use Rattle.rk_traces.specs.Places.{length-begun, rec-begun, rec-begun_last}
use Rattle.rk_traces.specs.Run.{step}
use Rattle.rk_traces.specs.Spoken.{step_at}
use Rattle.rk_replay.specs.declared.activity.Activity.{Activity}
use Rattle.rk_replay.specs.declared.activity.Activity.TheVariants.{Runs, Replays}
use Rattle.tr_matching.specs.declared.cause.Cause.{Cause}
use Rattle.tr_matching.specs.declared.cause.Cause.TheVariants.{Differs}
use Rattle.rk_replay.specs.declared.ran.Ran.{Ran}
use Rattle.rk_replay.specs.Activities.{IsLaunched, Takes}
use Rattle.rk_replay.specs.Causes.{cause_at, AreCauses, launch_cause, noted}
use Rattle.rk_replay.specs.Ran.{cause_of, ran_for, ran_of}
use Rattle.rk_replay.proofs.Causing.{ran-more}
use Rattle.rk_replay.specs.Links.{IsAsking}
use Rattle.rk_replay.proofs.Linking.{begins, cause-missing, replayed-cause, cause-stays, cause-other, cause-ended, matched-on}

pub causes-none : (old t : List Record) (cs : List (Option Cause)) → t ≡ [] → cs ≡ [] → AreCauses old t cs
causes-none old t cs et ec = rw (et, ec) (record { many = refl; each = λ i h. let lt : i < 0 = h in absurd (omega arith) })

-- ---- a command is launched

launched-cause : {S : Type 0} (old : List Record) (key : KeyValue) (ordinal : ℕ) (a : Activity S) → IsLaunched old key a → launch_cause a ≡ cause_of old (fresh_rec key ordinal)
launched-cause old key ordinal (Runs m) l = sym (cause-missing old key ordinal l)
launched-cause {S} old key ordinal (Replays seat) l = let b = begins {S = S} old key ordinal (Replays seat) l in sym (replayed-cause old (fresh_rec key ordinal) seat.rec seat.place.at b.linked)

one-more : (old t : List Record) (cs : List (Option Cause)) (key : KeyValue) (o : Option Cause) → o ≡ cause_of old (fresh_rec key (count_of key t)) → AreCauses old t cs → AreCauses old (begun key t) (cs ++ o ∷ [])
one-more old t cs key o is are =
    let many : length cs ≡ length t = are.many in
    let long : length (begun key t) ≡ length t + 1 = length-begun key t in
    record {
      many = omega (arith, length-append cs (o ∷ []));
      each = λ i h. elim (cases_lt i (length t)) [
        | inl lt ↦ get_or_append_left cs (o ∷ []) None i (omega arith) ∙ are.each i lt ∙ ap (cause_of old) (sym (rec-begun i key t lt))
        | inr ge ↦
            let last : i ≡ length t = omega arith in
            let here : i ≡ length cs = omega arith in
            ap (λ n. cause_at n (cs ++ o ∷ [])) here ∙ get_or-append_seam cs o [] None ∙ is ∙ ap (cause_of old) (sym (rec-begun_last key t))
            ∙ ap (λ n. cause_of old (rec_at n (begun key t))) (sym last)
      ];
    }

pub begun-causes : {S : Type 0} (old t : List Record) (cs : List (Option Cause)) (key : KeyValue) (a : Activity S) (t' : List Record) (cs' : List (Option Cause)) → IsLaunched old key a → t' ≡ begun key t → AreCauses old t cs → cs' ≡ cs ++ launch_cause a ∷ [] → AreCauses old t' cs'
begun-causes old t cs key a t' cs' l et are ec = rw (et, ec) (one-more old t cs key (launch_cause a) (launched-cause old key (count_of key t) a l) are)

-- ---- a record changes

module _ (old t : List Record) (cs : List (Option Cause)) (are : AreCauses old t cs) (place : ℕ) (here : place < length t) (r : Record) where
  -- and what is noted of it
  changed : (o : Option Cause) → o ≡ cause_of old r → AreCauses old (slice_set t place r) (slice_set cs place o)
  changed o is =
      let many : length cs ≡ length t = are.many in
      let long : length (slice_set t place r) ≡ length t = length-set t place r in
      let within : place < length cs = omega (arith, here, many) in
      record {
        many = length-set cs place o ∙ many ∙ sym long;
        each = λ i h. elim (cases_eq i place) [
          | inl e ↦
              subst (λ k. cause_at k (slice_set cs place o) ≡ cause_of old (rec_at k (slice_set t place r))) (sym e)
              (get_or-set_same cs place o None within ∙ is ∙ ap (cause_of old) (sym (get_or-set_same t place r (fresh_rec no_key 0) here)))
          | inr ne ↦ get_or-set_other cs place i o None ne ∙ are.each i (omega (arith, h, long)) ∙ ap (cause_of old) (sym (get_or-set_other t place i r (fresh_rec no_key 0) ne))
        ];
      }

  -- and why its command ran stays
  unchanged : cause_of old r ≡ cause_of old (rec_at place t) → AreCauses old (slice_set t place r) cs
  unchanged is =
      let long : length (slice_set t place r) ≡ length t = length-set t place r in
      record {
        many = are.many ∙ sym long;
        each = λ i h. elim (cases_eq i place) [
          | inl e ↦
              subst (λ k. cause_at k cs ≡ cause_of old (rec_at k (slice_set t place r))) (sym e)
              (are.each place here ∙ sym is ∙ ap (cause_of old) (sym (get_or-set_same t place r (fresh_rec no_key 0) here)))
          | inr ne ↦ are.each i (omega (arith, h, long)) ∙ ap (cause_of old) (sym (get_or-set_other t place i r (fresh_rec no_key 0) ne))
        ];
      }

-- the command at a place takes an answer
pub stepped-causes : {S : Type 0} (old t : List Record) (cs : List (Option Cause)) (place : ℕ) (call : Call) (c : ℕ) (a : Answer) (was now : Activity S) → place < length t → IsAsking old (rec_at place t) call c was → Takes old was a now → AreCauses old t cs → AreCauses old (stepped place (step c call a) t) (noted old place was a now cs)
unfolding stepped
stepped-causes old t cs place call c a (Runs m) now h l k are = unchanged old t cs are place h (with_step (rec_at place t) (step c call a)) (cause-stays old (rec_at place t) (step c call a) l.0 l.1 ∙ sym l.1)
stepped-causes old t cs place call c a (Replays seat) (Runs m) h l k are =
    changed old t cs are place h (with_step (rec_at place t) (step c call a)) (Some (Differs (seat.place.at + 1) (step_at seat.place.at (rec_at seat.rec old).steps).answer a))
    (sym (cause-other old (rec_at place t) call c a seat.rec seat.place.at l.0 l.1 k))
stepped-causes old t cs place call c a (Replays seat) (Replays now) h l k are =
    let was = replayed-cause old (rec_at place t) seat.rec seat.place.at l.0 in
    let m' = matched-on old (rec_at place t) call c a seat.rec seat.place.at l.0 l.1 now.rec now.place.at k.others k.are k.at in
    let is = replayed-cause old (with_step (rec_at place t) (step c call a)) now.rec now.place.at m' in
    unchanged old t cs are place h (with_step (rec_at place t) (step c call a)) (is ∙ sym was)

-- it exits
pub ended-causes : (old t : List Record) (cs : List (Option Cause)) (place status c : ℕ) → place < length t → AreCauses old t cs → AreCauses old (ended place status c t) cs
unfolding ended
ended-causes old t cs place status c h are = unchanged old t cs are place h (with_exit (rec_at place t) status c) (cause-ended old (rec_at place t) status c)

-- ---- the list of those that ran

-- one record more
pub noted-more : (old t xs : List Record) (cs : List (Option Cause)) (i : ℕ) (x : Record) (o : Option Cause) (ran ran' : List Ran) → xs ≡ t → i < length xs → x ≡ get_or xs i x → o ≡ cause_at i cs → AreCauses old t cs → ran ≡ ran_of old (take i xs) → ran' ≡ ran ++ cons_option (ran_for x o) [] → ran' ≡ ran_of old (take (i + 1) xs)
noted-more old t xs cs i x o ran ran' es lt ex eo are e e' =
    let within : i < length t = subst (λ (l : List Record). i < length l) es lt in
    let here : x ≡ rec_at i t = ex ∙ get_or_default xs i x (fresh_rec no_key 0) lt ∙ ap (rec_at i) es in
    let is : o ≡ cause_of old x = eo ∙ are.each i within ∙ ap (cause_of old) (sym here) in
    ran-more old xs i x ran ran' lt ex e (e' ∙ ap (λ o. ran ++ cons_option (ran_for x o) []) is)

pub noted-all : (old t xs : List Record) (i : ℕ) (ran : List Ran) → xs ≡ t → length xs ≤ i → ran ≡ ran_of old (take i xs) → ran ≡ ran_of old t
noted-all old t xs i ran es ge e = e ∙ ap (ran_of old) (take_all i xs ge ∙ es)
