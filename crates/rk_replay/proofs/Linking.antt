-- Commands and what stands in their records.
use Rattle.std.proofs.Common.{◌≡◌, ℕ, zero, suc, ◌+◌, ◌≤◌, ◌<◌, List, [], ◌∷◌, ◌++◌, length, take, filter, refl, sym, ◌∙◌, ap, subst, arith, Some, None, inl, inr, length-append}
use Rattle.std.proofs.lemmas.Bool.{cases_lt}
use Rattle.std.proofs.lemmas.List.{length-take-le}
use Rattle.std.specs.List.{AllByRecursion as Each}
use Rattle.rk_calls.specs.declared.call.Call.{Call}
use Rattle.rk_calls.specs.declared.answer.Answer.{Answer}
use Rattle.rk_calls.specs.declared.drive.Spoke.{Spoke}
use Rattle.rk_calls.specs.declared.drive.Spoke.TheVariants.{Call as Calls, Exit as Exits}
use Rattle.rk_calls.specs.Keys.{KeyValue}
use Rattle.tr_record.specs.declared.records.Record.{Record}
use Rattle.tr_record.specs.declared.steps.Step.{Step}
use Rattle.tr_record.specs.Places.{places_of}
use Rattle.tr_record.specs.Rec.{rec_at, fresh_rec, with_step, with_exit}
use Rattle.tr_record.specs.Costs.{steps_cost}
use Rattle.tr_matching.specs.declared.cause.Cause.{Cause}
use Rattle.tr_matching.specs.declared.cause.Cause.TheVariants.{NoRecord, Differs}
use Rattle.tr_matching.specs.Causes.{cause_among}
use Rattle.tr_matching.specs.Left.{AreTalkAlike, IsMatching, is_answered, left, next_at}
use Rattle.tr_matching.specs.Matching.{AllSay}
use Rattle.tr_matching.specs.Steps.{answers_of}
use Rattle.tr_matching.proofs.CauseLemmas.{cause-given_up, cause-left, cause-none}
use Rattle.tr_matching.proofs.CauseLemmas as causes
use Rattle.tr_matching.proofs.GroupLemmas.{calls-on}
use Rattle.tr_matching.proofs.LeftLemmas.{left-recorded, matching-start, matching-step}
use Rattle.tr_matching.proofs.NextLemmas.{next_end, next_step}
use Rattle.rk_traces.specs.Run.{step}
use Rattle.rk_traces.specs.Spoken.{step_at}
use Rattle.rk_traces.specs.Totals.{own-step, own-exit}
use Rattle.rk_replay.specs.declared.activity.Activity.{Activity}
use Rattle.rk_replay.specs.declared.activity.Activity.TheVariants.{Runs, Replays}
use Rattle.rk_replay.specs.Links.{IsAsking, IsLinked, IsMatched}
use Rattle.rk_replay.specs.Ran.{cause_of, own_for, ran_one, IsRecorded}
use Rattle.rk_replay.specs.Activities.{IsWaiting, IsLaunched, IsRunning, IsNext, IsWhole, Speaks_on, Takes, made, given_up, counted, live_cost}
use Rattle.rk_replay.specs.Seats.{left_with}
use Rattle.rk_replay.proofs.KeyLemmas.{IsOf, left-in}

-- ---- records that are matched

take-within : (n : ℕ) (xs : List Step) → length (take n xs) ≤ length xs
take-within zero [] = omega arith
take-within (suc n) [] = omega arith
take-within zero (x ∷ xs) = omega arith
take-within (suc n) (x ∷ xs) = let h = take-within n xs in omega arith

matched : (old : List Record) (r : Record) (rec at : ℕ) (others : List ℕ) → IsMatching old (places_of r.key old) r.steps (rec ∷ others) → at ≡ length r.steps → IsMatched old r rec at
matched old r rec at others m ea =
    let in_key : Each (IsOf old r.key) (rec ∷ others) = subst (Each (IsOf old r.key)) (sym m.left_are) (left-in old r.key (answers_of r.steps)) in
    let same : take (length r.steps) (rec_at rec old).steps ≡ r.steps = m.alike.0 in
    record {
      others = others;
      matching = m;
      here = in_key.0.0;
      key = in_key.0.1;
      within = (let n = take-within (length r.steps) (rec_at rec old).steps in let l = ap length same in omega arith);
      steps = sym (ap (λ n. take n (rec_at rec old).steps) ea ∙ same);
    }

module _ (old : List Record) (r : Record) (rec at : ℕ) (m : IsMatched old r rec at) where
  pub with-left : rec ∷ m.others ≡ left_with old rec at
  with-left =
      m.matching.left_are ∙ ap (λ s. left old (answers_of s) (places_of r.key old)) m.steps
      ∙ ap (λ k. left old (answers_of (take at (rec_at rec old).steps)) (places_of k old)) (sym m.key)

  so-far : length r.steps ≡ at
  so-far = ap length m.steps ∙ length-take-le at (rec_at rec old).steps m.within

  pub first-of-left : (P : ℕ → Type 0) → Each P (left_with old rec at) → P rec
  first-of-left P e = let h : Each P (rec ∷ m.others) = subst (Each P) (sym with-left) e in h.0

  -- what all have next that are left
  all-say : (s : Spoke) → AllSay old at s (left_with old rec at) → AllSay old (length r.steps) s (rec ∷ m.others)
  all-say s e = subst (λ n. AllSay old n s (rec ∷ m.others)) (sym so-far) (subst (AllSay old at s) (sym with-left) e)

-- what a call is that is next
pub record IsStepNext (rec : Record) (at : ℕ) (call : Call) (cost : ℕ) : Type 0 where
  pub here : at < length rec.steps
  pub call_is : call ≡ (step_at at rec.steps).call
  pub cost_is : cost ≡ (step_at at rec.steps).cost

pub step-next : (rec : Record) (at : ℕ) (call : Call) (cost : ℕ) → next_at at rec ≡ Calls call cost → IsStepNext rec at call cost
step-next rec at call cost e =
    let lt = calls-on at rec call cost e in
    let both : Calls (step_at at rec.steps).call (step_at at rec.steps).cost ≡ Calls call cost = sym (next_step at rec lt) ∙ e in
    record { here = lt; call_is = (let x : (step_at at rec.steps).call ≡ call = cc in sym x); cost_is = (let x : (step_at at rec.steps).cost ≡ cost = cc in sym x) }

-- and what an exit is
pub record IsEndNext (rec : Record) (at status cost : ℕ) : Type 0 where
  pub last : length rec.steps ≤ at
  pub status_is : status ≡ rec.exit
  pub cost_is : cost ≡ rec.exit_cost

pub end-next : (rec : Record) (at status cost : ℕ) → next_at at rec ≡ Exits status cost → IsEndNext rec at status cost
end-next rec at status cost e = elim (cases_lt at (length rec.steps)) [
  | inl lt ↦ absurd (let clash : Calls (step_at at rec.steps).call (step_at at rec.steps).cost ≡ Exits status cost = sym (next_step at rec lt) ∙ e in cc)
  | inr ge ↦
      let both : Exits rec.exit rec.exit_cost ≡ Exits status cost = sym (next_end at rec ge) ∙ e in
      record { last = ge; status_is = (let x : rec.exit ≡ status = cc in sym x); cost_is = (let x : rec.exit_cost ≡ cost = cc in sym x) }
]

-- ---- commands under way

pub asking-waiting : {S : Type 0} (old : List Record) (r : Record) (call : Call) (c : ℕ) (a : Activity S) → IsAsking old r call c a → IsWaiting old a
asking-waiting old r call c (Runs m) l = tt
asking-waiting old r call c (Replays seat) l =
    let n = step-next (rec_at seat.rec old) seat.place.at call c (first-of-left old r seat.rec seat.place.at l.0 (λ i. next_at seat.place.at (rec_at i old) ≡ Calls call c) l.1) in
    (l.0.here, n.here)

running-asks : {S : Type 0} (old : List Record) (r : Record) (call : Call) (c : ℕ) (now : Activity S) → IsRunning now → (k : Cause) × (cause_of old r ≡ Some k) → IsAsking old r call c now
running-asks old r call c (Runs m) h l = l
running-asks old r call c (Replays seat) h l = absurd h

pub asks : {S : Type 0} (old : List Record) (r : Record) (was now : Activity S) (s : Spoke) (call : Call) (c : ℕ) → s ≡ Calls call c → IsLinked old r was → Speaks_on old was now s → IsAsking old r call c now
asks old r (Runs m) now s call c es l h = running-asks old r call c now h l
asks old r (Replays seat) now s call c es l h = subst (IsAsking old r call c) (sym h.0) (l, subst (IsNext old seat.rec seat.place.at) es h.1)

-- it is replayed, so it didn't run so far
pub replayed-cause : (old : List Record) (r : Record) (rec at : ℕ) → IsMatched old r rec at → cause_of old r ≡ None
unfolding cause_of
replayed-cause old r rec at m = cause-left old (places_of r.key old) r.steps rec m.others m.matching

-- one record changed so: what counts of it
pub record Changes (old : List Record) (r r' : Record) (more count : ℕ) : Type 0 where
  pub ran : ran_one (cause_of old r') ≡ ran_one (cause_of old r) + more
  pub live : own_for r' (cause_of old r') ≡ own_for r (cause_of old r) + count

-- a command is launched
pub record Begins {S : Type 0} (old : List Record) (r : Record) (a : Activity S) : Type 0 where
  pub linked : IsLinked old r a
  pub ran : ran_one (cause_of old r) ≡ made a
  pub live : own_for r (cause_of old r) ≡ 0

pub cause-missing : (old : List Record) (key : KeyValue) (ordinal : ℕ) → places_of key old ≡ [] → cause_of old (fresh_rec key ordinal) ≡ Some NoRecord
unfolding cause_of
cause-missing old key ordinal e = ap (λ l. cause_among old l []) e ∙ cause-none old []

pub begins : {S : Type 0} (old : List Record) (key : KeyValue) (ordinal : ℕ) (a : Activity S) → IsLaunched old key a → Begins old (fresh_rec key ordinal) a
begins old key ordinal (Runs m) l =
    let c = cause-missing old key ordinal l in
    record { linked = (NoRecord, c); ran = rw c refl; live = rw c refl }
begins old key ordinal (Replays seat) l =
    let start : IsMatching old (places_of key old) [] (seat.rec ∷ l.0) = subst (IsMatching old (places_of key old) []) l.2 (matching-start old (places_of key old)) in
    let m = matched old (fresh_rec key ordinal) seat.rec seat.place.at l.0 start l.1 in
    let c = replayed-cause old (fresh_rec key ordinal) seat.rec seat.place.at m in
    record { linked = m; ran = rw c refl; live = rw c refl }

-- it takes an answer
pub record Steps {S : Type 0} (old : List Record) (r : Record) (c : ℕ) (r' : Record) (was now : Activity S) : Type 0 where
  pub linked : IsLinked old r' now
  pub changes : Changes old r r' (given_up was now) (counted was now c r')

-- a cause stays
pub cause-stays : (old : List Record) (r : Record) (st : Step) (c : Cause) → cause_of old r ≡ Some c → cause_of old (with_step r st) ≡ Some c
unfolding cause_of
cause-stays old r st c e = causes.cause-stays old (places_of r.key old) r.steps (st ∷ []) c e

steps-running : (old : List Record) (r : Record) (call : Call) (c : ℕ) (a : Answer) (k : Cause) → cause_of old r ≡ Some k → Changes old r (with_step r (step c call a)) 0 c
steps-running old r call c a k e =
    let e' = cause-stays old r (step c call a) k e in
    let o = own-step r (step c call a) in
    record { ran = rw (e', e) refl; live = rw (e', e) o }

module _ (old : List Record) (r : Record) (call : Call) (c : ℕ) (a : Answer) (rec at : ℕ) (m : IsMatched old r rec at) (says : AllSay old at (Calls call c) (left_with old rec at)) where
  -- those that were left and were answered so
  answered-is : filter (is_answered old (length r.steps) a) (rec ∷ m.others) ≡ filter (is_answered old at a) (left_with old rec at)
  answered-is = ap (λ n. filter (is_answered old n a) (rec ∷ m.others)) (so-far old r rec at m) ∙ ap (filter (is_answered old at a)) (with-left old r rec at m)

  -- it goes on with them
  pub matched-on : (rec' at' : ℕ) (others : List ℕ) → filter (is_answered old at a) (left_with old rec at) ≡ rec' ∷ others → at' ≡ at + 1 → IsMatched old (with_step r (step c call a)) rec' at'
  matched-on rec' at' others is ea =
      matched old (with_step r (step c call a)) rec' at' others
      (subst (IsMatching old (places_of r.key old) (r.steps ++ step c call a ∷ [])) (answered-is ∙ is)
      (matching-step old (places_of r.key old) r.steps (rec ∷ m.others) m.matching call c a (all-say old r rec at m (Calls call c) says)))
      (let n = length-append r.steps (step c call a ∷ []) in let l = so-far old r rec at m in omega arith)

  -- none was answered so
  pub cause-other : filter (is_answered old at a) (left_with old rec at) ≡ [] → cause_of old (with_step r (step c call a)) ≡ Some (Differs (at + 1) (step_at at (rec_at rec old).steps).answer a)
  unfolding cause_of
  cause-other none =
      cause-given_up old (places_of r.key old) r.steps rec m.others m.matching call c a (all-say old r rec at m (Calls call c) says) (answered-is ∙ none)
      ∙ ap (λ n. Some (Differs (n + 1) (step_at n (rec_at rec old).steps).answer a)) (so-far old r rec at m)

  same-changes : (rec' at' : ℕ) → IsMatched old (with_step r (step c call a)) rec' at' → Changes old r (with_step r (step c call a)) 0 0
  same-changes rec' at' m' =
      let k = replayed-cause old r rec at m in
      let k' = replayed-cause old (with_step r (step c call a)) rec' at' m' in
      record { ran = rw (k', k) refl; live = rw (k', k) refl }

  other-changes : r.exit_cost ≡ 0 → filter (is_answered old at a) (left_with old rec at) ≡ [] → Changes old r (with_step r (step c call a)) 1 (steps_cost (r.steps ++ step c call a ∷ []))
  other-changes z none =
      let k = replayed-cause old r rec at m in
      let k' = cause-other none in
      record { ran = rw (k', k) refl; live = rw (k', k) (omega arith) }

pub steps : {S : Type 0} (old : List Record) (r : Record) (call : Call) (c : ℕ) (a : Answer) (was now : Activity S) → r.exit_cost ≡ 0 → IsAsking old r call c was → Takes old was a now → Steps old r c (with_step r (step c call a)) was now
steps {S} old r call c a (Runs m) now z l t =
    subst (Steps old r c (with_step r (step c call a)) (let w : Activity S = Runs m in w)) (sym t)
    (record { linked = (l.0, cause-stays old r (step c call a) l.0 l.1); changes = steps-running old r call c a l.0 l.1 })
steps old r call c a (Replays seat) (Runs m) z l t =
    record {
      linked = (Differs (seat.place.at + 1) (step_at seat.place.at (rec_at seat.rec old).steps).answer a, cause-other old r call c a seat.rec seat.place.at l.0 l.1 t);
      changes = other-changes old r call c a seat.rec seat.place.at l.0 l.1 z t;
    }
steps {S} old r call c a (Replays seat) (Replays now) z l t =
    let m' = matched-on old r call c a seat.rec seat.place.at l.0 l.1 now.rec now.place.at t.others t.are t.at in
    record { linked = m'; changes = same-changes old r call c a seat.rec seat.place.at l.0 l.1 now.rec now.place.at m' }

-- it exits
pub cause-ended : (old : List Record) (r : Record) (status c : ℕ) → cause_of old (with_exit r status c) ≡ cause_of old r
unfolding cause_of
cause-ended old r status c = refl

running-ends : {S : Type 0} (old : List Record) (r : Record) (status c : ℕ) (k : Cause) (now : Activity S) → r.exit_cost ≡ 0 → cause_of old r ≡ Some k → IsRunning now → Changes old r (with_exit r status c) 0 (live_cost now c)
running-ends old r status c k (Runs m) z e h =
    let e' = cause-ended old r status c ∙ e in
    let o = own-exit r status c z in
    record { ran = rw (e', e) refl; live = rw (e', e) o }
running-ends old r status c k (Replays seat) z e h = absurd h

pub ends : {S : Type 0} (old : List Record) (r : Record) (status c n : ℕ) (was now : Activity S) (s : Spoke) → r.exit_cost ≡ 0 → s ≡ Exits status n → IsLinked old r was → Speaks_on old was now s → Changes old r (with_exit r status c) 0 (live_cost now c)
ends old r status c n (Runs m) now s z es l h = running-ends old r status c l.0 now z l.1 h
ends {S} old r status c n (Replays seat) now s z es l h =
    let k = replayed-cause old r seat.rec seat.place.at l in
    let e = cause-ended old r status c ∙ k in
    let still : Changes old r (with_exit r status c) 0 0 = record { ran = rw (e, k) refl; live = rw (e, k) refl } in
    subst (λ now. Changes old r (with_exit r status c) 0 (live_cost now c)) (sym h.0) still

running-whole : {S : Type 0} (old : List Record) (r : Record) (now : Activity S) → IsRunning now → IsWhole old r now
running-whole old r (Runs m) h = tt
running-whole old r (Replays seat) h = absurd h

-- the first record that is left has just its steps, and exits so
module _ (old : List Record) (r : Record) (status n rec at : ℕ) (m : IsMatched old r rec at) (says : AllSay old at (Exits status n) (left_with old rec at)) where
  says-end : next_at (length r.steps) (rec_at rec old) ≡ Exits status n
  says-end = ap (λ k. next_at k (rec_at rec old)) (so-far old r rec at m) ∙ first-of-left old r rec at m (λ i. next_at at (rec_at i old) ≡ Exits status n) says

  pub talk-alike : AreTalkAlike (rec_at rec old) (with_exit r status n)
  talk-alike = left-recorded (rec_at rec old) (with_exit r status n) m.matching.alike.0 says-end

-- a replayed command exits with all steps of its record
pub whole : {S : Type 0} (old : List Record) (r : Record) (status n : ℕ) (was now : Activity S) (s : Spoke) → s ≡ Exits status n → IsLinked old r was → Speaks_on old was now s → IsWhole old r now
whole old r status n (Runs m) now s es l h = running-whole old r now h
whole old r status n (Replays seat) now s es l h =
    let says = subst (IsNext old seat.rec seat.place.at) es h.1 in
    subst (IsWhole old r) (sym h.0) (l.here, sym (talk-alike old r status n seat.rec seat.place.at l says).0)

pub ends-recorded : {S : Type 0} (old : List Record) (r : Record) (status c n : ℕ) (was now : Activity S) (s : Spoke) → s ≡ Exits status n → c ≡ n → IsLinked old r was → Speaks_on old was now s → cause_of old (with_exit r status c) ≡ None → IsRecorded old (with_exit r status c)
ends-recorded old r status c n (Runs m) now s es ec l h none =
    let ran : Some l.0 ≡ None = sym l.1 ∙ sym (cause-ended old r status c) ∙ none in
    cc
ends-recorded old r status c n (Replays seat) now s es ec l h none =
    let says = subst (IsNext old seat.rec seat.place.at) es h.1 in
    (seat.rec, l.here, l.key, subst (λ k. AreTalkAlike (rec_at seat.rec old) (with_exit r status k)) (sym ec) (talk-alike old r status n seat.rec seat.place.at l says))
