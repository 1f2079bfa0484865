-- What holds of commands once they have exited.
use Rattle.std.proofs.Common.{◌≡◌, ◌≢◌, ℕ, ◌+◌, ◌<◌, inl, inr, Bool, IsTrue, List, [], ◌∷◌, ◌++◌, length, take, Some, None, sym, ◌∙◌, ap, subst, arith}
use Rattle.std.proofs.lemmas.Bool.{cases_eq, cases_lt}
use Rattle.rk_calls.specs.declared.drive.Spoke.{Spoke}
use Rattle.rk_calls.specs.declared.drive.Spoke.TheVariants.{Exit as Exits}
use Rattle.rk_calls.specs.Keys.{KeyValue}
use Rattle.tr_record.specs.declared.records.Record.{Record}
use Rattle.tr_record.specs.declared.steps.Step.{Step}
use Rattle.tr_record.specs.Places.{places_of}
use Rattle.tr_record.specs.Rec.{rec_at, begun, count_of, stepped, ended, with_exit}
use Rattle.tr_record.proofs.PlacesLemmas.{found_place}
use Rattle.tr_matching.proofs.CauseLemmas.{cause-same}
use Rattle.rk_traces.specs.declared.active.Active.{Active}
use Rattle.rk_traces.specs.declared.active.Frame.{Frame}
use Rattle.rk_traces.specs.Places.{length-begun, length-stepped, length-ended, rec-begun, rec-stepped, rec-ended, rec-ended_same}
use Rattle.rk_replay.specs.declared.activity.Activity.{Activity}
use Rattle.rk_replay.specs.declared.activity.Activity.TheVariants.{Runs, Replays}
use Rattle.rk_replay.specs.declared.talks.Seat.{Seat}
use Rattle.rk_replay.specs.Activities.{IsRunning, Speaks_on}
use Rattle.rk_replay.specs.Ran.{cause_of}
use Rattle.rk_replay.proofs.Linking.{ends-recorded}
use Rattle.rk_replay.specs.Links.{AllAsk, IsApart, IsAsKept, IsKept, IsLinked, IsStillAt, Keeps, Replaying}

apart-push : {S : Type 0} (i : ℕ) (fs : List (Frame S)) (f : Frame S) → IsApart i fs → i ≢ f.waiting.place → IsApart i (fs ++ f ∷ [])
apart-push i [] f a h = (h, tt)
apart-push i (x ∷ fs) f a h = (a.0, apart-push i fs f a.1 h)

apart-pop : {S : Type 0} (i : ℕ) (fs : List (Frame S)) (f : Frame S) → IsApart i (fs ++ f ∷ []) → (i ≢ f.waiting.place) × IsApart i fs
apart-pop i [] f a = (a.0, tt)
apart-pop i (x ∷ fs) f a = let r = apart-pop i fs f a.1 in (r.0, (a.0, r.1))

apart-none : {S : Type 0} (i : ℕ) (fs : List (Frame S)) → length fs ≡ 0 → IsApart i fs
apart-none i [] z = tt
apart-none i (f ∷ fs) z = absurd (omega arith)

-- the first command is launched
pub Keeps-start : {S : Type 0} (P : ℕ → Record → Type 0) (t0 t : List Record) (key : KeyValue) (m : Active S) (fs : List (Frame S)) → t0 ≡ [] → m.place ≡ length t0 → t ≡ begun key t0 → Keeps P t m fs
Keeps-start P t0 t key m fs e0 ep et =
    let none : length t0 ≡ 0 = ap length e0 in
    let one : length t ≡ length t0 + 1 = ap length et ∙ length-begun key t0 in
    record { each = λ i h ne apart. let here : i ≡ m.place = omega (arith, h, one, none, ep) in absurd (ne here) }

module _ {S : Type 0} (P : ℕ → Record → Type 0) (t : List Record) (m : Active S) (fs : List (Frame S)) (k : Keeps P t m fs) where
  -- what holds of less is told
  pub Keeps-less : (Q : ℕ → Record → Type 0) → ((i : ℕ) (r : Record) → P i r → Q i r) → Keeps Q t m fs
  Keeps-less Q less = record { each = λ i h ne apart. less i (rec_at i t) (k.each i h ne apart) }

  -- another command is launched
  pub Keeps-launch : (now : S) (key : KeyValue) (map : List (ℕ × ℕ)) (c : ℕ) (child : Active S) (t' : List Record) (fs' : List (Frame S)) → child.place ≡ length t → t' ≡ begun key t → fs' ≡ fs ++ record { waiting = record { place = m.place; refs = m.refs; machine = now }; key = key; map = map; cost = c } ∷ [] → Keeps P t' child fs'
  Keeps-launch now key map c child t' fs' ep et ef =
      let f : Frame S = record { waiting = record { place = m.place; refs = m.refs; machine = now }; key = key; map = map; cost = c } in
      let long : length t' ≡ length t + 1 = ap length et ∙ length-begun key t in
      record {
        each = λ i h ne apart. elim (cases_lt i (length t)) [
          | inl lt ↦
              let a = apart-pop i fs f (subst (IsApart i) ef apart) in
              let same : rec_at i t' ≡ rec_at i t = ap (rec_at i) et ∙ rec-begun i key t lt in
              subst (P i) (sym same) (k.each i lt a.0 a.1)
          | inr ge ↦ let here : i ≡ child.place = omega (arith, h, long, ge, ep) in absurd (ne here)
        ];
      }

  -- the command that goes on takes an answer
  pub Keeps-ask : (st : Step) (t' : List Record) (next : Active S) → t' ≡ stepped m.place st t → next.place ≡ m.place → Keeps P t' next fs
  Keeps-ask st t' next et ep =
      let long : length t' ≡ length t = ap length et ∙ length-stepped m.place st t in
      record {
        each = λ i h ne apart.
            let lt : i < length t = omega (arith, h, long) in
            let other : i ≢ m.place = λ e. ne (e ∙ sym ep) in
            let same : rec_at i t' ≡ rec_at i t = ap (rec_at i) et ∙ rec-stepped i m.place st t other in
            subst (P i) (sym same) (k.each i lt other apart);
      }

  -- it exits, and this holds of it as well
  module _ (here : m.place < length t) (status c : ℕ) (t' : List Record) (et : t' ≡ ended m.place status c t) (holds : P m.place (with_exit (rec_at m.place t) status c)) where
    exit-kept : (j : ℕ) → j < length t' → IsApart j fs → P j (rec_at j t')
    exit-kept j h apart =
        let long : length t' ≡ length t = ap length et ∙ length-ended m.place status c t in
        elim (cases_eq j m.place) [
          | inl e ↦
              let same : rec_at m.place t' ≡ with_exit (rec_at m.place t) status c = ap (rec_at m.place) et ∙ rec-ended_same m.place status c t here in
              subst (λ n. P n (rec_at n t')) (sym e) (subst (P m.place) (sym same) holds)
          | inr ne ↦
              let same : rec_at j t' ≡ rec_at j t = ap (rec_at j) et ∙ rec-ended j m.place status c t ne in
              subst (P j) (sym same) (k.each j (omega (arith, h, long)) ne apart)
        ]

    -- the last command exits
    pub all-keep : length fs ≡ 0 → (j : ℕ) → j < length t' → P j (rec_at j t')
    all-keep z j h = exit-kept j h (apart-none j fs z)

    -- a command exits, and the one that waited for it goes on
    pub Keeps-join : (fs' : List (Frame S)) (f : Frame S) → fs ≡ fs' ++ f ∷ [] → (st : Step) (t'' : List Record) (next : Active S) → t'' ≡ stepped f.waiting.place st t' → next.place ≡ f.waiting.place → Keeps P t'' next fs'
    Keeps-join fs' f ef st t'' next et' ep =
        let long : length t'' ≡ length t' = ap length et' ∙ length-stepped f.waiting.place st t' in
        record {
          each = λ j h ne apart.
              let lt : j < length t' = omega (arith, h, long) in
              let other : j ≢ f.waiting.place = λ e. ne (e ∙ sym ep) in
              let same : rec_at j t'' ≡ rec_at j t' = ap (rec_at j) et' ∙ rec-stepped j f.waiting.place st t' other in
              subst (P j) (sym same) (exit-kept j lt (subst (IsApart j) (sym ef) (apart-push j fs' f apart other)));
        }

-- ---- what is told of what held before

-- the places of those that wait are below that of the command that goes on
pub apart-below : {S : Type 0} (old t : List Record) (n : ℕ) (fs : List (Frame (Activity S))) → AllAsk old t n fs → IsApart n fs
apart-below old t n [] all = tt
apart-below old t n (f ∷ fs) all = (λ e. let below : f.waiting.place < n = all.2 in omega arith, apart-below old t n fs all.4)

module _ {S : Type 0} (P : ℕ → Record → Type 0) (t : List Record) (m : Active S) (fs : List (Frame S)) where
  -- before another command was launched
  pub Kept-launch : (now : S) (key : KeyValue) (map : List (ℕ × ℕ)) (c : ℕ) (child : Active S) (t' : List Record) (fs' : List (Frame S)) → child.place ≡ length t → t' ≡ begun key t → fs' ≡ fs ++ record { waiting = record { place = m.place; refs = m.refs; machine = now }; key = key; map = map; cost = c } ∷ [] → Keeps P t' child fs' → Keeps P t m fs
  Kept-launch now key map c child t' fs' ep et ef k =
      let f : Frame S = record { waiting = record { place = m.place; refs = m.refs; machine = now }; key = key; map = map; cost = c } in
      let long : length t' ≡ length t + 1 = ap length et ∙ length-begun key t in
      record {
        each = λ i h ne apart.
            let same : rec_at i t' ≡ rec_at i t = ap (rec_at i) et ∙ rec-begun i key t h in
            subst (P i) same (k.each i (omega arith) (λ e. let here : i ≡ length t = e ∙ ep in omega arith) (subst (IsApart i) (sym ef) (apart-push i fs f apart ne)));
      }

  -- before the command that goes on took an answer
  pub Kept-ask : (st : Step) (t' : List Record) (next : Active S) → t' ≡ stepped m.place st t → next.place ≡ m.place → Keeps P t' next fs → Keeps P t m fs
  Kept-ask st t' next et ep k =
      let long : length t' ≡ length t = ap length et ∙ length-stepped m.place st t in
      record {
        each = λ i h ne apart.
            let same : rec_at i t' ≡ rec_at i t = ap (rec_at i) et ∙ rec-stepped i m.place st t ne in
            subst (P i) same (k.each i (omega arith) (λ e. ne (e ∙ ep)) apart);
      }

  module _ (here : m.place < length t) (status c : ℕ) (t' : List Record) (et : t' ≡ ended m.place status c t) where
    long : length t' ≡ length t
    long = ap length et ∙ length-ended m.place status c t

    -- before the last one exited
    pub Kept-all : ((j : ℕ) → j < length t' → P j (rec_at j t')) → Keeps P t m fs × P m.place (with_exit (rec_at m.place t) status c)
    Kept-all all = (
      record {
        each = λ i h ne apart. subst (P i) (ap (rec_at i) et ∙ rec-ended i m.place status c t ne) (all i (omega (arith, long, h)));
      },
      subst (P m.place) (ap (rec_at m.place) et ∙ rec-ended_same m.place status c t here) (all m.place (omega (arith, long, here))),
    )

    -- before one exited for which another one waited
    pub Kept-join : (fs' : List (Frame S)) (f : Frame S) → fs ≡ fs' ++ f ∷ [] → IsApart m.place fs → (st : Step) (t'' : List Record) (next : Active S) → t'' ≡ stepped f.waiting.place st t' → next.place ≡ f.waiting.place → Keeps P t'' next fs'
        → Keeps P t m fs × P m.place (with_exit (rec_at m.place t) status c)
    Kept-join fs' f ef apart_here st t'' next et' ep k =
        let longer : length t'' ≡ length t' = ap length et' ∙ length-stepped f.waiting.place st t' in
        let mine = apart-pop m.place fs' f (subst (IsApart m.place) ef apart_here) in (
          record {
            each = λ i h ne apart.
                let a = apart-pop i fs' f (subst (IsApart i) ef apart) in
                subst (P i) (ap (rec_at i) et' ∙ rec-stepped i f.waiting.place st t' a.0 ∙ ap (rec_at i) et ∙ rec-ended i m.place status c t ne)
                (k.each i (omega (arith, long, longer, h)) (λ e. a.0 (e ∙ ep)) a.1);
          },
          subst (P m.place) (ap (rec_at m.place) et' ∙ rec-stepped m.place f.waiting.place st t' mine.0 ∙ ap (rec_at m.place) et ∙ rec-ended_same m.place status c t here)
              (k.each m.place (omega (arith, long, longer, here)) (λ e. mine.0 (e ∙ ep)) mine.1),
        )

-- ---- what is kept

-- the command that exits is recorded, if it didn't run
pub ended-kept : {S : Type 0} (old t : List Record) (m : Active (Activity S)) (fs : List (Frame (Activity S))) (i : Replaying old t m fs) (now : Activity S) (s : Spoke) (on : Speaks_on old m.machine now s) (status n c : ℕ) → s ≡ Exits status n → c ≡ n → IsKept old (with_exit (rec_at m.place t) status c)
ended-kept old t m fs i now s on status n c es ec = ends-recorded old (rec_at m.place t) status c n m.machine now s es ec i.linked on

-- the records that are told to be the kept ones of their numbers are so where less is told
pub still-less : (still less : Bool) (old : List Record) → (IsTrue less → IsTrue still) → (i : ℕ) (r : Record) → IsStillAt still old i r → IsStillAt less old i r
still-less still less old before i r h = λ t. h (before t)

-- a record that is the kept one of its number wasn't given up
pub ended-none : (old : List Record) (r : Record) (place status c : ℕ) → place < length old → with_exit r status c ≡ rec_at place old → cause_of old r ≡ None
unfolding cause_of
ended-none old r place status c here is =
    let key : (rec_at place old).key ≡ r.key = ap (λ (x : Record). x.key) (sym is) in
    cause-same old (places_of r.key old) r.steps (count_of r.key (take place old)) place (found_place r.key old place here key) (ap (λ (x : Record). x.steps) is)

-- where its machine runs
running-not : {S : Type 0} (a : Activity S) (seat : Seat) → IsRunning a → a ≡ Replays seat → ⊥
running-not (Runs machine) seat r e = absurd cc
running-not (Replays other) seat r e = r

running-cause : {S : Type 0} (old : List Record) (r : Record) (was now : Activity S) (s : Spoke) → cause_of old r ≡ None → IsLinked old r was → Speaks_on old was now s → IsRunning now → ⊥
running-cause old r (Runs machine) now s none l h runs = let z : None ≡ Some l.0 = sym none ∙ l.1 in absurd cc
running-cause old r (Replays seat) now s none l h runs = running-not now seat runs h.0

pub ended-running : {S : Type 0} (old t : List Record) (m : Active (Activity S)) (fs : List (Frame (Activity S))) → Replaying old t m fs → (now : Activity S) (s : Spoke) → Speaks_on old m.machine now s → IsRunning now → (status c : ℕ) → ¬ IsAsKept old m.place (with_exit (rec_at m.place t) status c)
ended-running old t m fs i now s on runs status c kept =
    running-cause old (rec_at m.place t) m.machine now s (ended-none old (rec_at m.place t) m.place status c kept.0 kept.1) i.linked on runs
