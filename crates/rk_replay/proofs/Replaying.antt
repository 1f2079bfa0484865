-- A build under way: what stands in the records of the command that goes on and of those that wait, and what
-- changes of the counts.
use Rattle.std.proofs.Common.{◌≡◌, ℕ, ◌+◌, ◌≤◌, ◌<◌, List, [], ◌∷◌, ◌++◌, length, refl, sym, ◌∙◌, ap, subst, arith, Option}
use Rattle.std.proofs.lemmas.List.Sums.{sum_by_push}
use Rattle.rk_calls.specs.declared.call.Call.{Call}
use Rattle.rk_calls.specs.declared.call.Call.TheVariants.{Launch}
use Rattle.rk_calls.specs.declared.answer.Answer.{Answer}
use Rattle.rk_calls.specs.declared.answer.Answer.TheVariants.{Joined}
use Rattle.rk_calls.specs.declared.drive.Spoke.{Spoke}
use Rattle.rk_calls.specs.declared.drive.Spoke.TheVariants.{Call as Calls, Exit as Exits}
use Rattle.rk_calls.specs.Keys.{KeyValue}
use Rattle.tr_record.specs.declared.records.Record.{Record}
use Rattle.tr_record.specs.Rec.{rec_at, begun, stepped, ended, with_step, count_of}
use Rattle.rk_traces.specs.declared.active.Active.{Active}
use Rattle.rk_traces.specs.declared.active.Frame.{Frame}
use Rattle.rk_base.specs.Paid.{Paid}
use Rattle.rk_traces.specs.Started.{started}
use Rattle.rk_traces.specs.CheckLaws.{started-adds}
use Rattle.rk_traces.specs.Own.{total}
use Rattle.rk_traces.specs.Purse.{left}
use Rattle.rk_traces.specs.Run.{step}
use Rattle.rk_traces.specs.Places.{length-begun, length-stepped, length-ended, rec-begun, rec-begun_last, rec-stepped, rec-stepped_same, rec-ended}
use Rattle.rk_traces.specs.Totals.{total-begun, total-stepped, total-ended}
use Rattle.rk_replay.specs.declared.activity.Activity.{Activity}
use Rattle.rk_replay.specs.Activities.{IsWaiting, IsLaunched, IsWhole, Speaks_on, Takes, made, given_up, counted, live_cost}
use Rattle.tr_matching.specs.declared.cause.Cause.{Cause}
use Rattle.rk_replay.specs.Causes.{AreCauses, noted}
use Rattle.rk_replay.specs.Ran.{ran_count, ran_total}
use Rattle.rk_replay.specs.Links.{AllAsk, AllOver, IsAsking, IsLinked, Replaying, pend}
use Rattle.rk_replay.proofs.Linking.{asking-waiting, asks, begins, steps, ends, whole}
use Rattle.rk_replay.proofs.Noting.{stepped-causes, ended-causes}
use Rattle.rk_replay.proofs.Totalling.{ran_total-none, ran-within, Counts, stepped-counts, ended-counts, begun-counts}

AllOver-push : {S : Type 0} (p : ℕ) (fs : List (Frame S)) (f : Frame S) → AllOver p fs → p < f.waiting.place → AllOver p (fs ++ f ∷ [])
AllOver-push p [] f o h = (h, tt)
AllOver-push p (x ∷ fs) f o h = (o.0, AllOver-push p fs f o.1 h)

AllOver-pop : {S : Type 0} (p : ℕ) (fs : List (Frame S)) (f : Frame S) → AllOver p (fs ++ f ∷ []) → (p < f.waiting.place) × AllOver p fs
AllOver-pop p [] f o = (o.0, tt)
AllOver-pop p (x ∷ fs) f o = let r = AllOver-pop p fs f o.1 in (r.0, (o.0, r.1))

AllAsk-push : {S : Type 0} (old t : List Record) (n m : ℕ) (fs : List (Frame (Activity S))) (f : Frame (Activity S)) → AllAsk old t n fs → IsAsking old (rec_at f.waiting.place t) (Launch f.key f.map) f.cost f.waiting.machine → (rec_at f.waiting.place t).exit_cost ≡ 0 → n ≤ f.waiting.place → f.waiting.place < m → AllAsk old t m (fs ++ f ∷ [])
AllAsk-push old t n m [] f b l z h k = (l, z, k, tt, tt)
AllAsk-push old t n m (x ∷ fs) f b l z h k =
    let lt : x.waiting.place < n = b.2 in
    (b.0, b.1, omega arith, AllOver-push x.waiting.place fs f b.3 (omega arith), AllAsk-push old t n m fs f b.4 l z h k)

AllAsk-pop : {S : Type 0} (old t : List Record) (n : ℕ) (fs : List (Frame (Activity S))) (f : Frame (Activity S)) → AllAsk old t n (fs ++ f ∷ []) → IsAsking old (rec_at f.waiting.place t) (Launch f.key f.map) f.cost f.waiting.machine × ((rec_at f.waiting.place t).exit_cost ≡ 0) × (f.waiting.place < n) × AllAsk old t f.waiting.place fs
AllAsk-pop old t n [] f b = (b.0, b.1, b.2, tt)
AllAsk-pop old t n (x ∷ fs) f b =
    let o = AllOver-pop x.waiting.place fs f b.3 in
    let r = AllAsk-pop old t n fs f b.4 in
    (r.0, r.1, r.2, (b.0, b.1, o.0, o.1, r.3))

AllAsk-keep : {S : Type 0} (old t t' : List Record) (n : ℕ) (fs : List (Frame (Activity S))) → ((i : ℕ) → i < n → rec_at i t' ≡ rec_at i t) → AllAsk old t n fs → AllAsk old t' n fs
AllAsk-keep old t t' n [] k b = tt
AllAsk-keep old t t' n (f ∷ fs) k b =
    let e = k f.waiting.place b.2 in
    (subst (λ r. IsAsking old r (Launch f.key f.map) f.cost f.waiting.machine) (sym e) b.0, ap (λ (r : Record). r.exit_cost) e ∙ b.1, b.2, b.3, AllAsk-keep old t t' n fs k b.4)

-- what changes of the counts, and of all that stands in the table
pub record Pays (old t t' : List Record) (more count paid : ℕ) : Type 0 where
  pub counts : Counts old t t' more count
  pub total : total t' ≡ total t + paid

-- a command is launched
launched : {S : Type 0} (old t : List Record) (key : KeyValue) (child : Active (Activity S)) (fs : List (Frame (Activity S))) → IsLaunched old key child.machine → child.place ≡ length t → AllAsk old (begun key t) (length t) fs → Replaying old (begun key t) child fs
launched old t key child fs l ep a =
    let b = begins old key (count_of key t) child.machine l in
    let last = rec-begun_last key t in
    record {
      here = rw (length-begun, ep) (omega arith);
      unended = rw (ep, last) refl;
      linked = subst (λ n. IsLinked old (rec_at n (begun key t)) child.machine) (sym ep) (subst (λ r. IsLinked old r child.machine) (sym last) b.linked);
      asking = subst (λ n. AllAsk old (begun key t) n fs) (sym ep) a;
    }

launch-pays : {S : Type 0} (old t : List Record) (key : KeyValue) (a : Activity S) → IsLaunched old key a → Pays old t (begun key t) (made a) 0 0
launch-pays old t key a l =
    let b = begins old key (count_of key t) a l in
    record { counts = begun-counts old t key (made a) b.ran b.live; total = total-begun key t ∙ omega arith }

pub Replaying-start : {S : Type 0} (old t0 t : List Record) (key : KeyValue) (child : Active (Activity S)) (fs : List (Frame (Activity S))) → t0 ≡ [] → fs ≡ [] → IsLaunched old key child.machine → child.place ≡ length t0 → t ≡ begun key t0 → Replaying old t child fs
Replaying-start old t0 t key child fs e0 ef l ep et = rw (et, ef) (launched old t0 key child [] l ep tt)

pub Pays-start : {S : Type 0} (old t0 t : List Record) (key : KeyValue) (child : Activity S) → t0 ≡ [] → IsLaunched old key child → t ≡ begun key t0 → (ran_count old t ≡ made child) × (ran_total old t ≡ 0) × (total t ≡ 0)
Pays-start old t0 t key child e0 l et =
    let p = launch-pays old t0 key child l in
    let a : ran_count old (begun key t0) ≡ ran_count old t0 + made child = p.counts.ran in
    let b : ran_total old (begun key t0) ≡ ran_total old t0 + 0 = p.counts.live in
    let c : total (begun key t0) ≡ total t0 + 0 = p.total in
    let x : ran_count old t0 ≡ 0 = ap (ran_count old) e0 in
    let y : ran_total old t0 ≡ 0 = ap (ran_total old) e0 ∙ ran_total-none old in
    let z : total t0 ≡ 0 = ap total e0 in
    rw et (omega arith, omega arith, omega arith)

-- the command that goes on takes an answer
taken : {S : Type 0} (old t : List Record) (place : ℕ) (call : Call) (c : ℕ) (a : Answer) (was now : Activity S) (next : Active (Activity S)) (fs : List (Frame (Activity S))) → place < length t → (rec_at place t).exit_cost ≡ 0 → IsAsking old (rec_at place t) call c was → Takes old was a now → AllAsk old t place fs → next.place ≡ place → next.machine ≡ now → Replaying old (stepped place (step c call a) t) next fs
taken old t place call c a was now next fs here z l k b ep em =
    let same = rec-stepped_same place (step c call a) t here in
    let s = steps old (rec_at place t) call c a was now z l k in
    rw (ep, em)
    (record {
      here = rw length-stepped here;
      unended = ap (λ (r : Record). r.exit_cost) same ∙ z;
      linked = subst (λ r. IsLinked old r now) (sym same) s.linked;
      asking = AllAsk-keep old t (stepped place (step c call a) t) place fs (λ i lt. rec-stepped i place (step c call a) t (omega arith)) b;
    })

take-pays : {S : Type 0} (old t : List Record) (place : ℕ) (call : Call) (c : ℕ) (a : Answer) (was now : Activity S) → place < length t → (rec_at place t).exit_cost ≡ 0 → IsAsking old (rec_at place t) call c was → Takes old was a now → Pays old t (stepped place (step c call a) t) (given_up was now) (counted was now c (rec_at place (stepped place (step c call a) t))) c
take-pays old t place call c a was now here z l k =
    let same = rec-stepped_same place (step c call a) t here in
    let s = steps old (rec_at place t) call c a was now z l k in
    record {
      counts = rw same (stepped-counts old t place (step c call a) (given_up was now) (counted was now c (with_step (rec_at place t) (step c call a))) here s.changes);
      total = total-stepped place (step c call a) t here;
    }

module _ {S : Type 0} (old t : List Record) (m : Active (Activity S)) (fs : List (Frame (Activity S))) (i : Replaying old t m fs) (now : Activity S) (s : Spoke) (on : Speaks_on old m.machine now s) where
  asking : (call : Call) (n c : ℕ) → s ≡ Calls call n → c ≡ n → IsAsking old (rec_at m.place t) call c now
  asking call n c es ec = asks old (rec_at m.place t) m.machine now s call c (es ∙ ap (Calls call) (sym ec)) i.linked on

  pub Waiting-ask : (call : Call) (n : ℕ) → s ≡ Calls call n → IsWaiting old now
  Waiting-ask call n es = asking-waiting old (rec_at m.place t) call n now (asking call n n es refl)

  pub Replaying-ask : (call : Call) (n c : ℕ) (b : Answer) (t' : List Record) (next : Active (Activity S)) → s ≡ Calls call n → c ≡ n → t' ≡ stepped m.place (step c call b) t → next.place ≡ m.place → Takes old now b next.machine → Replaying old t' next fs
  Replaying-ask call n c b t' next es ec et ep k =
      rw et (taken old t m.place call c b now next.machine next fs i.here i.unended (asking call n c es ec) k i.asking ep refl)

  pub Pays-ask : (call : Call) (n c : ℕ) (b : Answer) (t' : List Record) (next : Activity S) → s ≡ Calls call n → c ≡ n → t' ≡ stepped m.place (step c call b) t → Takes old now b next → Pays old t t' (given_up now next) (counted now next c (rec_at m.place t')) c
  Pays-ask call n c b t' next es ec et k = rw et (take-pays old t m.place call c b now next i.here i.unended (asking call n c es ec) k)

  pub Causes-ask : (call : Call) (n c : ℕ) (b : Answer) (t' : List Record) (next : Activity S) (cs cs' : List (Option Cause)) → s ≡ Calls call n → c ≡ n → t' ≡ stepped m.place (step c call b) t → Takes old now b next → AreCauses old t cs → cs' ≡ noted old m.place now b next cs → AreCauses old t' cs'
  Causes-ask call n c b t' next cs cs' es ec et k are en = rw (et, en) (stepped-causes old t cs m.place call c b now next i.here (asking call n c es ec) k are)

  pub Replaying-launch : (call : Call) (key : KeyValue) (map : List (ℕ × ℕ)) (n c : ℕ) (child : Active (Activity S)) (t' : List Record) (fs' : List (Frame (Activity S))) → s ≡ Calls call n → c ≡ n → call ≡ Launch key map → IsLaunched old key child.machine → child.place ≡ length t → t' ≡ begun key t → fs' ≡ fs ++ record { waiting = record { place = m.place; refs = m.refs; machine = now }; key = key; map = map; cost = c } ∷ [] → Replaying old t' child fs'
  Replaying-launch call key map n c child t' fs' es ec ek l ep et ef =
      let f : Frame (Activity S) = record { waiting = record { place = m.place; refs = m.refs; machine = now }; key = key; map = map; cost = c } in
      let kept = rec-begun m.place key t i.here in
      let a = subst (λ call. IsAsking old (rec_at m.place t) call c now) ek (asking call n c es ec) in
      let below = AllAsk-keep old t (begun key t) m.place fs (λ k lt. rec-begun k key t (let h : m.place < length t = i.here in omega arith)) i.asking in
      rw (et, ef)
      (launched old t key child (fs ++ f ∷ []) l ep
      (AllAsk-push old (begun key t) m.place (length t) fs f below
      (subst (λ r. IsAsking old r (Launch key map) c now) (sym kept) a)
      (ap (λ (r : Record). r.exit_cost) kept ∙ i.unended) (omega arith) i.here))

  pub Pays-launch : (key : KeyValue) (child : Activity S) (t' : List Record) → IsLaunched old key child → t' ≡ begun key t → Pays old t t' (made child) 0 0
  Pays-launch key child t' l et = rw et (launch-pays old t key child l)

  pub Pays-end : (status n c : ℕ) (t' : List Record) → s ≡ Exits status n → t' ≡ ended m.place status c t → Pays old t t' 0 (live_cost now c) c
  Pays-end status n c t' es et =
      rw et
      (record {
        counts = ended-counts old t m.place status c 0 (live_cost now c) i.here (ends old (rec_at m.place t) status c n m.machine now s i.unended es i.linked on);
        total = total-ended m.place status c t i.here i.unended;
      })

  -- a replayed command exits with all steps of its record
  pub Whole-end : (status n : ℕ) → s ≡ Exits status n → IsWhole old (rec_at m.place t) now
  Whole-end status n es = whole old (rec_at m.place t) status n m.machine now s es i.linked on

  pub Causes-end : (status c : ℕ) (t' : List Record) (cs : List (Option Cause)) → t' ≡ ended m.place status c t → AreCauses old t cs → AreCauses old t' cs
  Causes-end status c t' cs et are = rw et (ended-causes old t cs m.place status c i.here are)

  module _ (status n c : ℕ) (t' : List Record) (fs' : List (Frame (Activity S))) (f : Frame (Activity S)) (es : s ≡ Exits status n) (et : t' ≡ ended m.place status c t) (ef : fs ≡ fs' ++ f ∷ []) where
    popped : IsAsking old (rec_at f.waiting.place t) (Launch f.key f.map) f.cost f.waiting.machine × ((rec_at f.waiting.place t).exit_cost ≡ 0) × (f.waiting.place < m.place) × AllAsk old t f.waiting.place fs'
    popped = AllAsk-pop old t m.place fs' f (subst (AllAsk old t m.place) ef i.asking)

    pub join-place : f.waiting.place < length t'
    join-place =
        let lt : f.waiting.place < m.place = popped.2 in
        let h : m.place < length t = i.here in
        rw (et, length-ended) (omega arith)

    kept : (k : ℕ) → k < m.place → rec_at k t' ≡ rec_at k t
    kept k lt = ap (rec_at k) et ∙ rec-ended k m.place status c t (omega arith)

    waiting : IsAsking old (rec_at f.waiting.place t') (Launch f.key f.map) f.cost f.waiting.machine
    waiting = subst (λ r. IsAsking old r (Launch f.key f.map) f.cost f.waiting.machine) (sym (kept f.waiting.place popped.2)) popped.0

    unended : (rec_at f.waiting.place t').exit_cost ≡ 0
    unended = ap (λ (r : Record). r.exit_cost) (kept f.waiting.place popped.2) ∙ popped.1

    below : AllAsk old t' f.waiting.place fs'
    below = AllAsk-keep old t t' f.waiting.place fs' (λ k lt. kept k (let lt' : f.waiting.place < m.place = popped.2 in omega arith)) popped.3

    pub Waiting-join : IsWaiting old f.waiting.machine
    Waiting-join = asking-waiting old (rec_at f.waiting.place t) (Launch f.key f.map) f.cost f.waiting.machine popped.0

    pub join-noted : (cs : List (Option Cause)) → AreCauses old t cs → f.waiting.place < length cs
    join-noted cs are =
        let lt : f.waiting.place < m.place = popped.2 in
        let h : m.place < length t = i.here in
        let many : length cs ≡ length t = are.many in
        omega arith

    pub Causes-join : (t'' : List Record) (next : Activity S) (cs cs' : List (Option Cause)) → t'' ≡ stepped f.waiting.place (step f.cost (Launch f.key f.map) (Joined status)) t' → Takes old f.waiting.machine (Joined status) next → AreCauses old t cs → cs' ≡ noted old f.waiting.place f.waiting.machine (Joined status) next cs → AreCauses old t'' cs'
    Causes-join t'' next cs cs' et' k are en =
        rw (et', en) (stepped-causes old t' cs f.waiting.place (Launch f.key f.map) f.cost (Joined status) f.waiting.machine next join-place waiting k (Causes-end status c t' cs et are))

    pub Replaying-join : (t'' : List Record) (next : Active (Activity S)) → t'' ≡ stepped f.waiting.place (step f.cost (Launch f.key f.map) (Joined status)) t' → next.place ≡ f.waiting.place → Takes old f.waiting.machine (Joined status) next.machine → Replaying old t'' next fs'
    Replaying-join t'' next et' ep k =
        rw et' (taken old t' f.waiting.place (Launch f.key f.map) f.cost (Joined status) f.waiting.machine next.machine next fs' join-place unended waiting k below ep refl)

    -- the exit of the launched one, and the step of the one that waited
    pub Pays-join : (t'' : List Record) (next : Activity S) → t'' ≡ stepped f.waiting.place (step f.cost (Launch f.key f.map) (Joined status)) t' → Takes old f.waiting.machine (Joined status) next → Pays old t t'' (given_up f.waiting.machine next) (live_cost now c + counted f.waiting.machine next f.cost (rec_at f.waiting.place t'')) (c + f.cost)
    Pays-join t'' next et' k =
        let a = Pays-end status n c t' es et in
        let b = take-pays old t' f.waiting.place (Launch f.key f.map) f.cost (Joined status) f.waiting.machine next join-place unended waiting k in
        let u = stepped f.waiting.place (step f.cost (Launch f.key f.map) (Joined status)) t' in
        let a1 : ran_count old t' ≡ ran_count old t + 0 = a.counts.ran in
        let a2 : ran_total old t' ≡ ran_total old t + live_cost now c = a.counts.live in
        let a3 : total t' ≡ total t + c = a.total in
        let b1 : ran_count old (stepped f.waiting.place (step f.cost (Launch f.key f.map) (Joined status)) t') ≡ ran_count old t' + given_up f.waiting.machine next = b.counts.ran in
        let b2 : ran_total old (stepped f.waiting.place (step f.cost (Launch f.key f.map) (Joined status)) t') ≡ ran_total old t' + counted f.waiting.machine next f.cost (rec_at f.waiting.place (stepped f.waiting.place (step f.cost (Launch f.key f.map) (Joined status)) t')) = b.counts.live in
        let b3 : total (stepped f.waiting.place (step f.cost (Launch f.key f.map) (Joined status)) t') ≡ total t' + f.cost = b.total in
        rw et' (record { counts = record { ran = omega arith; live = omega arith }; total = omega arith })

pub pend-push : {S : Type 0} (fs fs' : List (Frame S)) (f : Frame S) → fs' ≡ fs ++ f ∷ [] → pend fs' ≡ pend fs + f.cost
pend-push fs fs' f e = ap pend e ∙ sum_by_push (λ (f : Frame _). f.cost) fs f

pub pend-none : {S : Type 0} (fs : List (Frame S)) → fs ≡ [] → pend fs ≡ 0
pend-none fs e = ap pend e

pub none-from_length : {A : Type 0} (xs : List A) → length xs ≡ 0 → xs ≡ []
none-from_length [] h = refl
none-from_length (x ∷ xs) h = absurd (omega arith)

-- the count of starts
pub starts-first : (s0 s n k : ℕ) → s ≡ started k s0 → n ≡ k → s ≡ started n s0
starts-first s0 s n k e en = e ∙ ap (λ m. started m s0) (sym en)

pub starts-next : (s0 s s' s'' n n' k : ℕ) → s ≡ started n s0 → s' ≡ s → s'' ≡ started k s' → n' ≡ n + k → s'' ≡ started n' s0
starts-next s0 s s' s'' n n' k e e' e'' en =
    let m : k + n ≡ n' = omega arith in
    e'' ∙ ap (started k) (e' ∙ e) ∙ sym (started-adds k n s0) ∙ ap (λ m. started m s0) m

pub live-next : (b l l' r r' k : ℕ) → l ≡ b + r → l' ≡ l + k → r' ≡ r + k → l' ≡ b + r'
live-next b l l' r r' k e e' er = omega arith

-- no more is counted than the budget had
pub few-counted : (old t : List Record) (l0 l : ℕ) (b0 b : Paid) (pending : ℕ) → l ≡ l0 + ran_total old t → b.used ≡ b0.used + (total t + pending) → b.limit ≡ b0.limit → b.used ≤ b.limit → l ≤ l0 + left b0
few-counted old t l0 l b0 b pending el eb em h = let w = ran-within old t in omega arith
