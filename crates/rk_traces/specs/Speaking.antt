-- Each record of a run is spoken, and what the records paid is what the run paid.
use Rattle.std.proofs.Common.{◌≡◌, ◌≢◌, ℕ, zero, suc, ◌+◌, ◌-◌, ◌≤◌, ◌<◌, List, [], length, leb, Bool, true, false, ◌⊎◌, refl, sym, ◌∙◌, ap, subst, arith, inl, inr}
use Rattle.std.proofs.lemmas.Bool.{leb-true, leb-false}
use Rattle.std.proofs.lemmas.Bool.Decides.{eqb_tells}
use Rattle.rk_calls.specs.declared.call.Call.{Call}
use Rattle.rk_calls.specs.declared.call.Call.TheVariants.{Launch}
use Rattle.rk_calls.specs.declared.answer.Answer.{Answer}
use Rattle.rk_calls.specs.declared.answer.Answer.TheVariants.{Joined}
use Rattle.rk_calls.specs.declared.drive.Spoke.{Spoke}
use Rattle.rk_calls.specs.declared.drive.Spoke.TheVariants.{Call as Calls, Exit as Exits, Short}
use Rattle.rk_calls.specs.Talk.{Says, Lasts}
use Rattle.rk_calls.specs.Saying.{speaks, goes_on}
use Rattle.rk_calls.specs.Heard.{IsPaid}
use Rattle.rk_calls.specs.Fits.{fits, is_launch}
use Rattle.rk_calls.specs.Keys.{KeyValue}
use Rattle.rk_calls.specs.Refs.{RefsHeld, passed_refs}
use Rattle.rk_calls.specs.Given.{Given}
use Rattle.tr_record.specs.declared.records.Record.{Record}
use Rattle.tr_record.specs.Rec.{rec_at, begun, stepped, ended}
use Rattle.rk_traces.specs.Own.{total}
use Rattle.rk_traces.specs.Run.{Environment, Outcome, Done, Spent, On, and_then, step, after_answer, after_launch, after_ask, after_spoke, runs, run, fresh}
use Rattle.rk_traces.specs.Spoken.{follow, Follows, IsSpoken, AreSpoken}
use Rattle.rk_traces.specs.Places.{length-begun, length-stepped, length-ended, rec-begun, rec-begun_last, rec-stepped, rec-stepped_same, rec-ended, rec-ended_same}
use Rattle.rk_traces.specs.Lasting.{asks-exact, ends-exact, AllLast, Lasts-follow}
use Rattle.rk_traces.specs.Following.{follow-snoc, Follows-snoc}
use Rattle.rk_traces.specs.Running.{paid}
use Rattle.rk_traces.specs.Totals.{total-begun, total-stepped, total-ended}

le_or_lt-by : (m n : ℕ) (b : Bool) → leb m n ≡ b → (m ≤ n) ⊎ (n < m)
le_or_lt-by m n true e = inl (leb-true m n e)
le_or_lt-by m n false e = inr (leb-false m n e)

le_or_lt : (m n : ℕ) → (m ≤ n) ⊎ (n < m)
le_or_lt m n = le_or_lt-by m n (leb m n) refl

-- the world's answers fit
abbrev pub AnswersFit : {W : Type 0} → Environment W → Type 0
AnswersFit {W} g = (w : W) (refs : RefsHeld) (call : Call) → is_launch call ≡ false → fits call (g.given w refs call).answer ≡ true

-- the command at a place stands where its talk so far leaves it
pub record Stands {W : Type 0} (g : Environment W) (t : List Record) (place : ℕ) (x : Says) : Type 0 where
  pub here : place < length t
  pub unended : (rec_at place t).exit_cost ≡ 0
  pub follows : Follows (g.first (rec_at place t).key) (rec_at place t).steps
  pub says : x ≡ follow (g.first (rec_at place t).key) (rec_at place t).steps

-- its run ends with its record spoken, and those of the commands that it launched; the others stay; and the
-- records have what was paid
pub record Speaks {W : Type 0} (g : Environment W) (t t' : List Record) (place p left : ℕ) : Type 0 where
  pub long : length t ≤ length t'
  pub kept : (i : ℕ) → i < length t → i ≢ place → rec_at i t' ≡ rec_at i t
  pub itself : IsSpoken g.first (rec_at place t')
  pub new : (i : ℕ) → length t ≤ i → i < length t' → IsSpoken g.first (rec_at i t')
  pub pays : total t' + left ≡ total t + p

abbrev pub Ends_spoken : {W : Type 0} → Environment W → List Record → ℕ → ℕ → Outcome W → Type 0
Ends_spoken g t place p (Done w status left t') = Speaks g t t' place p left
Ends_spoken g t place p Spent = Unit {0}

module _ {W : Type 0} (g : Environment W) (lasts : AllLast g.first) (place : ℕ) where
  lasting : (t : List Record) (x : Says) → Stands g t place x → Lasts x
  lasting t x i = rw i.says (Lasts-follow (g.first (rec_at place t).key) (lasts (rec_at place t).key) (rec_at place t).steps i.follows)

  stands-step : (t : List Record) (p c : ℕ) (x : Says) (b : Answer) (call : Call) → fits call b ≡ true → Stands g t place x → speaks p x ≡ Calls call c → Stands g (stepped place (step c call b) t) place (goes_on c x b)
  stands-step t p c x b call ef i e =
      let same = rec-stepped_same place (step c call b) t i.here in
      let told : speaks c (follow (g.first (rec_at place t).key) (rec_at place t).steps) ≡ Calls call c = ap (speaks c) (sym i.says) ∙ asks-exact x (lasting t x i) c p call e in
      record {
        here = rw length-stepped i.here;
        unended = ap (λ (r : Record). r.exit_cost) same ∙ i.unended;
        follows = rw same (Follows-snoc (g.first (rec_at place t).key) (rec_at place t).steps (step c call b) i.follows (told, ef));
        says = rw same (ap (λ x. goes_on c x b) i.says ∙ sym (follow-snoc (g.first (rec_at place t).key) (rec_at place t).steps (step c call b)));
      }

  spoken-ended : (t : List Record) (p c : ℕ) (x : Says) (status : ℕ) → Stands g t place x → speaks p x ≡ Exits status c → Speaks g t (ended place status c t) place p (p - c)
  spoken-ended t p c x status i e =
      let same = rec-ended_same place status c t i.here in
      let n = length-ended place status c t in
      let met : c ≤ p = subst (IsPaid p) e (paid p x) in
      let tot = total-ended place status c t i.here i.unended in
      record {
        long = omega arith;
        kept = λ j h ne. rec-ended j place status c t ne;
        itself = rw same (record { follows = i.follows; ends = ap (speaks c) (sym i.says) ∙ ends-exact x (lasting t x i) c p status e });
        new = λ j h k. absurd (omega arith);
        pays = omega arith;
      }

  -- it goes on after a step
  later : (t t1 : List Record) (o : Outcome W) (p q : ℕ) → length t1 ≡ length t → ((i : ℕ) → i ≢ place → rec_at i t1 ≡ rec_at i t) → total t1 + q ≡ total t + p → Ends_spoken g t1 place q o → Ends_spoken g t place p o
  later t t1 (Done w status left t') p q n k tot h = record {
    long = (let l : length t1 ≤ length t' = h.long in omega arith);
    kept = λ i lt ne. h.kept i (omega arith) ne ∙ k i ne;
    itself = h.itself;
    new = λ i le lt. h.new i (omega arith) lt;
    pays = (let e : total t' + left ≡ total t1 + q = h.pays in omega arith);
  }
  later t t1 Spent p q n k tot h = tt

  -- it goes on after a command that it launched
  after-joined : (t t2 t3 : List Record) (o : Outcome W) (key : KeyValue) (p q r : ℕ) → place < length t → Speaks g (begun key t) t2 (length t) q r → length t3 ≡ length t2 → ((i : ℕ) → i ≢ place → rec_at i t3 ≡ rec_at i t2) → total t3 + q ≡ total t2 + p → Ends_spoken g t3 place r o → Ends_spoken g t place p o
  after-joined t t2 t3 (Done w status left t4) key p q r here c n k tot h =
      let l1 : length (begun key t) ≡ length t + 1 = length-begun key t in
      let l2 : length (begun key t) ≤ length t2 = c.long in
      let l4 : length t3 ≤ length t4 = h.long in
      let b = total-begun key t in
      let e1 : total t2 + r ≡ total (begun key t) + q = c.pays in
      let e2 : total t4 + left ≡ total t3 + r = h.pays in
      record {
        long = omega arith;
        kept = λ i lt ne.
            let ne' : i ≢ length t = omega arith in
            h.kept i (omega arith) ne ∙ k i ne ∙ c.kept i (omega arith) ne' ∙ rec-begun i key t lt;
        itself = h.itself;
        new = λ i le lt.
            let ne : i ≢ place = omega arith in
            elim (le_or_lt (length t3) i) [
              | inl old ↦ h.new i old lt
              | inr young ↦
                  let same = h.kept i young ne ∙ k i ne in
                  elim (eqb_tells i (length t)) [
                    | inl e ↦ rw same (rw e.1 c.itself)
                    | inr e ↦ let ne' = e.1 in rw same (c.new i (omega arith) (omega arith))
                  ]
            ];
        pays = omega arith;
      }
  after-joined t t2 t3 Spent key p q r here c n k tot h = tt

stands-first : {W : Type 0} (g : Environment W) (t : List Record) (key : KeyValue) → Stands g (begun key t) (length t) (g.first key)
stands-first g t key =
    let same = rec-begun_last key t in
    record {
      here = rw length-begun (omega arith);
      unended = ap (λ (r : Record). r.exit_cost) same;
      follows = rw same tt;
      says = rw same refl;
    }

stands-joined : {W : Type 0} (g : Environment W) (t t' : List Record) (place : ℕ) (x : Says) → length t ≤ length t' → rec_at place t' ≡ rec_at place t → Stands g t place x → Stands g t' place x
stands-joined g t t' place x n e i = record {
  here = (let h : place < length t = i.here in omega arith);
  unended = ap (λ (r : Record). r.exit_cost) e ∙ i.unended;
  follows = rw e i.follows;
  says = rw e i.says;
}

module _ {W : Type 0} (g : Environment W) (lasts : AllLast g.first) (fit : AnswersFit g) (on : On W) (ih : (p place : ℕ) (refs : RefsHeld) (x : Says) (w : W) (t : List Record) → Stands g t place x → Ends_spoken g t place p (on p place refs x w t)) where
  after-child : (p place c : ℕ) (key : KeyValue) (map : List (ℕ × ℕ)) (refs : RefsHeld) (x : Says) (t : List Record) → Stands g t place x → speaks p x ≡ Calls (Launch key map) c → (o : Outcome W) → Ends_spoken g (begun key t) (length t) (p - c) o → Ends_spoken g t place p (and_then o (after_launch on place refs (goes_on c x) c (Launch key map)))
  after-child p place c key map refs x t i e (Done w status left t2) h =
      let here : place < length t = i.here in
      let ne : place ≢ length t = omega arith in
      let l1 : length (begun key t) ≡ length t + 1 = length-begun key t in
      let l2 : length (begun key t) ≤ length t2 = h.long in
      let same = h.kept place (omega arith) ne ∙ rec-begun place key t here in
      let stands = stands-joined g t t2 place x (omega arith) same i in
      let st = step c (Launch key map) (Joined status) in
      let stands' = stands-step g lasts place t2 p c x (Joined status) (Launch key map) refl stands e in
      let met : c ≤ p = (subst (IsPaid p) e (paid p x)).1 in
      let tot = total-stepped place (step c (Launch key map) (Joined status)) t2 stands.here in
      after-joined g lasts place t t2 (stepped place (step c (Launch key map) (Joined status)) t2) (on left place refs (goes_on c x (Joined status)) w (stepped place (step c (Launch key map) (Joined status)) t2)) key p (p - c) left here h
      (length-stepped place (step c (Launch key map) (Joined status)) t2) (λ i ne. rec-stepped i place (step c (Launch key map) (Joined status)) t2 ne) (omega arith)
      (ih left place refs (goes_on c x (Joined status)) w (stepped place (step c (Launch key map) (Joined status)) t2) stands')
  after-child p place c key map refs x t i e Spent h = tt

  spoken-answered : (p place c : ℕ) (call : Call) (x : Says) (t : List Record) (it : Given W) → fits call it.answer ≡ true → Stands g t place x → speaks p x ≡ Calls call c → Ends_spoken g t place p (after_answer on p place (goes_on c x) t c call it)
  spoken-answered p place c call x t it ef i e =
      let met : c ≤ p = (subst (IsPaid p) e (paid p x)).1 in
      let tot = total-stepped place (step c call it.answer) t i.here in
      later g lasts place t (stepped place (step c call it.answer) t) (on (p - c) place it.refs (goes_on c x it.answer) it.world (stepped place (step c call it.answer) t)) p (p - c)
      (length-stepped place (step c call it.answer) t) (λ j ne. rec-stepped j place (step c call it.answer) t ne) (omega arith)
      (ih (p - c) place it.refs (goes_on c x it.answer) it.world (stepped place (step c call it.answer) t) (stands-step g lasts place t p c x it.answer call ef i e))

  spoken-asked : (p place : ℕ) (refs : RefsHeld) (x : Says) (w : W) (t : List Record) → Stands g t place x → (c : ℕ) (call : Call) → speaks p x ≡ Calls call c → Ends_spoken g t place p (after_ask g on p place refs x w t c call)
  spoken-asked p place refs x w t i c (Launch key map) e =
      after-child p place c key map refs x t i e (on (p - c) (length t) (passed_refs refs map) (g.first key) w (begun key t)) (ih (p - c) (length t) (passed_refs refs map) (g.first key) w (begun key t) (stands-first g t key))
  spoken-asked p place refs x w t i c call e = spoken-answered p place c call x t (g.given w refs call) (fit w refs call refl) i e

  spoken-spoken : (p place : ℕ) (refs : RefsHeld) (x : Says) (w : W) (t : List Record) → Stands g t place x → (s : Spoke) → speaks p x ≡ s → Ends_spoken g t place p (after_spoke g on p place refs x w t s)
  spoken-spoken p place refs x w t i (Calls call c) e = spoken-asked p place refs x w t i c call e
  spoken-spoken p place refs x w t i (Exits status c) e = spoken-ended g lasts place t p c x status i e
  spoken-spoken p place refs x w t i Short e = tt

runs-spoken : {W : Type 0} (g : Environment W) (lasts : AllLast g.first) (fit : AnswersFit g) (n p place : ℕ) (refs : RefsHeld) (x : Says) (w : W) (t : List Record) → Stands g t place x → Ends_spoken g t place p (runs g n p place refs x w t)
runs-spoken g lasts fit zero p place refs x w t i = tt
runs-spoken g lasts fit (suc n) p place refs x w t i = spoken-spoken g lasts fit (runs g n) (λ p place refs x w t. runs-spoken g lasts fit n p place refs x w t) p place refs x w t i (speaks p x) refl

module _ {W : Type 0} (g : Environment W) (lasts : AllLast g.first) (fit : AnswersFit g) (p : ℕ) (key : KeyValue) (refs : RefsHeld) (w w' : W) (status left : ℕ) (t : List Record) (e : fresh g p key refs w ≡ Done w' status left t) where
  whole : Speaks g (begun key []) t 0 p left
  unfolding run
  whole = subst (Ends_spoken g (begun key []) 0 p) e (runs-spoken g lasts fit (suc p) p 0 refs (g.first key) w (begun key []) (stands-first g [] key))

  -- each record of a fresh run is spoken
  pub fresh-spoken : AreSpoken g.first t
  fresh-spoken i lt =
      let h = whole in
      let l : length (begun key []) ≡ 1 = length-begun key [] in
      elim (eqb_tells i 0) [
        | inl z ↦ rw z.1 h.itself
        | inr z ↦ let nz = z.1 in h.new i (omega arith) lt
      ]

  -- and all of them paid what the run paid
  pub fresh-paid : total t + left ≡ p
  fresh-paid =
      let h : total t + left ≡ total (begun key []) + p = whole.pays in
      let z = total-begun key [] in
      omega arith
