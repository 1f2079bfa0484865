-- A fresh run, and its records gone through once more.
use Rattle.std.proofs.Common.{◌≡◌, ◌≢◌, ℕ, zero, suc, ◌-◌, ◌≤◌, ◌<◌, List, [], ◌∷◌, ◌++◌, length, Some, false, refl, sym}
use Rattle.std.proofs.Common.{◌∙◌, ap, subst, arith}
use Rattle.std.proofs.lemmas.List.{append_assoc, append-nil}
use Rattle.std.specs.Prelude.{slice_get}
use Rattle.rk_calls.specs.declared.call.Call.{Call}
use Rattle.rk_calls.specs.declared.call.Call.TheVariants.{Launch}
use Rattle.rk_calls.specs.declared.answer.Answer.TheVariants.{Joined}
use Rattle.rk_calls.specs.declared.drive.Spoke.{Spoke}
use Rattle.rk_calls.specs.declared.drive.Spoke.TheVariants.{Call as Calls, Exit as Exits, Short}
use Rattle.rk_calls.specs.Fits.{is_launch}
use Rattle.rk_calls.specs.Given.{Given}
use Rattle.rk_calls.specs.Keys.{KeyValue}
use Rattle.rk_calls.specs.Refs.{RefsHeld, passed_refs, top_refs}
use Rattle.rk_calls.specs.Saying.{speaks, goes_on}
use Rattle.rk_calls.specs.Talk.{Says}
use Rattle.rk_kernel.specs.Do.{answered}
use Rattle.rk_kernel.specs.Feet.{foot_by}
use Rattle.rk_kernel.specs.World.{World}
use Rattle.rk_traces.specs.Places.{length-begun, length-stepped, length-ended, rec-begun, rec-begun_last, rec-stepped, rec-stepped_same, rec-ended}
use Rattle.rk_traces.specs.Places.{rec-ended_same}
use Rattle.rk_traces.specs.Run.{Environment, On, Outcome, Done, Spent, after_answer, after_ask, after_launch, after_spoke, and_then, environment}
use Rattle.rk_traces.specs.Run.{fresh, run, runs, step}
use Rattle.tr_record.specs.declared.records.Record.{Record}
use Rattle.tr_record.specs.declared.steps.Step.{Step}
use Rattle.tr_record.specs.Rec.{begun, ended, fresh_rec, no_key, rec_at, stepped}
use Rattle.rk_plan.specs.declared.event.Event.{Event}
use Rattle.rk_plan.specs.declared.event.Event.TheVariants.{Touches, Launches, Ends}
use Rattle.rk_plan.specs.Laws.{IsRetraced}
use Rattle.rk_plan.specs.Retracing.{Command, Course, Retraces, launched, start, started, turn}
use Rattle.rk_plan.proofs.RetraceLemmas.{called-other, get-at}

abbrev course : List Command → ℕ → World → Course
course under_way n w = record { under_way = under_way; begun = n; world = w }

abbrev command : ℕ → RefsHeld → List Step → Command
command owner refs left = record { owner = owner; refs = refs; left = left }

retraces-on : (table : List Record) (a b c : Course) (es fs : List Event) → Retraces table a es b → Retraces table b fs c → Retraces table a (es ++ fs) c
retraces-on table a b c [] fs r s = subst (λ x. Retraces table x fs c) (sym r) s
retraces-on table a b c (e ∷ es) fs r s = (r.0, r.1, r.2, retraces-on table r.0 b c es fs r.3 s)

-- these are the records that a run has added, from a number on
pub record HasAdded (table now : List Record) (n : ℕ) : Type 0 where
  long : length now ≤ length table
  added : (i : ℕ) → n ≤ i → i < length now → rec_at i table ≡ rec_at i now

-- from one table to another the command at a place went on so: its record has more steps, those before it stay, and whatever comes behind
-- them, the steps are gone through
-- from the one world to the other
pub record GoesOn (before now : List Record) (place : ℕ) (refs : RefsHeld) (w after : World) : Type 0 where
  more : List Step
  steps : (rec_at place now).steps ≡ (rec_at place before).steps ++ more
  long : length before ≤ length now
  kept : (i : ℕ) → i < length before → i ≢ place → rec_at i now ≡ rec_at i before
  goes : (table : List Record) (others : List Command) (n m : ℕ) → n ≡ length before → m ≡ length now → HasAdded table now n
      → (events : List Event) × Retraces table (course (command place refs more ∷ others) n w) events (course others m after)

abbrev EndsSo : List Record → ℕ → RefsHeld → World → Outcome World → Type 0
EndsSo t place refs w (Done after status left now) = GoesOn t now place refs w after
EndsSo t place refs w Spent = Unit {0}

ends-so : (t : List Record) (place status c : ℕ) (refs : RefsHeld) (w : World) → place < length t → GoesOn t (ended place status c t) place refs w w
ends-so t place status c refs w here =
    let same = rec-ended_same place status c t here in
    let long = length-ended place status c t in
    record {
      more = [];
      steps = ap (λ (r : Record). r.steps) same ∙ sym (append-nil (rec_at place t).steps);
      long = omega arith;
      kept = λ i h ne. rec-ended i place status c t ne;
      goes = λ table others n m en em has. (
        Ends place ∷ [],
        (course others n w, refl, tt, ap (λ n. course others n w) (en ∙ sym long ∙ sym em)),
      );
    }

asks-so : (t now : List Record) (place c : ℕ) (refs : RefsHeld) (w after : World) (call : Call) → place < length t → is_launch call ≡ false
    → GoesOn (stepped place (step c call (answered w refs call).answer) t) now place (answered w refs call).refs (answered w refs call).world after
    → GoesOn t now place refs w after
asks-so t now place c refs w after call here other g =
    let it : Given World = answered w refs call in
    let st : Step = step c call it.answer in
    let same = rec-stepped_same place st t here in
    let len = length-stepped place st t in
    record {
      more = st ∷ g.more;
      steps = g.steps ∙ ap (λ (r : Record). r.steps ++ g.more) same ∙ append_assoc (rec_at place t).steps (st ∷ []) g.more;
      long = (let l : length (stepped place st t) ≤ length now = g.long in omega arith);
      kept = λ i h ne. g.kept i (omega arith) ne ∙ rec-stepped i place st t ne;
      goes = λ table others n m en em has.
          let rest = g.goes table others n m (en ∙ sym len) em has in (
            Touches place (foot_by w refs call) ∷ rest.0,
            (
              course (command place it.refs g.more ∷ others) n it.world,
              ap Some
                  (called-other table (course (command place refs (st ∷ g.more) ∷ others) n w) (command place refs g.more) others call
                  (λ key map e. launches-not call key map e other)),
              (λ o. refl),
              rest.1,
            ),
          );
    }
  where
    launches-not : (call : Call) (key : KeyValue) (map : List (ℕ × ℕ)) → call ≡ Launch key map → is_launch call ≡ false → ⊥
    launches-not call key map e f = (let h : is_launch (Launch key map) ≡ false = subst (λ c. is_launch c ≡ false) e f in cc)

joins-so : (t t2 now : List Record) (place c status : ℕ) (refs : RefsHeld) (w middle after : World) (key : KeyValue) (map : List (ℕ × ℕ)) → place < length t
    → GoesOn (begun key t) t2 (length t) (passed_refs refs map) w middle
    → GoesOn (stepped place (step c (Launch key map) (Joined status)) t2) now place refs middle after → GoesOn t now place refs w after
joins-so t t2 now place c status refs w middle after key map here child g =
    let st : Step = step c (Launch key map) (Joined status) in
    let l1 = length-begun key t in
    let l2 : length (begun key t) ≤ length t2 = child.long in
    let l3 = length-stepped place st t2 in
    let l4 : length (stepped place st t2) ≤ length now = g.long in
    let ne : place ≢ length t = omega arith in
    let same = rec-stepped_same place st t2 (omega arith) in
    let own : rec_at place t2 ≡ rec_at place t = child.kept place (omega arith) ne ∙ rec-begun place key t here in
    let new : (rec_at (length t) t2).steps ≡ child.more = child.steps ∙ ap (λ (r : Record). r.steps ++ child.more) (rec-begun_last key t) in
    record {
      more = st ∷ g.more;
      steps =
          g.steps
          ∙ ap (λ (r : Record). r.steps ++ g.more) same
          ∙ ap (λ (r : Record). (r.steps ++ st ∷ []) ++ g.more) own
          ∙ append_assoc (rec_at place t).steps (st ∷ []) g.more;
      long = omega arith;
      kept = λ i h no_place.
          let ne' : i ≢ length t = omega arith in
          g.kept i (omega arith) no_place ∙ rec-stepped i place st t2 no_place ∙ child.kept i (omega arith) ne' ∙ rec-begun i key t h;
      goes = λ table others n m en em has.
          let old : (i : ℕ) → n ≤ i → i < length t2 → rec_at i table ≡ rec_at i t2 =
          λ i low high.
          let ne' : i ≢ place = omega arith in
          has.added i low (omega arith) ∙ g.kept i (omega arith) ne' ∙ rec-stepped i place st t2 ne' in
          let lt : n < length table = (let a : length now ≤ length table = has.long in omega arith) in
          let here_is : (rec_at n table).steps ≡ child.more = ap (λ (r : Record). r.steps) (old n (omega arith) (omega arith)) ∙ ap (λ k.
          (rec_at k t2).steps) en ∙ new in
          let got : slice_get table n ≡ Some (rec_at n table) = get-at table n (fresh_rec no_key 0) lt in
          let first =
          child.goes table (command place refs g.more ∷ others) (suc n) (length t2) (omega arith) refl
          (record { long = (let a : length now ≤ length table = has.long in omega arith); added = λ i low high. old i (omega arith) high }) in
          let rest =
          g.goes table others (length t2) m (sym l3) em
          (record { long = has.long; added = λ i low high. has.added i (omega arith) high }) in
          let next : Course = course (command n (passed_refs refs map) child.more ∷ command place refs g.more ∷ others) (suc n) w in
          let turned : turn table (course (command place refs (st ∷ g.more) ∷ others) n w) ≡ Some (Launches place, next) =
          ap (λ o. let it : Event × Course = (
            Launches place,
            launched (course (command place refs (st ∷ g.more) ∷ others) n w)
                (command place refs g.more ∷ others) (passed_refs refs map) o,
          ) in Some it) got
          ∙ ap (λ sts. let it : Event × Course = (
            Launches place,
            course (command n (passed_refs refs map) sts ∷ command place refs g.more ∷ others)
                (suc n) w,
          ) in Some it) here_is in
          let own_number : course (command n (passed_refs refs map) child.more ∷ command place refs g.more ∷ others) (suc n) w
          ≡ course (command (length t) (passed_refs refs map) child.more ∷ command place refs g.more ∷ others) (suc n) w =
          ap (λ k. course (command k (passed_refs refs map) child.more ∷ command place refs g.more ∷ others) (suc n) w) en in (
            Launches place ∷ (first.0 ++ rest.0),
            (
              next,
              turned,
              (λ f. absurd (let h : is_launch (Launch key map) ≡ false = f in cc)),
              subst (λ x. Retraces table x (first.0 ++ rest.0) (course others m after)) (sym own_number)
                  (retraces-on table _ (course (command place refs g.more ∷ others) (length t2) middle) (course others m after) first.0 rest.0 first.1 rest.1),
            ),
          );
    }

module _ (first : KeyValue → Says) where
  abbrev g : Environment World
  g = environment first answered

  abbrev AllGo : On World → Type 0
  AllGo on = (p place : ℕ) (refs : RefsHeld) (x : Says) (w : World) (t : List Record) → place < length t → EndsSo t place refs w (on p place refs x w t)

  answered-on : (on : On World) → AllGo on → (p place c : ℕ) (refs : RefsHeld) (x : Says) (w : World) (t : List Record) (call : Call) → place < length t
      → is_launch call ≡ false → EndsSo t place refs w (after_answer on p place (goes_on c x) t c call (answered w refs call))
  answered-on on all p place c refs x w t call here other =
      let it : Given World = answered w refs call in
      let st : Step = step c call it.answer in
      go (on (p - c) place it.refs (goes_on c x it.answer) it.world (stepped place st t))
      (all (p - c) place it.refs (goes_on c x it.answer) it.world (stepped place st t) (rw (length-stepped place st t) here))
    where
      go : (o : Outcome World) → EndsSo (stepped place (step c call (answered w refs call).answer) t) place (answered w refs call).refs
          (answered w refs call).world o
          → EndsSo t place refs w o
      go (Done after status left now) h = asks-so t now place c refs w after call here other h
      go Spent h = tt

  joined-on : (on : On World) → AllGo on → (place c : ℕ) (refs : RefsHeld) (x : Says) (w : World) (t : List Record) (key : KeyValue) (map : List (ℕ
      × ℕ)) → place < length t
      → (o : Outcome World) → EndsSo (begun key t) (length t) (passed_refs refs map) w o
      → EndsSo t place refs w (and_then o (after_launch on place refs (goes_on c x) c (Launch key map)))
  joined-on on all place c refs x w t key map here (Done middle status left t2) child =
      let st : Step = step c (Launch key map) (Joined status) in
      let l1 = length-begun key t in
      let l2 : length (begun key t) ≤ length t2 = child.long in
      let l3 = length-stepped place st t2 in
      go (on left place refs (goes_on c x (Joined status)) middle (stepped place st t2))
      (all left place refs (goes_on c x (Joined status)) middle (stepped place st t2) (omega arith))
    where
      go : (o : Outcome World) → EndsSo (stepped place (step c (Launch key map) (Joined status)) t2) place refs middle o → EndsSo t place refs w o
      go (Done after s l now) h = joins-so t t2 now place c status refs w middle after key map here child h
      go Spent h = tt
  joined-on on all place c refs x w t key map here Spent child = tt

  asked-on : (on : On World) → AllGo on → (p place c : ℕ) (refs : RefsHeld) (x : Says) (w : World) (t : List Record) (call : Call) → place < length t
      → EndsSo t place refs w (after_ask g on p place refs x w t c call)
  asked-on on all p place c refs x w t (Launch key map) here =
      let l1 = length-begun key t in
      joined-on on all place c refs x w t key map here (on (p - c) (length t) (passed_refs refs map) (first key) w (begun key t))
      (all (p - c) (length t) (passed_refs refs map) (first key) w (begun key t) (omega arith))
  asked-on on all p place c refs x w t call here = answered-on on all p place c refs x w t call here refl

  spoken-on : (on : On World) → AllGo on → (p place : ℕ) (refs : RefsHeld) (x : Says) (w : World) (t : List Record) (s : Spoke) → place < length t
      → EndsSo t place refs w (after_spoke g on p place refs x w t s)
  spoken-on on all p place refs x w t (Calls call c) here = asked-on on all p place c refs x w t call here
  spoken-on on all p place refs x w t (Exits status c) here = ends-so t place status c refs w here
  spoken-on on all p place refs x w t Short here = tt

  runs-on : (n : ℕ) → AllGo (runs g n)
  runs-on zero p place refs x w t here = tt
  runs-on (suc n) p place refs x w t here = spoken-on (runs g n) (runs-on n) p place refs x w t (speaks p x) here

  pub retraced-so : (p : ℕ) (key : KeyValue) (before after : World) (status left : ℕ) (table : List Record)
      → fresh g p key top_refs before ≡ Done after status left table → IsRetraced table before after
  unfolding run
  retraced-so p key before after status left table e =
      let l1 = length-begun key [] in
      let it : GoesOn (begun key []) table 0 top_refs before after =
      subst (EndsSo (begun key []) 0 top_refs before) e (runs-on (suc p) p 0 top_refs (first key) before (begun key []) (omega arith)) in
      let l2 : length (begun key []) ≤ length table = it.long in
      let has : HasAdded table table 1 = record { long = omega arith; added = λ i low high. refl } in
      let gone = it.goes table [] 1 (length table) (sym l1) refl has in
      let steps : (rec_at 0 table).steps ≡ it.more = it.steps ∙ ap (λ (r : Record). r.steps ++ it.more) (rec-begun_last key []) in
      let got : slice_get table 0 ≡ Some (rec_at 0 table) = get-at table 0 (fresh_rec no_key 0) (omega arith) in
      let from : start before table ≡ course (command 0 top_refs it.more ∷ []) 1 before =
      ap (started before) got ∙ ap (λ sts. course (command 0 top_refs sts ∷ []) 1 before) steps in
      record {
        events = gone.0;
        end = course [] (length table) after;
        retraces = subst (λ x. Retraces table x gone.0 (course [] (length table) after)) (sym from) gone.1;
        done = refl;
        all_begun = refl;
        world_is = refl;
      }
