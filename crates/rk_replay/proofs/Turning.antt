-- What holds of a build under way holds after each turn, with what was counted and paid.
use Rattle.std.proofs.Common.{◌≡◌, ◌⊎◌, ℕ, ◌+◌, ◌≤◌, ◌<◌, List, [], ◌∷◌, ◌++◌, length, refl, sym, ◌∙◌, ap, subst, arith, inl, inr, Bool, true, false, IsFalse, IsTrue}
use Rattle.rk_calls.specs.declared.answer.Answer.{Answer}
use Rattle.rk_calls.specs.declared.answer.Answer.TheVariants.{Joined}
use Rattle.rk_calls.specs.declared.call.Call.{Call}
use Rattle.rk_calls.specs.declared.call.Call.TheVariants.{Launch}
use Rattle.rk_calls.specs.declared.drive.Spoke.TheVariants.{Call as Calls, Exit as Exits}
use Rattle.rk_calls.specs.Keys.{KeyValue}
use Rattle.rk_calls.specs.Talk.{Says}
use Rattle.tr_record.specs.declared.records.Record.{Record}
use Rattle.tr_record.specs.Contents.{AreContents}
use Rattle.tr_record.specs.Rec.{begun, stepped, ended, rec_at, with_exit}
use Rattle.tr_matching.specs.Groups.{Grows}
use Rattle.rk_traces.specs.declared.active.Frame.{Frame}
use Rattle.rk_traces.specs.Own.{total}
use Rattle.rk_traces.specs.Places.{length-begun, length-ended, length-stepped}
use Rattle.rk_traces.specs.Run.{step}
use Rattle.rk_traces.specs.Started.{started}
use Rattle.rk_replay.specs.declared.activity.Activity.{Activity}
use Rattle.rk_replay.specs.declared.replay.Replay.{Replay}
use Rattle.rk_replay.specs.declared.talks.Talks.{Talks}
use Rattle.rk_replay.specs.Activities.{IsLaunched, IsRunning, IsSeated, IsWaiting, KnowsNext, Takes, counted, given_up, live_cost, made}
use Rattle.rk_replay.specs.Causes.{launch_cause, noted}
use Rattle.rk_replay.specs.Links.{IsAsKept, IsKept, IsStillAt, Keeps, pend}
use Rattle.rk_replay.specs.Ran.{HaveOneNumber, ran_count, ran_total}
use Rattle.rk_replay.specs.Seats.{AreTalks}
use Rattle.rk_replay.specs.UnderWay.{IsUnderWay, HasSaid, AreCounted, HasPaid, Launches, Answers, Joins, Ends, as_heard, with_machine}
use Rattle.rk_replay.proofs.Keeping.{Keeps-start, Keeps-launch, Keeps-ask, Keeps-join, Keeps-less, Kept-all, Kept-ask, Kept-join, Kept-launch, all-keep, apart-below, ended-kept, ended-running, still-less}
use Rattle.rk_replay.proofs.Noting.{causes-none, begun-causes}
use Rattle.rk_replay.proofs.SeatedLemmas.{all-grow, knows-waiting, seated-grows, seated-join, seated-launch, seated-start}
use Rattle.rk_replay.proofs.Replaying.{Pays, Replaying-start, Pays-start, Replaying-ask, Pays-ask, Causes-ask, Replaying-launch, Pays-launch, Pays-end, Causes-end, join-place, join-noted, Waiting-join, Replaying-join, Causes-join, Pays-join, pend-push, none-from_length}

-- ---- what is counted

module _ {S : Type 0} (was now : Replay S) (e : now.earlier ≡ was.earlier) (s s' l l' more count paid : ℕ) where
  counted-by : Pays was.earlier.records was.table now.table more count paid → s' ≡ started more s → l' ≡ l + count → AreCounted was now s s' l l'
  counted-by p es el =
      let ran : ran_count was.earlier.records now.table ≡ ran_count was.earlier.records was.table + more = p.counts.ran in
      let live : ran_total was.earlier.records now.table ≡ ran_total was.earlier.records was.table + count = p.counts.live in
      record { more = more; ran = rw e ran; machines = es; turns = rw e (omega arith) }

-- ---- the first command is launched

pub under-start : {S : Type 0} (r : Replay S) (t0 : List Record) (key : KeyValue) → AreContents r.earlier.contents r.earlier.records → AreTalks r.earlier r.talks → t0 ≡ [] → IsLaunched r.earlier.records key r.top.machine → r.top.place ≡ length t0 → r.table ≡ begun key t0 → r.stack.items ≡ []
    → r.causes ≡ launch_cause r.top.machine ∷ [] → IsSeated r.earlier r.talks.groups.items r.top.machine → IsTrue r.still → IsUnderWay r
under-start r t0 key are talks e0 l ep et ef noted seated begins =
    let p = Pays-start r.earlier.records t0 r.table key r.top.machine e0 l et in
    let none : length t0 ≡ 0 = ap length e0 in
    let one : length r.table ≡ length t0 + 1 = ap length et ∙ length-begun key t0 in
    record {
      contents = are;
      talks = talks;
      replays = Replaying-start r.earlier.records t0 r.table key r.top r.stack.items e0 ef l ep et;
      keeps = Keeps-start (λ _. IsKept r.earlier.records) t0 r.table key r.top r.stack.items e0 ep et;
      still = Keeps-start (IsStillAt r.still r.earlier.records) t0 r.table key r.top r.stack.items e0 ep et;
      told = λ one f. absurd (let z : false ≡ true = sym f ∙ begins in cc);
      seated = seated-start r.earlier r.talks.groups.items r.top.machine r.stack.items ef seated;
      causes = begun-causes r.earlier.records t0 [] key r.top.machine r.table r.causes l et (causes-none r.earlier.records t0 [] e0 refl) noted;
      records = omega (arith, one, none);
    }

-- ---- the command that goes on is heard

pub under-heard : {S : Type 0} (r : Replay S) (m : Activity S) (talks : Talks) → IsUnderWay r → AreTalks r.earlier talks → Grows r.talks.groups.items talks.groups.items → IsUnderWay (with_machine r.top.machine (as_heard m talks r))
under-heard r m talks u are w = record {
  contents = u.contents;
  talks = are;
  replays = u.replays;
  keeps = u.keeps;
  still = u.still;
  told = u.told;
  seated = record { here = seated-grows r.earlier r.talks.groups.items talks.groups.items r.top.machine w u.seated.here; below = all-grow r.earlier r.talks.groups.items talks.groups.items r.stack.items w u.seated.below };
  causes = u.causes;
  records = u.records;
}

-- ---- another command is launched

module _ {S : Type 0} (r now : Replay S) (e : now.earlier ≡ r.earlier) (key : KeyValue) (map : List (ℕ × ℕ)) (cost : ℕ) (s : HasSaid r (Calls (Launch key map) cost)) (l : IsLaunched r.earlier.records key now.top.machine) (k : Launches key map cost r now) where
  launch-pays : Pays r.earlier.records r.table now.table (made now.top.machine) 0 0
  launch-pays = Pays-launch _ _ _ _ s.under_way.replays _ _ s.on key now.top.machine now.table l k.table

  pend-is : pend now.stack.items ≡ pend r.stack.items + cost
  pend-is = pend-push r.stack.items now.stack.items (record { waiting = r.top; key = key; map = map; cost = cost }) k.stack

  pub under-launch : now.causes ≡ r.causes ++ launch_cause now.top.machine ∷ [] → now.still ≡ r.still → AreTalks r.earlier now.talks → Grows r.talks.groups.items now.talks.groups.items → IsSeated r.earlier now.talks.groups.items now.top.machine → IsUnderWay now
  under-launch noted still talks grows seated =
      let u = s.under_way in
      let long : length now.table ≡ length r.table + 1 = ap length k.table ∙ length-begun key r.table in
      let same : total now.table ≡ total r.table + 0 = launch-pays.total in
      let dear : 1 ≤ cost = s.paid.0 in
      let few : length r.table ≤ total r.table + pend r.stack.items + 1 = u.records in
      record {
        contents = rw e u.contents;
        talks = rw e talks;
        replays = rw e (Replaying-launch _ _ _ _ u.replays _ _ s.on (Launch key map) key map cost cost now.top now.table now.stack.items refl refl refl l k.place k.table k.stack);
        keeps = rw e (Keeps-launch _ _ _ _ u.keeps r.top.machine key map cost now.top now.table now.stack.items k.place k.table k.stack);
        still = rw (e, still) (Keeps-launch _ _ _ _ u.still r.top.machine key map cost now.top now.table now.stack.items k.place k.table k.stack);
        told = rw (e, still) (λ one f kept. u.told one f (Kept-launch _ _ _ _ r.top.machine key map cost now.top now.table now.stack.items k.place k.table k.stack kept));
        seated = rw e (seated-launch _ _ _ _ _ _ _ grows u.seated.below s.knows seated k.stack);
        causes = rw e (begun-causes _ _ _ _ _ _ _ l k.table u.causes noted);
        records = omega (arith, long, same, dear, few, pend-is);
      }

  pub counted-launch : (starts starts' : ℕ) → starts' ≡ started (made now.top.machine) starts → AreCounted r now starts starts' 0 0
  counted-launch starts starts' es = counted-by r now e starts starts' 0 0 (made now.top.machine) 0 0 launch-pays es refl

  pub paid-launch : HasPaid cost r now
  paid-launch = let same : total now.table ≡ total r.table + 0 = launch-pays.total in omega (arith, same, pend-is)

-- ---- the command that goes on takes an answer

module _ {S : Type 0} (r now : Replay S) (e : now.earlier ≡ r.earlier) (call : Call) (cost : ℕ) (a : Answer) (s : HasSaid r (Calls call cost)) (k : Answers call cost a r now) (takes : Takes r.earlier.records r.top.machine a now.top.machine) where
  ask-pays : Pays r.earlier.records r.table now.table (given_up r.top.machine now.top.machine) (counted r.top.machine now.top.machine cost (rec_at r.top.place now.table)) cost
  ask-pays = Pays-ask _ _ _ _ s.under_way.replays _ _ s.on call cost cost a now.table now.top.machine refl refl k.table takes

  pub under-answer : now.causes ≡ noted r.earlier.records r.top.place r.top.machine a now.top.machine r.causes → now.still ≡ r.still → AreTalks r.earlier now.talks → Grows r.talks.groups.items now.talks.groups.items → IsSeated r.earlier now.talks.groups.items now.top.machine → IsUnderWay now
  under-answer noted still talks grows seated =
      let u = s.under_way in
      let long : length now.table ≡ length r.table = ap length k.table ∙ length-stepped r.top.place (step cost call a) r.table in
      let more : total now.table ≡ total r.table + cost = ask-pays.total in
      let few : length r.table ≤ total r.table + pend r.stack.items + 1 = u.records in
      record {
        contents = rw e u.contents;
        talks = rw e talks;
        replays = rw (e, k.stack) (Replaying-ask _ _ _ _ u.replays _ _ s.on call cost cost a now.table now.top refl refl k.table k.place takes);
        keeps = rw (e, k.stack) (Keeps-ask _ _ _ _ u.keeps (step cost call a) now.table now.top k.table k.place);
        still = rw (e, still, k.stack) (Keeps-ask _ _ _ _ u.still (step cost call a) now.table now.top k.table k.place);
        told = rw (e, still, k.stack) (λ one f kept. u.told one f (Kept-ask _ _ _ _ (step cost call a) now.table now.top k.table k.place kept));
        seated = rw (e, k.stack) (record { here = seated; below = all-grow _ _ _ _ grows u.seated.below });
        causes = rw e (Causes-ask _ _ _ _ u.replays _ _ s.on call cost cost a now.table now.top.machine r.causes now.causes refl refl k.table takes u.causes noted);
        records = rw k.stack (omega (arith, long, more, few));
      }

  pub counted-answer : (starts starts' live live' : ℕ) → starts' ≡ started (given_up r.top.machine now.top.machine) starts → live' ≡ live + counted r.top.machine now.top.machine cost (rec_at r.top.place now.table) → AreCounted r now starts starts' live live'
  counted-answer starts starts' live live' es el = counted-by r now e starts starts' live live' (given_up r.top.machine now.top.machine) (counted r.top.machine now.top.machine cost (rec_at r.top.place now.table)) cost ask-pays es el

  pub paid-answer : HasPaid cost r now
  paid-answer = let more : total now.table ≡ total r.table + cost = ask-pays.total in rw k.stack (omega (arith, more))

-- ---- it exits

is-told : (b : Bool) → (IsFalse b → ⊥) → IsTrue b
is-told true h = refl
is-told false h = absurd (h refl)

module _ {S : Type 0} (r : Replay S) (status cost : ℕ) (s : HasSaid r (Exits status cost)) where
  exit-pays : (t : List Record) → t ≡ ended r.top.place status cost r.table → Pays r.earlier.records r.table t 0 (live_cost r.top.machine cost) cost
  exit-pays t et = Pays-end _ _ _ _ s.under_way.replays _ _ s.on status cost cost t refl et

  pub exit-total : (t : List Record) → t ≡ ended r.top.place status cost r.table → total t ≡ total r.table + cost
  exit-total t et = (exit-pays t et).total

  -- whether each record is the kept one of its number may be told
  abbrev IsNoted : Bool → Type 0
  IsNoted still = IsTrue still → (r.top.place < length r.earlier.records) × (with_exit (rec_at r.top.place r.table) status cost ≡ rec_at r.top.place r.earlier.records)

  -- and where it isn't, one of them isn't the kept one
  abbrev IsMissed : Bool → Type 0
  IsMissed still = HaveOneNumber r.earlier.contents r.earlier.records → IsFalse still → IsFalse r.still ⊎ (¬ IsAsKept r.earlier.records r.top.place (with_exit (rec_at r.top.place r.table) status cost))

  -- since it isn't the kept one, or the last one isn't, whose machine doesn't run then
  pub missed-by : (last : Bool) → (IsAsKept r.earlier.records r.top.place (with_exit (rec_at r.top.place r.table) status cost) → IsFalse last → IsRunning r.top.machine) → IsFalse r.still ⊎ IsFalse last
      → IsFalse r.still ⊎ (¬ IsAsKept r.earlier.records r.top.place (with_exit (rec_at r.top.place r.table) status cost))
  missed-by last runs (inl f) = inl f
  missed-by last runs (inr f) = inr (λ kept. ended-running _ _ _ _ s.under_way.replays _ _ s.on (runs kept f) status cost kept)

  missed : (still : Bool) → IsMissed still → HaveOneNumber r.earlier.contents r.earlier.records → IsFalse still → Keeps (IsAsKept r.earlier.records) r.table (with_machine s.was r).top r.stack.items × IsAsKept r.earlier.records r.top.place (with_exit (rec_at r.top.place r.table) status cost) → ⊥
  missed still miss one f kept = elim (miss one f) [
    | inl was ↦ s.under_way.told one was kept.0
    | inr last ↦ last kept.1
  ]

  -- and none waited for it
  module _ (now : Replay S) (e : now.earlier ≡ r.earlier) (et : now.table ≡ ended r.top.place status cost r.table) (none : length r.stack.items ≡ 0) where
    pub ends-exit : now.stack.items ≡ r.stack.items → now.causes ≡ r.causes → (IsTrue now.still → IsTrue r.still) → IsNoted now.still → IsMissed now.still → Ends status cost r now
    ends-exit ef ec before is miss =
        let u = s.under_way in
        let kept = all-keep _ _ _ _ u.keeps u.replays.here status cost now.table et (ended-kept _ _ _ _ u.replays _ _ s.on status cost cost refl refl) none in
        let less = Keeps-less _ _ _ _ u.still (IsStillAt now.still r.earlier.records) (still-less r.still now.still r.earlier.records before) in
        let still = all-keep _ _ _ _ less u.replays.here status cost now.table et is none in
        record {
          none = none-from_length r.stack.items none;
          left = ef ∙ none-from_length r.stack.items none;
          table = et;
          some = λ z. let here : r.top.place < length r.table = u.replays.here in let long : length now.table ≡ length r.table = ap length et ∙ length-ended r.top.place status cost r.table in let zero : length now.table ≡ 0 = ap length z in omega arith;
          kept = rw e kept;
          still = rw e (λ t j h. still j h t);
          told = rw e (λ one all. is-told now.still (λ f. missed now.still miss one f (Kept-all _ _ _ _ u.replays.here status cost now.table et all)));
          causes = rw (e, ec) (Causes-end _ _ _ _ u.replays _ _ s.on status cost now.table r.causes et u.causes);
        }

    pub counted-ends : (starts starts' live live' : ℕ) → starts' ≡ starts → live' ≡ live + live_cost r.top.machine cost → AreCounted r now starts starts' live live'
    counted-ends starts starts' live live' es el = counted-by r now e starts starts' live live' 0 (live_cost r.top.machine cost) cost (exit-pays now.table et) es el

  -- and a command waited for it
  module _ (t : List Record) (fs : List (Frame (Activity S))) (f : Frame (Activity S)) (et : t ≡ ended r.top.place status cost r.table) (ef : r.stack.items ≡ fs ++ f ∷ []) where
    pub exit-waiting : IsWaiting r.earlier.records f.waiting.machine
    exit-waiting = Waiting-join _ _ _ _ s.under_way.replays _ _ s.on status cost cost t fs f refl et ef

    pub exit-knows : KnowsNext r.earlier r.talks.groups.items f.waiting.machine
    exit-knows = knows-waiting _ _ _ _ _ s.under_way.seated.below ef

    pub exit-place : f.waiting.place < length t
    exit-place = join-place _ _ _ _ s.under_way.replays _ _ s.on status cost cost t fs f refl et ef

    pub exit-noted : f.waiting.place < length r.causes
    exit-noted = join-noted _ _ _ _ s.under_way.replays _ _ s.on status cost cost t fs f refl et ef r.causes s.under_way.causes

-- which goes on
module _ {S : Type 0} (r now : Replay S) (e : now.earlier ≡ r.earlier) (status cost : ℕ) (s : HasSaid r (Exits status cost)) (f : Frame (Activity S)) (ef : r.stack.items ≡ now.stack.items ++ f ∷ []) (et : now.table ≡ stepped f.waiting.place (step f.cost (Launch f.key f.map) (Joined status)) (ended r.top.place status cost r.table)) (takes : Takes r.earlier.records f.waiting.machine (Joined status) now.top.machine) where
  join-pays : Pays r.earlier.records r.table now.table (given_up f.waiting.machine now.top.machine) (live_cost r.top.machine cost + counted f.waiting.machine now.top.machine f.cost (rec_at f.waiting.place now.table)) (cost + f.cost)
  join-pays = Pays-join _ _ _ _ s.under_way.replays _ _ s.on status cost cost (ended r.top.place status cost r.table) now.stack.items f refl refl ef now.table now.top.machine et takes

  pend-was : pend r.stack.items ≡ pend now.stack.items + f.cost
  pend-was = pend-push now.stack.items r.stack.items f ef

  pub under-join : now.top.place ≡ f.waiting.place → now.causes ≡ noted r.earlier.records f.waiting.place f.waiting.machine (Joined status) now.top.machine r.causes → (IsTrue now.still → IsTrue r.still)
      → (IsTrue now.still → (r.top.place < length r.earlier.records) × (with_exit (rec_at r.top.place r.table) status cost ≡ rec_at r.top.place r.earlier.records))
      → IsMissed r status cost s now.still
      → AreTalks r.earlier now.talks → Grows r.talks.groups.items now.talks.groups.items → IsSeated r.earlier now.talks.groups.items now.top.machine → IsUnderWay now
  under-join place noted before is miss talks grows seated =
      let u = s.under_way in
      let t : List Record = ended r.top.place status cost r.table in
      let long : length now.table ≡ length r.table = ap length et ∙ length-stepped f.waiting.place (step f.cost (Launch f.key f.map) (Joined status)) t ∙ length-ended r.top.place status cost r.table in
      let more : total now.table ≡ total r.table + (cost + f.cost) = join-pays.total in
      let few : length r.table ≤ total r.table + pend r.stack.items + 1 = u.records in
      let less = Keeps-less _ _ _ _ u.still (IsStillAt now.still r.earlier.records) (still-less r.still now.still r.earlier.records before) in
      record {
        contents = rw e u.contents;
        talks = rw e talks;
        replays = rw e (Replaying-join _ _ _ _ u.replays _ _ s.on status cost cost t now.stack.items f refl refl ef now.table now.top et place takes);
        keeps = rw e (Keeps-join _ _ _ _ u.keeps u.replays.here status cost t refl (ended-kept _ _ _ _ u.replays _ _ s.on status cost cost refl refl) now.stack.items f ef (step f.cost (Launch f.key f.map) (Joined status)) now.table now.top et place);
        still = rw e (Keeps-join _ _ _ _ less u.replays.here status cost t refl is now.stack.items f ef (step f.cost (Launch f.key f.map) (Joined status)) now.table now.top et place);
        told = rw e (λ one n kept. missed r status cost s now.still miss one n
            (Kept-join _ _ _ _ u.replays.here status cost t refl now.stack.items f ef (apart-below _ _ _ _ u.replays.asking) (step f.cost (Launch f.key f.map) (Joined status)) now.table now.top et place kept));
        seated = rw e (seated-join _ _ _ _ _ _ _ grows u.seated.below ef seated);
        causes = rw e (Causes-join _ _ _ _ u.replays _ _ s.on status cost cost t now.stack.items f refl refl ef now.table now.top.machine r.causes now.causes et takes u.causes noted);
        records = omega (arith, long, more, few, pend-was);
      }

  pub counted-join : (starts starts' live live' : ℕ) → starts' ≡ started (given_up f.waiting.machine now.top.machine) starts → live' ≡ live + (live_cost r.top.machine cost + counted f.waiting.machine now.top.machine f.cost (rec_at f.waiting.place now.table)) → AreCounted r now starts starts' live live'
  counted-join starts starts' live live' es el =
      counted-by r now e starts starts' live live' (given_up f.waiting.machine now.top.machine) (live_cost r.top.machine cost + counted f.waiting.machine now.top.machine f.cost (rec_at f.waiting.place now.table)) (cost + f.cost) join-pays es el

  pub paid-join : HasPaid cost r now
  paid-join = let more : total now.table ≡ total r.table + (cost + f.cost) = join-pays.total in omega (arith, more, pend-was)

-- ---- what is said of a build since it was heard, as of before

module _ {S : Type 0} (was heard now : Replay S) (m : Activity S) (talks : Talks) (e : heard ≡ as_heard m talks was) where
  pub earlier-since : now.earlier ≡ heard.earlier → now.earlier ≡ was.earlier
  earlier-since en = en ∙ ap (λ (r : Replay S). r.earlier) e

  pub launches-since : (key : KeyValue) (map : List (ℕ × ℕ)) (cost : ℕ) → Launches key map cost heard now → Launches key map cost (as_heard m talks was) now
  launches-since key map cost k = subst (λ r. Launches key map cost r now) e k

  pub answers-since : (call : Call) (cost : ℕ) (a : Answer) → Answers call cost a heard now → Answers call cost a (as_heard m talks was) now
  answers-since call cost a k = subst (λ r. Answers call cost a r now) e k

  pub joins-since : (says waits : List Record → Activity S → Answer → Says) (status cost : ℕ) → Joins (says heard.earlier.records) (waits heard.earlier.records) status cost heard now → Joins (says was.earlier.records) (waits was.earlier.records) status cost (as_heard m talks was) now
  joins-since says waits status cost k = subst (λ (r : Replay S). Joins (says r.earlier.records) (waits r.earlier.records) status cost r now) e k

  pub ends-since : (status cost : ℕ) → Ends status cost heard now → Ends status cost (as_heard m talks was) now
  ends-since status cost k = subst (λ r. Ends status cost r now) e k

  pub says-since : (says : List Record → Activity S → Answer → Says) (a : Activity S) (b : Answer) (x : Says) → says heard.earlier.records a b ≡ x → says was.earlier.records a b ≡ x
  says-since says a b x k = subst (λ (r : Replay S). says r.earlier.records a b ≡ x) e k

  pub state-since : (says waits : List Record → Activity S → Answer → Says) (a : Activity S) (b : Answer) → says heard.earlier.records a b ≡ waits heard.earlier.records heard.top.machine b → says was.earlier.records a b ≡ waits was.earlier.records m b
  state-since says waits a b k = subst (λ (r : Replay S). says r.earlier.records a b ≡ waits r.earlier.records r.top.machine b) e k

  pub counted-since : (starts starts' live live' : ℕ) → AreCounted heard now starts starts' live live' → AreCounted (as_heard m talks was) now starts starts' live live'
  counted-since starts starts' live live' k = subst (λ r. AreCounted r now starts starts' live live') e k

  pub paid-since : (cost : ℕ) → HasPaid cost heard now → HasPaid cost was now
  paid-since cost k = subst (λ r. HasPaid cost r now) e k
