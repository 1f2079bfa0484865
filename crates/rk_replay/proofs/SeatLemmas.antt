-- Places of replayed commands.
use Rattle.std.proofs.Common.{◌≡◌, ◌≢◌, ℕ, ◌+◌, ◌≤◌, ◌<◌, true, false, cond, List, [], ◌∷◌, ◌++◌, length, take, drop, filter, Some, None, refl, sym, ◌∙◌, ap, subst, arith}
use Rattle.std.proofs.lemmas.List.{length-map, length-take-le, take-take}
use Rattle.std.specs.List.{AllByRecursion as Each}
use Rattle.std.specs.Map.{lookup}
use Rattle.rk_calls.specs.declared.answer.Answer.{Answer}
use Rattle.rk_calls.specs.declared.drive.Spoke.{Spoke}
use Rattle.rk_calls.specs.declared.drive.Spoke.TheVariants.{Call as Calls}
use Rattle.rk_calls.specs.Keys.{KeyValue, same_key}
use Rattle.tr_record.specs.declared.records.Record.{Record}
use Rattle.tr_record.specs.declared.steps.Step.{Step}
use Rattle.tr_record.specs.Places.{places_of}
use Rattle.tr_record.specs.Rec.{rec_at}
use Rattle.tr_record.proofs.KeyLemmas.{same_key-Decides}
use Rattle.tr_matching.specs.declared.cause.Cause.TheVariants.{Differs}
use Rattle.tr_matching.specs.declared.group.Group.{Group}
use Rattle.tr_matching.specs.declared.place.Place.{Place}
use Rattle.tr_matching.specs.declared.place.Taken.TheVariants as taken
use Rattle.tr_matching.specs.Earlier.{EarlierRecords, IsRest}
use Rattle.tr_matching.specs.Groups.{AreGroups, Grows, IsCommon, IsKnown, first_of, group_at, numbers_of}
use Rattle.tr_matching.specs.Left.{AreTalkAlike, begins, is_answered, left, next_at, next_in}
use Rattle.tr_matching.specs.Matching.{AllSay, head_of}
use Rattle.tr_matching.specs.Once.{IsOnce}
use Rattle.tr_matching.specs.Places.{IsAt, IsBegun, TakesOn}
use Rattle.tr_matching.specs.Steps.{answer_at, answers_of, step, step_at}
use Rattle.tr_matching.proofs.EachLemmas.{each-both, each-filter, each-map, each-passes, filter-true}
use Rattle.tr_matching.proofs.FilterLemmas.{answered-tells}
use Rattle.tr_matching.proofs.GroupLemmas.{calls-on, known-say}
use Rattle.tr_matching.proofs.LeftLemmas.{answers-push, left-more}
use Rattle.tr_matching.proofs.MemberLemmas.{some-numbers}
use Rattle.tr_matching.proofs.NextLemmas.{next_step}
use Rattle.tr_matching.proofs.OnceLemmas.{once-each, once-filter, once-first, once-none}
use Rattle.rk_traces.specs.Following.{next-take}
use Rattle.rk_replay.specs.declared.talks.Lead.TheVariants.{On, GivenUp}
use Rattle.rk_replay.specs.declared.talks.Seat.{Seat}
use Rattle.rk_replay.specs.declared.talks.Talks.{Talks}
use Rattle.rk_replay.specs.Seats.{AreTalks, GoesFurther, IsFirstSeat, IsSeat, Leads, answered_with, left_with}
use Rattle.rk_replay.proofs.KeyLemmas.{IsOf, left-in, places-in}

pub head-cons : (xs : List ℕ) → xs ≢ [] → (others : List ℕ) × (xs ≡ head_of xs ∷ others)
head-cons [] ne = absurd (ne refl)
head-cons (x ∷ xs) ne = (xs, refl)

-- ---- a command is launched

module _ (e : EarlierRecords) (groups : List Group) (key : KeyValue) (g : ℕ) (seat : Seat) (all : AreGroups e groups) (begun : IsBegun e groups g) (are : IsOnce e.records [] (places_of key e.records) (numbers_of (group_at g groups))) (first : seat.rec ≡ first_of (group_at g groups))
    (place : seat.place ≡ record { group = g; at = 0; rest = (group_at g groups).start }) where
  pub begins-first : IsFirstSeat e.records key seat
  begins-first =
      let some = head-cons (numbers_of (group_at g groups)) (some-numbers (group_at g groups).members (all g begun.0).common.some) in
      let f = once-first e.records (places_of key e.records) (numbers_of (group_at g groups)) (first_of (group_at g groups)) some.0 are some.1 in
      (f.0, ap (λ (p : Place). p.at) place, f.1 ∙ ap (λ i. i ∷ f.0) (sym first))

  of-key : IsOf e.records key seat.rec
  of-key =
      let in_key : Each (IsOf e.records key) (seat.rec ∷ begins-first.0) = subst (Each (IsOf e.records key)) begins-first.2 (places-in e.records key) in
      in_key.0

  pub begins-seat : IsSeat e groups seat
  begins-seat = record {
    at = subst (IsAt e groups) (sym place) (record { here = begun.0; within = omega arith; rest = begun.1 });
    are =
        subst (λ (p : Place). IsOnce e.records [] (left_with e.records seat.rec p.at) (numbers_of (group_at p.group groups))) (sym place)
        (subst (λ l. IsOnce e.records [] l (numbers_of (group_at g groups)))
        (ap (λ k. places_of k e.records) (sym of-key.1) ∙ sym (filter-true (places_of (rec_at seat.rec e.records).key e.records))) are);
    first = ap (λ (p : Place). first_of (group_at p.group groups)) place ∙ sym first;
  }

-- ---- groups grow

pub seat-grows : (e : EarlierRecords) (before now : List Group) (seat : Seat) → Grows before now → IsSeat e before seat → IsSeat e now seat
seat-grows e before now seat w s =
    let h : seat.place.group < length before = s.at.here in
    let same = w.same seat.place.group h in
    record {
      at = record {
        here = (let m = w.more in omega arith);
        within = (let x = w.alike seat.place.group h in let y = s.at.within in omega arith);
        rest = subst (λ f. IsRest e f seat.place.at seat.place.rest) (sym (ap head_of same)) s.at.rest;
      };
      are = subst (IsOnce e.records [] (left_with e.records seat.rec seat.place.at)) (sym same) s.are;
      first = ap head_of same ∙ s.first;
    }

pub begun-grows : (e : EarlierRecords) (before now : List Group) (g : ℕ) → Grows before now → IsBegun e before g → IsBegun e now g
begun-grows e before now g w b = (
  (let m = w.more in let h : g < length before = b.0 in omega arith),
  subst (λ f. IsRest e f 0 (group_at g now).start) (sym (ap head_of (w.same g b.0)))
      (subst (λ r. IsRest e (first_of (group_at g before)) 0 r) (sym (w.start g b.0)) b.1),
)

abbrev IsKeys : EarlierRecords → List Group → KeyValue → ℕ → Type 0
IsKeys e groups key g = IsBegun e groups g × IsOnce e.records [] (places_of key e.records) (numbers_of (group_at g groups))

keys-grows : (e : EarlierRecords) (before now : List Group) (key : KeyValue) (g : ℕ) → Grows before now → IsKeys e before key g → IsKeys e now key g
keys-grows e before now key g w k = (begun-grows e before now g w k.0, subst (IsOnce e.records [] (places_of key e.records)) (sym (w.same g k.0.0)) k.1)

-- no key more
pub talks-same : (e : EarlierRecords) (was now : Talks) → AreTalks e was → now.firsts.entries ≡ was.firsts.entries → AreGroups e now.groups.items → Grows was.groups.items now.groups.items → AreTalks e now
talks-same e was now t es all w = record {
  groups = all;
  firsts = λ key g f. keys-grows e was.groups.items now.groups.items key g w (t.firsts key g (ap (lookup (same_key key)) (sym es) ∙ f));
}

-- no key was launched
pub talks-none : (e : EarlierRecords) (talks : Talks) → talks.groups.items ≡ [] → talks.firsts.entries ≡ [] → AreTalks e talks
talks-none e talks eg ef = record {
  groups = λ g h. absurd (let z : length talks.groups.items ≡ 0 = ap length eg in omega arith);
  firsts = λ key g f. absurd (let none : None ≡ Some g = sym (ap (lookup (same_key key)) ef) ∙ f in cc);
}

-- one key more
pub talks-more : (e : EarlierRecords) (was now : Talks) (key copy : KeyValue) (g : ℕ) → AreTalks e was → copy ≡ key → ((q : KeyValue) → lookup (same_key q) now.firsts.entries ≡ cond (same_key copy q) (Some g) (lookup (same_key q) was.firsts.entries))
    → AreGroups e now.groups.items → Grows was.groups.items now.groups.items → IsBegun e now.groups.items g → IsOnce e.records [] (places_of key e.records) (numbers_of (group_at g now.groups.items)) → AreTalks e now
talks-more e was now key copy g t same puts all w begun are = record {
  groups = all;
  firsts = λ q h f.
      (elim (same_key copy q) as (λ b. same_key copy q ≡ b → cond b (Some g) (lookup (same_key q) was.firsts.entries) ≡ Some h → IsKeys e now.groups.items q h) [
        | true ↦ λ yes eq.
            let is : g ≡ h = cc in
            let q_is : key ≡ q = sym same ∙ (same_key-Decides copy q).0 yes in
            subst (IsKeys e now.groups.items q) is (begun, subst (λ k. IsOnce e.records [] (places_of k e.records) (numbers_of (group_at g now.groups.items))) q_is are)
        | false ↦ λ no eq. keys-grows e was.groups.items now.groups.items q h w (t.firsts q h eq)
      ]) refl (sym (puts q) ∙ f);
}

-- ---- an answer is taken

step-is : (s t : Step) (a : Answer) → Calls s.call s.cost ≡ Calls t.call t.cost → s.answer ≡ a → s ≡ step t.cost t.call a
step-is s t a e ea =
    let ec : s.call ≡ t.call = cc in
    let ek : s.cost ≡ t.cost = cc in
    ap (λ c. step c s.call s.answer) ek ∙ ap (λ c. step t.cost c s.answer) ec ∙ ap (step t.cost t.call) ea

take-less : (at n : ℕ) (xs ys : List Step) → at ≤ n → take n xs ≡ take n ys → take at xs ≡ take at ys
take-less at n xs ys le e = sym (take-take at n xs le) ∙ ap (take at) e ∙ take-take at n ys le

-- records that did the same are alike in what they have next
next-alike : (at : ℕ) (a b : Record) → AreTalkAlike a b → next_at at a ≡ next_at at b
next-alike at a b h = ap (λ n. next_in n a.exit_cost (drop at a.steps)) h.1 ∙ ap (λ n. next_in b.exit n (drop at a.steps)) h.2 ∙ ap (λ l. next_in b.exit b.exit_cost (drop at l)) h.0

-- what all have next of which each talk counts once, all have
pub all-once : (old : List Record) (at : ℕ) (s : Spoke) (numbers kept : List ℕ) → IsOnce old [] numbers kept → AllSay old at s kept → AllSay old at s numbers
all-once old at s numbers kept o all = once-each old (λ i. next_at at (rec_at i old) ≡ s) numbers kept (λ j i h q. sym (next-alike at (rec_at j old) (rec_at i old) h) ∙ q) o all

-- records of a group with this one's first steps and what it has next
abbrev AreLike : List Record → ℕ → ℕ → ℕ → Type 0
AreLike old at rec i = (take at (rec_at i old).steps ≡ take at (rec_at rec old).steps) × (next_at at (rec_at i old) ≡ next_at at (rec_at rec old))

like-alike : (old : List Record) (at rec j i : ℕ) → AreTalkAlike (rec_at j old) (rec_at i old) → AreLike old at rec j → AreLike old at rec i
like-alike old at rec j i h like = (ap (take at) (sym h.0) ∙ like.0, sym (next-alike at (rec_at j old) (rec_at i old) h) ∙ like.1)

pub begin-like : (e : EarlierRecords) (it : Group) (at : ℕ) → IsCommon e it → at ≤ it.alike → Each (λ i. take at (rec_at i e.records).steps ≡ take at (rec_at (first_of it) e.records).steps) (numbers_of it)
begin-like e it at c le =
    each-map (λ i. take it.alike (rec_at i e.records).steps ≡ take it.alike (rec_at (first_of it) e.records).steps) (λ i. take at (rec_at i e.records).steps ≡ take at (rec_at (first_of it) e.records).steps)
    (λ i p. take-less at it.alike (rec_at i e.records).steps (rec_at (first_of it) e.records).steps le p) (numbers_of it) c.alike

all-like : (e : EarlierRecords) (it : Group) (at : ℕ) → IsCommon e it → at ≤ it.alike → IsKnown at it → Each (AreLike e.records at (first_of it)) (numbers_of it)
all-like e it at c le k =
    each-both (λ i. take at (rec_at i e.records).steps ≡ take at (rec_at (first_of it) e.records).steps) (λ i. next_at at (rec_at i e.records) ≡ next_at at (rec_at (first_of it) e.records)) (numbers_of it)
    (begin-like e it at c le) (known-say e it at c k)

module _ (e : EarlierRecords) (groups : List Group) (seat : Seat) (a : Answer) (all : AreGroups e groups) (s : IsSeat e groups seat) (known : IsKnown seat.place.at (group_at seat.place.group groups)) (asks : seat.place.at < length (rec_at seat.rec e.records).steps) where
  old : List Record
  old = e.records

  like : Each (AreLike e.records seat.place.at seat.rec) (left_with e.records seat.rec seat.place.at)
  like =
      once-each e.records (AreLike e.records seat.place.at seat.rec) (left_with e.records seat.rec seat.place.at) (numbers_of (group_at seat.place.group groups)) (like-alike e.records seat.place.at seat.rec) s.are
      (subst (λ f. Each (AreLike e.records seat.place.at f) (numbers_of (group_at seat.place.group groups))) s.first
      (all-like e (group_at seat.place.group groups) seat.place.at (all seat.place.group s.at.here).common s.at.within known))

  -- those of the group that were answered so
  answered-once : IsOnce e.records [] (answered_with e.records seat a) (filter (is_answered e.records seat.place.at a) (numbers_of (group_at seat.place.group groups)))
  answered-once =
      once-filter e.records (is_answered e.records seat.place.at a) (left_with e.records seat.rec seat.place.at) [] (numbers_of (group_at seat.place.group groups))
      (λ j i h. ap (λ l. begins (a ∷ []) (drop seat.place.at l)) h.0) s.are

  -- what holds of each that was answered so
  abbrev IsFurther : ℕ → Type 0
  IsFurther i = (AreLike e.records seat.place.at seat.rec i × IsOf e.records (rec_at seat.rec e.records).key i) × (is_answered e.records seat.place.at a i ≡ true)

  further : Each IsFurther (answered_with e.records seat a)
  further =
      each-both (λ i. AreLike e.records seat.place.at seat.rec i × IsOf e.records (rec_at seat.rec e.records).key i) (λ i. is_answered e.records seat.place.at a i ≡ true) (answered_with e.records seat a)
      (each-filter (λ i. AreLike e.records seat.place.at seat.rec i × IsOf e.records (rec_at seat.rec e.records).key i) (is_answered e.records seat.place.at a) (left_with e.records seat.rec seat.place.at)
      (each-both (AreLike e.records seat.place.at seat.rec) (IsOf e.records (rec_at seat.rec e.records).key) (left_with e.records seat.rec seat.place.at) like
      (left-in e.records (rec_at seat.rec e.records).key (answers_of (take seat.place.at (rec_at seat.rec e.records).steps)))))
      (each-passes (is_answered e.records seat.place.at a) (left_with e.records seat.rec seat.place.at))

  further-steps : (i : ℕ) → IsFurther i
      → take (seat.place.at + 1) (rec_at i e.records).steps
      ≡ take seat.place.at (rec_at seat.rec e.records).steps
      ++ step (step_at seat.place.at (rec_at seat.rec e.records).steps).cost (step_at seat.place.at (rec_at seat.rec e.records).steps).call a ∷ []
  further-steps i f =
      let at : ℕ = seat.place.at in
      let says : next_at seat.place.at (rec_at i e.records) ≡ Calls (step_at seat.place.at (rec_at seat.rec e.records).steps).call (step_at seat.place.at (rec_at seat.rec e.records).steps).cost = f.0.0.1 ∙ next_step seat.place.at (rec_at seat.rec e.records) asks in
      let lt = calls-on seat.place.at (rec_at i e.records) (step_at seat.place.at (rec_at seat.rec e.records).steps).call (step_at seat.place.at (rec_at seat.rec e.records).steps).cost says in
      let is = step-is (step_at seat.place.at (rec_at i e.records).steps) (step_at seat.place.at (rec_at seat.rec e.records).steps) a (sym (next_step seat.place.at (rec_at i e.records) lt) ∙ says)
      (answered-tells e.records seat.place.at a i f.1) in
      next-take (rec_at i e.records).steps seat.place.at lt
      ∙ ap (λ l. l ++ step_at seat.place.at (rec_at i e.records).steps ∷ []) f.0.0.0
      ∙ ap (λ st. take seat.place.at (rec_at seat.rec e.records).steps ++ st ∷ []) is

  -- those that are left with the first of them
  module _ (now : Seat) (others : List ℕ) (is : answered_with e.records seat a ≡ now.rec ∷ others) (at : now.place.at ≡ seat.place.at + 1) where
    first-further : IsFurther now.rec
    first-further = let f : Each IsFurther (now.rec ∷ others) = subst (Each IsFurther) is further in f.0

    pub goes-further : GoesFurther e.records seat a now
    goes-further = record { at = at; others = others; are = is; key = first-further.0.1.1; steps = further-steps now.rec first-further }

    pub further-left : answered_with e.records seat a ≡ left_with e.records now.rec now.place.at
    further-left =
        let st = step_at seat.place.at (rec_at seat.rec e.records).steps in
        let before : List Answer = answers_of (take seat.place.at (rec_at seat.rec e.records).steps) in
        let many : length (answers_of (take seat.place.at (rec_at seat.rec e.records).steps)) ≡ seat.place.at =
        length-map (take seat.place.at (rec_at seat.rec e.records).steps) (λ (x : Step). x.answer) ∙ length-take-le seat.place.at (rec_at seat.rec e.records).steps (omega arith) in
        let answers : answers_of (take now.place.at (rec_at now.rec e.records).steps) ≡ answers_of (take seat.place.at (rec_at seat.rec e.records).steps) ++ a ∷ [] =
        ap (λ n. answers_of (take n (rec_at now.rec e.records).steps)) at ∙ ap answers_of goes-further.steps ∙ answers-push (take seat.place.at (rec_at seat.rec e.records).steps) st.cost st.call a in
        let here : left_with e.records now.rec now.place.at ≡ left e.records (answers_of (take seat.place.at (rec_at seat.rec e.records).steps) ++ a ∷ []) (places_of (rec_at seat.rec e.records).key e.records) =
        ap (λ l. left e.records l (places_of (rec_at now.rec e.records).key e.records)) answers
        ∙ ap (λ k. left e.records (answers_of (take seat.place.at (rec_at seat.rec e.records).steps) ++ a ∷ []) (places_of k e.records)) first-further.0.1.1 in
        sym
        (here ∙ left-more e.records before a (places_of (rec_at seat.rec e.records).key e.records)
        ∙ ap (λ n. filter (is_answered e.records n a) (left_with e.records seat.rec seat.place.at)) many)

  -- where the answer leads on
  module _ (after : List Group) (all_after : AreGroups e after) where
    pub leads-on : (place : Place) (rec : ℕ) → TakesOn e seat.place.at (numbers_of (group_at seat.place.group groups)) a after (taken.On place) → rec ≡ first_of (group_at place.group after)
        → Leads e after seat a (On (record { rec = rec; place = place }))
    leads-on place rec t first =
        let some = head-cons (numbers_of (group_at place.group after)) (some-numbers (group_at place.group after).members (all_after place.group t.0.here).common.some) in
        let once : IsOnce e.records [] (answered_with e.records seat a) (numbers_of (group_at place.group after)) = subst (IsOnce e.records [] (answered_with e.records seat a)) (sym t.2) answered-once in
        let f = once-first e.records (answered_with e.records seat a) (numbers_of (group_at place.group after)) (first_of (group_at place.group after)) some.0 once some.1 in
        let is : answered_with e.records seat a ≡ rec ∷ f.0 = f.1 ∙ ap (λ i. i ∷ f.0) (sym first) in
        let now : Seat = record { rec = rec; place = place } in (
          record {
            at = t.0;
            are = subst (λ l. IsOnce e.records [] l (numbers_of (group_at place.group after))) (further-left now f.0 is t.1) once;
            first = sym first;
          },
          goes-further now f.0 is t.1,
        )

    pub leads-off : (cause : _) → TakesOn e seat.place.at (numbers_of (group_at seat.place.group groups)) a after (taken.GivenUp cause) → Leads e after seat a (GivenUp cause)
    leads-off cause t = (
      once-none e.records (answered_with e.records seat a) (filter (is_answered e.records seat.place.at a) (numbers_of (group_at seat.place.group groups))) answered-once t.0,
      t.1 ∙ ap (λ f. Differs (seat.place.at + 1) (answer_at e.records seat.place.at f) a) s.first,
    )
