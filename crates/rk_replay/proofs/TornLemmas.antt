-- Records that are left and have no one next: one of them isn't what its command says.
use Rattle.std.proofs.Common.{◌≡◌, ℕ, zero, suc, ◌+◌, ◌≤◌, ◌<◌, List, [], ◌∷◌, length, take, get_or, Err, refl, sym, ◌∙◌, ap, subst, arith, inl, inr}
use Rattle.std.proofs.lemmas.Bool.{cases_lt}
use Rattle.std.proofs.lemmas.List.{length-map, take-take, take_all}
use Rattle.std.specs.List.{AllByRecursion as Each}
use Rattle.rk_calls.specs.declared.drive.Spoke.{Spoke}
use Rattle.rk_calls.specs.declared.drive.Spoke.TheVariants.{Call as Calls, Exit as Exits, Short}
use Rattle.rk_calls.specs.Heard.{IsPaid}
use Rattle.rk_calls.specs.Keys.{KeyValue}
use Rattle.rk_calls.specs.Saying.{speaks}
use Rattle.rk_calls.specs.Talk.{Says, Lasts}
use Rattle.tr_record.specs.declared.records.Record.{Record}
use Rattle.tr_record.specs.declared.steps.Step.{Step}
use Rattle.tr_record.specs.Rec.{rec_at}
use Rattle.tr_matching.specs.declared.group.Group.{Group}
use Rattle.tr_matching.specs.declared.member.Member.{Member}
use Rattle.tr_matching.specs.Earlier.{EarlierRecords}
use Rattle.tr_matching.specs.Groups.{AreGroups, Grows, IsMember, group_at, numbers_in, numbers_of}
use Rattle.tr_matching.specs.Left.{AreTalkAlike, next_at}
use Rattle.tr_matching.specs.Matching.{AreTorn, IsDear, head_of}
use Rattle.tr_matching.specs.Once.{IsOnce}
use Rattle.tr_matching.specs.Steps.{answers_of}
use Rattle.tr_matching.proofs.EachLemmas.{each-at, each-both, each-map}
use Rattle.tr_matching.proofs.MemberLemmas.{each-numbers}
use Rattle.tr_matching.proofs.NextLemmas.{next_end, next_step}
use Rattle.tr_matching.proofs.OnceLemmas.{IsFirstNot, once-first_not, once-part}
use Rattle.rk_traces.specs.Checked.{IsWrong, at_record}
use Rattle.rk_traces.specs.Following.{Follows-last, Follows-take, next-take}
use Rattle.rk_traces.specs.Lasting.{AllLast, asks-enough, ends-enough, Lasts-follow}
use Rattle.rk_traces.specs.Running.{paid}
use Rattle.rk_traces.specs.Spoken.{follow, Follows, IsSpoken, step_at}
use Rattle.rk_traces.specs.Started.{started, StartsOne}
use Rattle.rk_traces.specs.declared.check.CheckErr.{CheckErr}
use Rattle.rk_traces.specs.declared.check.CheckErr.TheVariants.{Forged, NoMemory}
use Rattle.rk_traces.specs.declared.feeding.FeedErr.{FeedErr}
use Rattle.rk_traces.specs.declared.feeding.FeedErr.TheVariants.{Forged as ForgedStep, NoMemory as NoRoom}
use Rattle.rk_replay.specs.declared.talks.Seat.{Seat}
use Rattle.rk_replay.specs.Seats.{IsSeat, left_with}
use Rattle.rk_replay.specs.Starts.{StartsTold}
use Rattle.rk_replay.specs.Stops.{IsForged}
use Rattle.rk_replay.specs.Taking.{AreTornLeft, IsFirstForged, IsSpokenAt}
use Rattle.rk_replay.proofs.KeyLemmas.{IsOf, ascends-once, ascends-zero, left-ascends, left-in}
use Rattle.rk_replay.proofs.SeatLemmas.{begin-like}

-- ---- what is said once is said by every purse that meets it

abbrev cost_of : Spoke → ℕ
cost_of (Calls call cost) = cost
cost_of (Exits status cost) = cost
cost_of Short = 0

abbrev IsSaid : Spoke → Type 0
IsSaid (Calls call cost) = Unit {0}
IsSaid (Exits status cost) = Unit {0}
IsSaid Short = ⊥

enough : (x : Says) → Lasts x → (s : Spoke) → IsSaid s → speaks (cost_of s) x ≡ s → (p : ℕ) → cost_of s ≤ p → speaks p x ≡ s
enough x lasts (Calls call cost) said e p le = asks-enough x lasts cost p call e le
enough x lasts (Exits status cost) said e p le = ends-enough x lasts cost p status e le
enough x lasts Short said e p le = absurd said

one-next : (x : Says) → Lasts x → (s t : Spoke) → IsSaid s → IsSaid t → speaks (cost_of s) x ≡ s → speaks (cost_of t) x ≡ t → s ≡ t
one-next x lasts s t sa ta es et = elim (cases_lt (cost_of s) (cost_of t)) [
  | inl lt ↦ sym (enough x lasts s sa es (cost_of t) (omega arith)) ∙ et
  | inr ge ↦ sym es ∙ enough x lasts t ta et (cost_of s) ge
]

dear : (x : Says) (s : Spoke) → IsSaid s → speaks (cost_of s) x ≡ s → IsDear s
dear x (Calls call cost) said e = (subst (IsPaid cost) e (paid cost x)).0
dear x (Exits status cost) said e = tt
dear x Short said e = absurd said

-- ---- of one record

record SaysNext (x : Says) (s : Spoke) : Type 0 where
  said : IsSaid s
  says : speaks (cost_of s) x ≡ s

module _ (first : KeyValue → Says) (at : ℕ) (rec : Record) (within : at ≤ length rec.steps) (h : IsSpokenAt first at rec) where
  so-far : Follows (first rec.key) (take at rec.steps)
  so-far = elim (cases_lt at (length rec.steps)) [
    | inl lt ↦ subst (Follows (first rec.key)) (take-take at (at + 1) rec.steps (omega arith)) (Follows-take (first rec.key) (take (at + 1) rec.steps) at (h.0 lt))
    | inr ge ↦ Follows-take (first rec.key) rec.steps at (h.1 (omega arith)).follows
  ]

  says-next : SaysNext (follow (first rec.key) (take at rec.steps)) (next_at at rec)
  says-next = elim (cases_lt at (length rec.steps)) [
    | inl lt ↦
        let last = Follows-last (first rec.key) (take at rec.steps) (step_at at rec.steps) (subst (Follows (first rec.key)) (next-take rec.steps at lt) (h.0 lt)) in
        subst (SaysNext (follow (first rec.key) (take at rec.steps))) (sym (next_step at rec lt)) (record { said = tt; says = last.0 })
    | inr ge ↦
        let all : take at rec.steps ≡ rec.steps = take_all at rec.steps ge in
        subst (SaysNext (follow (first rec.key) (take at rec.steps))) (sym (next_end at rec ge))
        (record { said = tt; says = ap (λ l. speaks rec.exit_cost (follow (first rec.key) l)) all ∙ (h.1 (omega arith)).ends })
  ]

-- ---- of all that are left

-- a record with the steps and the key of another one
abbrev IsLike : List Record → ℕ → ℕ → ℕ → Type 0
IsLike old at head i = ((i < length old) × (at ≤ length (rec_at i old).steps)) × ((rec_at i old).key ≡ (rec_at head old).key) × (take at (rec_at i old).steps ≡ take at (rec_at head old).steps)

all-like : (old : List Record) (at : ℕ) (numbers : List ℕ) → AreTornLeft old at numbers → Each (IsLike old at (head_of numbers)) numbers
all-like old at numbers t =
    each-map
    (λ i. ((i < length old) × (at ≤ length (rec_at i old).steps)) × (((rec_at i old).key ≡ (rec_at (head_of numbers) old).key) × (take at (rec_at i old).steps ≡ take at (rec_at (head_of numbers) old).steps)))
    (IsLike old at (head_of numbers)) (λ i h. (h.0, h.1.0, h.1.1)) numbers
    (each-both (λ i. (i < length old) × (at ≤ length (rec_at i old).steps)) (λ i. ((rec_at i old).key ≡ (rec_at (head_of numbers) old).key) × (take at (rec_at i old).steps ≡ take at (rec_at (head_of numbers) old).steps)) numbers t.in_old
    (each-both (λ i. (rec_at i old).key ≡ (rec_at (head_of numbers) old).key) (λ i. take at (rec_at i old).steps ≡ take at (rec_at (head_of numbers) old).steps) numbers t.keys t.alike))

-- they are not all what their commands say
pub torn-none : (first : KeyValue → Says) → AllLast first → (old : List Record) (at : ℕ) (numbers : List ℕ) → AreTornLeft old at numbers → Each (λ i. IsSpokenAt first at (rec_at i old)) numbers → ⊥
torn-none first lasts old at [] t so = t.torn (Exits 0 0) (tt, tt)
torn-none first lasts old at (n ∷ numbers) t so =
    let like = all-like old at (n ∷ numbers) t in
    let x : Says = follow (first (rec_at n old).key) (take at (rec_at n old).steps) in
    let here = says-next first at (rec_at n old) like.0.0.1 so.0 in
    let lasting : Lasts (follow (first (rec_at n old).key) (take at (rec_at n old).steps)) = Lasts-follow (first (rec_at n old).key) (lasts (rec_at n old).key) (take at (rec_at n old).steps) (so-far first at (rec_at n old) like.0.0.1 so.0) in
    let all = each-map (λ i. IsLike old at n i × IsSpokenAt first at (rec_at i old)) (λ i. next_at at (rec_at i old) ≡ next_at at (rec_at n old))
    (λ i h.
    let mine = says-next first at (rec_at i old) h.0.0.1 h.1 in
    let same : follow (first (rec_at i old).key) (take at (rec_at i old).steps) ≡ follow (first (rec_at n old).key) (take at (rec_at n old).steps) =
    ap (λ k. follow (first k) (take at (rec_at i old).steps)) h.0.1 ∙ ap (follow (first (rec_at n old).key)) h.0.2 in
    let says = subst (λ x. SaysNext x (next_at at (rec_at i old))) same mine in
    one-next (follow (first (rec_at n old).key) (take at (rec_at n old).steps)) lasting (next_at at (rec_at i old)) (next_at at (rec_at n old)) says.said here.said says.says here.says)
    (n ∷ numbers) (each-both (IsLike old at n) (λ i. IsSpokenAt first at (rec_at i old)) (n ∷ numbers) like so) in
    t.torn (next_at at (rec_at n old)) (all, dear (follow (first (rec_at n old).key) (take at (rec_at n old).steps)) (next_at at (rec_at n old)) here.said here.says)

-- the number of a record at its place
pub number-at : (ms : List Member) (k : ℕ) (d : Member) → k < length ms → (get_or ms k d).number ≡ get_or (numbers_in ms) k 0
number-at [] k d lt = absurd (omega arith)
number-at (x ∷ ms) zero d lt = refl
number-at (x ∷ ms) (suc k) d lt = number-at ms k d (omega arith)

pub numbers-long : (ms : List Member) → length (numbers_in ms) ≡ length ms
numbers-long ms = length-map ms (λ (m : Member). m.number)

-- ---- what is told

module _ (old : List Record) (at : ℕ) (numbers : List ℕ) (t : AreTornLeft old at numbers) (k i : ℕ) (lt : k < length numbers) (is : i ≡ get_or numbers k 0) where
  pub torn-here : (i < length old) × (at ≤ length (rec_at i old).steps)
  torn-here = subst (λ n. (n < length old) × (at ≤ length (rec_at n old).steps)) (sym is) (each-at (λ n. (n < length old) × (at ≤ length (rec_at n old).steps)) numbers k 0 t.in_old lt)

  before : k ≤ i
  before = let h : k ≤ get_or numbers k 0 = t.ascend k lt in omega arith

  pub torn-started : (start then now : ℕ) (e : FeedErr) → then ≡ started k start → StartsOne {T = Unit {0}} then now (Err e) → StartsTold old start now (at_record i e)
  torn-started start then now (ForgedStep step) et h = record { many = suc k; few = (let b = before in omega arith); now_is = h ∙ ap (started 1) et }
  torn-started start then now NoRoom (et) (inl h) = record { many = k; few = (let b = before in let u = torn-here.0 in omega arith); now_is = h ∙ et }
  torn-started start then now NoRoom et (inr h) = record { many = suc k; few = (let b = before in let u = torn-here.0 in omega arith); now_is = h ∙ ap (started 1) et }

  pub torn-forged : (first : KeyValue → Says) (rec : Record) (e : FeedErr) → rec ≡ rec_at i old → IsWrong first rec e → IsForged first old (at_record i e)
  torn-forged first rec (ForgedStep step) er h = (torn-here.0, subst (λ r. IsWrong first r (ForgedStep step)) er h)
  torn-forged first rec NoRoom er h = tt

  pub torn-first : (first : KeyValue → Says) (e : FeedErr) → Each (λ n. IsSpokenAt first at (rec_at n old)) (take k numbers) → IsFirstForged first old at numbers (at_record i e)
  torn-first first (ForgedStep step) so = (k, lt, is, so)
  torn-first first NoRoom so = tt

-- ---- the records that are left with a seat

pub seat-torn : (e : EarlierRecords) (groups now : List Group) (seat : Seat) → AreGroups e groups → AreGroups e now → Grows groups now → IsSeat e groups seat → AreTorn e.records seat.place.at (numbers_of (group_at seat.place.group groups))
    → AreTornLeft e.records seat.place.at (numbers_of (group_at seat.place.group now))
seat-torn e groups now seat all all_now w s torn =
    let h : seat.place.group < length groups = s.at.here in
    let h' : seat.place.group < length now = (let m = w.more in omega arith) in
    let same : numbers_of (group_at seat.place.group now) ≡ numbers_of (group_at seat.place.group groups) = w.same seat.place.group s.at.here in
    let le : seat.place.at ≤ (group_at seat.place.group now).alike = (let x = w.alike seat.place.group s.at.here in let y = s.at.within in omega arith) in
    let c = (all_now seat.place.group h').common in
    let old = e.records in
    let once : IsOnce e.records [] (left_with e.records seat.rec seat.place.at) (numbers_of (group_at seat.place.group now)) = subst (IsOnce e.records [] (left_with e.records seat.rec seat.place.at)) (sym same) s.are in
    let keys = left-in e.records (rec_at seat.rec e.records).key (answers_of (take seat.place.at (rec_at seat.rec e.records).steps)) in
    let first : head_of (numbers_of (group_at seat.place.group now)) ≡ seat.rec = ap head_of same ∙ s.first in
    record {
      in_old =
          each-numbers (λ i. (i < length e.records) × (seat.place.at ≤ length (rec_at i e.records).steps)) (group_at seat.place.group now).members
          (each-map (IsMember e (group_at seat.place.group now).alike) (λ m. (m.number < length e.records) × (seat.place.at ≤ length (rec_at m.number e.records).steps)) (λ m i. (i.here, let x = i.within in omega arith)) (group_at seat.place.group now).members c.members);
      keys =
          subst (λ n. Each (λ i. (rec_at i e.records).key ≡ (rec_at n e.records).key) (numbers_of (group_at seat.place.group now))) (sym first)
          (once-part e.records (λ i. (rec_at i e.records).key ≡ (rec_at seat.rec e.records).key) (left_with e.records seat.rec seat.place.at) [] (numbers_of (group_at seat.place.group now)) once
          (each-map (IsOf e.records (rec_at seat.rec e.records).key) (λ i. (rec_at i e.records).key ≡ (rec_at seat.rec e.records).key) (λ i k. k.1) (left_with e.records seat.rec seat.place.at) keys));
      alike = begin-like e (group_at seat.place.group now) seat.place.at c le;
      ascend = λ k lt.
          ascends-zero (numbers_of (group_at seat.place.group now)) k
          (ascends-once e.records 0 (left_with e.records seat.rec seat.place.at) [] (numbers_of (group_at seat.place.group now))
          (left-ascends e.records (rec_at seat.rec e.records).key (answers_of (take seat.place.at (rec_at seat.rec e.records).steps))) once) lt;
      torn = subst (AreTorn e.records seat.place.at) (sym same) torn;
    }

-- ---- what is told of those of which each talk counts once

module _ (first : KeyValue → Says) (at : ℕ) where
  abbrev Ends : KeyValue → List Step → ℕ → ℕ → Type 0
  Ends key steps exit cost = speaks cost (follow (first key) steps) ≡ Exits exit cost

  -- a record that did the same is what its command says as well
  module _ (a b : Record) (key : b.key ≡ a.key) (h : AreTalkAlike a b) where
    same-key : (steps : List Step) → Follows (first a.key) steps → Follows (first b.key) steps
    same-key steps f = subst (λ k. Follows (first k) steps) (sym key) f

    same-steps : at < length b.steps → (at < length a.steps → Follows (first a.key) (take (at + 1) a.steps)) → Follows (first b.key) (take (at + 1) b.steps)
    same-steps lt so = same-key (take (at + 1) b.steps) (subst (λ l. Follows (first a.key) (take (at + 1) l)) h.0 (so (subst (λ l. at < length l) (sym h.0) lt)))

    same-whole : IsSpoken first a → IsSpoken first b
    same-whole s = record {
      follows = same-key b.steps (subst (Follows (first a.key)) h.0 s.follows);
      ends =
          subst (λ k. Ends k b.steps b.exit b.exit_cost) (sym key)
          (subst (Ends a.key b.steps b.exit) h.2 (subst (λ n. Ends a.key b.steps n a.exit_cost) h.1 (subst (λ l. Ends a.key l a.exit a.exit_cost) h.0 s.ends)));
    }

    spoken-alike : IsSpokenAt first at a → IsSpokenAt first at b
    spoken-alike so = (λ lt. same-steps lt so.0, λ q. same-whole (so.1 (q ∙ ap length (sym h.0))))

each-take : (P : ℕ → Type 0) (k : ℕ) (xs : List ℕ) → Each P xs → Each P (take k xs)
each-take P zero xs e = tt
each-take P (suc k) [] e = tt
each-take P (suc k) (x ∷ xs) e = (e.0, each-take P k xs e.1)

module _ (first : KeyValue → Says) (old : List Record) (at rec : ℕ) (kept : List ℕ) (o : IsOnce old [] (left_with old rec at) kept) where
  abbrev IsOfKey : ℕ → Type 0
  IsOfKey i = (rec_at i old).key ≡ (rec_at rec old).key

  abbrev IsSo : ℕ → Type 0
  IsSo i = IsSpokenAt first at (rec_at i old)

  keys : Each IsOfKey (left_with old rec at)
  keys = each-map (IsOf old (rec_at rec old).key) IsOfKey (λ i k. k.1) (left_with old rec at) (left-in old (rec_at rec old).key (answers_of (take at (rec_at rec old).steps)))

  -- the first of them that isn't what its command says is the first of all that are left
  first-once : (i place : ℕ) → place < length kept → i ≡ get_or kept place 0 → Each IsSo (take place kept) → IsFirstNot (λ m. IsOfKey m × IsSo m) (left_with old rec at) i
  first-once i place here is before =
      once-first_not old (λ m. IsOfKey m × IsSo m) (left_with old rec at) kept i
      (each-map IsOfKey (λ m. (j : ℕ) → AreTalkAlike (rec_at j old) (rec_at m old) → IsOfKey j × IsSo j → IsOfKey m × IsSo m)
      (λ m k j h p. (k, spoken-alike first at (rec_at j old) (rec_at m old) (k ∙ sym p.0) h p.1)) (left_with old rec at) keys) o
      (record {
        place = place;
        here = here;
        is = is;
        before = each-both IsOfKey IsSo (take place kept) (each-take IsOfKey place kept (once-part old IsOfKey (left_with old rec at) [] kept o keys)) before;
      })

  pub told-once : (told : CheckErr) → IsFirstForged first old at kept told → IsFirstForged first old at (left_with old rec at) told
  told-once NoMemory f = tt
  told-once (Forged i step) f =
      let n = first-once i f.0 f.1 f.2 f.3 in
      (n.place, n.here, n.is, each-map (λ m. IsOfKey m × IsSo m) IsSo (λ m p. p.1) (take n.place (left_with old rec at)) n.before)
