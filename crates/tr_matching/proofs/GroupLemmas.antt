-- Groups of records that have their first steps in common.
use Rattle.std.proofs.Common.{◌≡◌, ◌≢◌, ℕ, ◌+◌, ◌≤◌, ◌<◌, Bool, true, false, List, [], ◌∷◌, ◌++◌, length, take, filter, refl, sym, ◌∙◌, ap, subst, arith, inl, inr, length-append}
use Rattle.std.specs.Prelude.{slice_set}
use Rattle.std.specs.List.{AllByRecursion as Each}
use Rattle.std.proofs.Math.ListN.{length-set, get_or-append}
use Rattle.std.proofs.lemmas.Bool.{cases_eq, cases_lt}
use Rattle.std.proofs.lemmas.List.{get_or-set_same, get_or-set_other, get_or-take, take_more}
use Rattle.rk_calls.specs.declared.answer.Answer.{Answer}
use Rattle.rk_calls.specs.declared.call.Call.{Call}
use Rattle.rk_calls.specs.declared.drive.Spoke.TheVariants.{Call as Calls, Exit as Exits}
use Rattle.tr_record.specs.declared.records.Record.{Record}
use Rattle.tr_record.specs.declared.steps.Step.{Step}
use Rattle.tr_record.specs.Rec.{rec_at}
use Rattle.tr_matching.specs.declared.group.Group.{Group}
use Rattle.tr_matching.specs.declared.member.Member.{Member}
use Rattle.tr_matching.specs.Earlier.{EarlierRecords, IsRest}
use Rattle.tr_matching.specs.Groups.{AreGroups, AreMembers, BeginAlike, GoesOn, Grows, HasStep, HaveAlike, IsCommon, IsGroup, IsKnown, IsMember, IsPart, IsSplit, first_of, group_at, no_group, numbers_of}
use Rattle.tr_matching.specs.Left.{is_answered, next_at}
use Rattle.tr_matching.specs.Matching.{AllSay, HaveOne, head_of}
use Rattle.tr_matching.specs.Steps.{answer_at, no_step, step_at}
use Rattle.tr_matching.proofs.EachLemmas.{each-map, each-both}
use Rattle.tr_matching.proofs.FilterLemmas.{answered-so, answered-tells, filter-every, filter-none, of-first}
use Rattle.tr_matching.proofs.MemberLemmas.{each-numbers, each-of_numbers, numbers-some, some-numbers}
use Rattle.tr_matching.proofs.NextLemmas.{next_end, next_step}

-- ---- what a group has in common

-- as many steps of other numbers that are the same
pub begin-same : (old : List Record) (n m : ℕ) (xs ys : List ℕ) → n ≡ m → xs ≡ ys → BeginAlike old m ys → BeginAlike old n xs
begin-same old n m xs ys en ex b = subst (λ k. BeginAlike old k xs) (sym en) (subst (BeginAlike old m) (sym ex) b)

begin-more : (old : List Record) (at : ℕ) (now : List ℕ) → now ≢ [] → BeginAlike old at now → HaveAlike old at now → BeginAlike old (at + 1) now
begin-more old at now some b h =
    each-map (λ i. (take at (rec_at i old).steps ≡ take at (rec_at (head_of now) old).steps) × HasStep old at (step_at at (rec_at (head_of now) old).steps) i)
    (λ i. take (at + 1) (rec_at i old).steps ≡ take (at + 1) (rec_at (head_of now) old).steps)
    (λ i p.
    take_more (rec_at i old).steps at no_step p.1.0 ∙ ap (λ l. l ++ step_at at (rec_at i old).steps ∷ []) p.0 ∙ ap (λ s. take at (rec_at (head_of now) old).steps ++ s ∷ []) p.1.1
    ∙ sym (take_more (rec_at (head_of now) old).steps at no_step first)) now
    (each-both (λ i. take at (rec_at i old).steps ≡ take at (rec_at (head_of now) old).steps) (HasStep old at (step_at at (rec_at (head_of now) old).steps)) now b h)
  where
    first : at < length (rec_at (head_of now) old).steps
    first = (of-first (HasStep old at (step_at at (rec_at (head_of now) old).steps)) now some h).0

-- one step more in common
pub common-more : (e : EarlierRecords) (it now : Group) → IsCommon e it → it.agreed ≡ false → HaveAlike e.records it.alike (numbers_of it)
    → numbers_of now ≡ numbers_of it → AreMembers e (it.alike + 1) now.members → now.alike ≡ it.alike + 1 → now.agreed ≡ it.agreed → IsCommon e now
common-more e it now c still h en am ea eg = record {
  some = numbers-some now.members (λ z. some-numbers it.members c.some (sym en ∙ z));
  members = subst (λ n. AreMembers e n now.members) (sym ea) am;
  alike = begin-same e.records now.alike (it.alike + 1) (numbers_of now) (numbers_of it) ea en (begin-more e.records it.alike (numbers_of it) (some-numbers it.members c.some) c.alike h);
  agreed = λ a. absurd (let z : false ≡ true = sym still ∙ sym eg ∙ a in cc);
}

-- it is told whether they have one next
pub common-agreed : (e : EarlierRecords) (it now : Group) (b : Bool) → IsCommon e it → (b ≡ true → HaveOne e.records it.alike (numbers_of it) (next_at it.alike (rec_at (first_of it) e.records)))
    → now ≡ record it { agreed = b } → IsCommon e now
common-agreed e it now b c h q = subst (IsCommon e) (sym q) (record { some = c.some; members = c.members; alike = c.alike; agreed = h })

within : (e : EarlierRecords) (it : Group) → IsCommon e it → Each (λ i. it.alike ≤ length (rec_at i e.records).steps) (numbers_of it)
within e it c =
    each-numbers (λ i. it.alike ≤ length (rec_at i e.records).steps) it.members
    (each-map (IsMember e it.alike) (λ (m : Member). it.alike ≤ length (rec_at m.number e.records).steps) (λ m p. p.within) it.members c.members)

pub first-here : (e : EarlierRecords) (it : Group) → IsCommon e it → first_of it < length e.records
first-here e it c =
    of-first (λ i. i < length e.records) (numbers_of it) (some-numbers it.members c.some)
    (each-numbers (λ i. i < length e.records) it.members
    (each-map (IsMember e it.alike) (λ (m : Member). m.number < length e.records) (λ m p. p.here) it.members c.members))

-- a step among those that are in common
common-step : (at n : ℕ) (xs ys : List Step) → take n xs ≡ take n ys → at < n → step_at at xs ≡ step_at at ys
common-step at n xs ys e h = sym (get_or-take n xs at no_step h) ∙ ap (step_at at) e ∙ get_or-take n ys at no_step h

-- each has the first one's step there
common-steps : (e : EarlierRecords) (it : Group) (at : ℕ) → IsCommon e it → at < it.alike → HaveAlike e.records at (numbers_of it)
common-steps e it at c lt =
    each-map (λ i. (it.alike ≤ length (rec_at i e.records).steps) × (take it.alike (rec_at i e.records).steps ≡ take it.alike (rec_at (first_of it) e.records).steps))
    (HasStep e.records at (step_at at (rec_at (first_of it) e.records).steps))
    (λ i p. (let le : it.alike ≤ length (rec_at i e.records).steps = p.0 in omega arith, common-step at it.alike (rec_at i e.records).steps (rec_at (first_of it) e.records).steps p.1 lt)) (numbers_of it)
    (each-both (λ i. it.alike ≤ length (rec_at i e.records).steps) (λ i. take it.alike (rec_at i e.records).steps ≡ take it.alike (rec_at (first_of it) e.records).steps) (numbers_of it) (within e it c) c.alike)

-- what is known of what comes next is so of all of them
pub known-say : (e : EarlierRecords) (it : Group) (at : ℕ) → IsCommon e it → IsKnown at it → AllSay e.records at (next_at at (rec_at (first_of it) e.records)) (numbers_of it)
known-say e it at c (inl lt) =
    each-map (HasStep e.records at (step_at at (rec_at (first_of it) e.records).steps)) (λ i. next_at at (rec_at i e.records) ≡ next_at at (rec_at (first_of it) e.records))
    (λ i p. next_step at (rec_at i e.records) p.0 ∙ ap (λ (s : Step). Calls s.call s.cost) p.1 ∙ sym (next_step at (rec_at (first_of it) e.records) first)) (numbers_of it)
    (common-steps e it at c lt)
  where
    first : at < length (rec_at (first_of it) e.records).steps
    first = (of-first (HasStep e.records at (step_at at (rec_at (first_of it) e.records).steps)) (numbers_of it) (some-numbers it.members c.some) (common-steps e it at c lt)).0
known-say e it at c (inr q) = subst (λ n. AllSay e.records n (next_at n (rec_at (first_of it) e.records)) (numbers_of it)) (sym q.0) (c.agreed q.1).0

-- a record whose next is a call has a step there
pub calls-on : (at : ℕ) (rec : Record) (call : Call) (cost : ℕ) → next_at at rec ≡ Calls call cost → at < length rec.steps
calls-on at rec call cost e = elim (cases_lt at (length rec.steps)) [
  | inl lt ↦ lt
  | inr ge ↦ absurd (let z : Exits rec.exit rec.exit_cost ≡ Calls call cost = sym (next_end at rec ge) ∙ e in cc)
]

-- where the first asks, each goes on
pub known-go_on : (e : EarlierRecords) (it : Group) → IsCommon e it → it.agreed ≡ true → it.alike < length (rec_at (first_of it) e.records).steps → Each (GoesOn e it.alike) it.members
known-go_on e it c a lt =
    each-both (IsMember e it.alike) (λ (m : Member). it.alike < length (rec_at m.number e.records).steps) it.members c.members
    (each-map (λ (m : Member). next_at it.alike (rec_at m.number e.records) ≡ next_at it.alike (rec_at (first_of it) e.records)) (λ (m : Member). it.alike < length (rec_at m.number e.records).steps)
    (λ m p. calls-on it.alike (rec_at m.number e.records) (step_at it.alike (rec_at (first_of it) e.records).steps).call (step_at it.alike (rec_at (first_of it) e.records).steps).cost (p ∙ next_step it.alike (rec_at (first_of it) e.records) lt)) it.members
    (each-of_numbers (λ i. next_at it.alike (rec_at i e.records) ≡ next_at it.alike (rec_at (first_of it) e.records)) it.members (c.agreed a).0))

-- within what is in common all have an answer, or none has it
pub common-on : (e : EarlierRecords) (it : Group) (at : ℕ) (a : Answer) → IsCommon e it → at < it.alike → answer_at e.records at (first_of it) ≡ a → numbers_of it ≡ filter (is_answered e.records at a) (numbers_of it)
common-on e it at a c lt q =
    sym
    (filter-every (is_answered e.records at a) (numbers_of it)
    (each-map (HasStep e.records at (step_at at (rec_at (first_of it) e.records).steps)) (λ i. is_answered e.records at a i ≡ true)
    (λ i p. answered-so e.records at a i p.0 (ap (λ (s : Step). s.answer) p.1 ∙ q)) (numbers_of it) (common-steps e it at c lt)))

pub common-off : (e : EarlierRecords) (it : Group) (at : ℕ) (a : Answer) → IsCommon e it → at < it.alike → answer_at e.records at (first_of it) ≢ a → filter (is_answered e.records at a) (numbers_of it) ≡ []
common-off e it at a c lt ne =
    filter-none (is_answered e.records at a) (numbers_of it)
    (each-map (HasStep e.records at (step_at at (rec_at (first_of it) e.records).steps)) (λ i. is_answered e.records at a i ≡ true → ⊥)
    (λ i p t. ne (sym (ap (λ (s : Step). s.answer) p.1) ∙ answered-tells e.records at a i t)) (numbers_of it) (common-steps e it at c lt))

-- ---- more groups

pub grows-itself : (groups : List Group) → Grows groups groups
grows-itself groups = record { more = omega arith; same = λ g h. refl; alike = λ g h. omega arith; start = λ g h. refl; known = λ g h at k. k }

pub grows-on : (a b c : List Group) → Grows a b → Grows b c → Grows a c
grows-on a b c v w = record {
  more = (let x = v.more in let y = w.more in omega arith);
  same = λ g h. w.same g (let x = v.more in omega arith) ∙ v.same g h;
  alike = λ g h. let x = v.alike g h in let y = w.alike g (let z = v.more in omega arith) in omega arith;
  start = λ g h. w.start g (let x = v.more in omega arith) ∙ v.start g h;
  known = λ g h at k. w.known g (let x = v.more in omega arith) at (v.known g h at k);
}

pub grows-append : (groups more : List Group) → Grows groups (groups ++ more)
grows-append groups more = record {
  more = (let n = length-append groups more in omega arith);
  same = λ g h. ap numbers_of (get_or-append groups more no_group g h);
  alike = λ g h. let x : (group_at g (groups ++ more)).alike ≡ (group_at g groups).alike = ap (λ (x : Group). x.alike) (get_or-append groups more no_group g h) in omega arith;
  start = λ g h. ap (λ (x : Group). x.start) (get_or-append groups more no_group g h);
  known = λ g h at k. subst (IsKnown at) (sym (get_or-append groups more no_group g h)) k;
}

-- one group changes
pub grows-set : (groups : List Group) (g : ℕ) (now : Group) → g < length groups → numbers_of now ≡ numbers_of (group_at g groups) → (group_at g groups).alike ≤ now.alike → now.start ≡ (group_at g groups).start
    → ((at : ℕ) → IsKnown at (group_at g groups) → IsKnown at now) → Grows groups (slice_set groups g now)
grows-set groups g now h em ea es ek = record {
  more = (let n = length-set groups g now in omega arith);
  same = λ k l. elim (cases_eq k g) [
    | inl e ↦ ap (λ n. numbers_of (group_at n (slice_set groups g now))) e ∙ ap numbers_of there ∙ em ∙ ap (λ n. numbers_of (group_at n groups)) (sym e)
    | inr ne ↦ ap numbers_of (other k ne)
  ];
  alike = λ k l. elim (cases_eq k g) [
    | inl e ↦
        let x : (group_at k (slice_set groups g now)).alike ≡ now.alike = ap (λ n. (group_at n (slice_set groups g now)).alike) e ∙ ap (λ (x : Group). x.alike) there in
        let y : (group_at k groups).alike ≡ (group_at g groups).alike = ap (λ n. (group_at n groups).alike) e in
        omega arith
    | inr ne ↦ let x : (group_at k (slice_set groups g now)).alike ≡ (group_at k groups).alike = ap (λ (x : Group). x.alike) (other k ne) in omega arith
  ];
  start = λ k l. elim (cases_eq k g) [
    | inl e ↦ ap (λ n. (group_at n (slice_set groups g now)).start) e ∙ ap (λ (x : Group). x.start) there ∙ es ∙ ap (λ n. (group_at n groups).start) (sym e)
    | inr ne ↦ ap (λ (x : Group). x.start) (other k ne)
  ];
  known = λ k l at w. elim (cases_eq k g) [
    | inl e ↦
        subst (λ n. IsKnown at (group_at n (slice_set groups g now))) (sym e)
        (subst (IsKnown at) (sym there) (ek at (subst (λ n. IsKnown at (group_at n groups)) e w)))
    | inr ne ↦ subst (IsKnown at) (sym (other k ne)) w
  ];
}
  where
    there : group_at g (slice_set groups g now) ≡ now
    there = get_or-set_same groups g now no_group h

    other : (k : ℕ) → k ≢ g → group_at k (slice_set groups g now) ≡ group_at k groups
    other k ne = get_or-set_other groups g k now no_group ne

-- a part stays one as groups grow
part-grows : (e : EarlierRecords) (before now : List Group) (it : Group) (a : Answer) (k : ℕ) → Grows before now → k < length before → IsPart e it a (group_at k before) → IsPart e it a (group_at k now)
part-grows e before now it a k w lt p = record {
  are = w.same k lt ∙ p.are;
  further = (let x = w.alike k lt in let y = p.further in omega arith);
  start =
      subst (λ f. IsRest e f (it.alike + 1) (group_at k now).start) (sym (ap head_of (w.same k lt)))
      (subst (λ r. IsRest e (first_of (group_at k before)) (it.alike + 1) r) (sym (w.start k lt)) p.start);
}

pub split-grows : (e : EarlierRecords) (before now : List Group) (it : Group) → Grows before now → IsSplit e before it → IsSplit e now it
split-grows e before now it w s = record {
  parts = λ a c f.
      let p = s.parts a c f in
      (let x = w.more in let lt : it.from + c < length before = p.0 in omega arith, part-grows e before now it a (it.from + c) w p.0 p.1);
  cover = s.cover;
}

pub groups-set : (e : EarlierRecords) (groups : List Group) (g : ℕ) (now : Group) → AreGroups e groups → g < length groups → Grows groups (slice_set groups g now) → IsCommon e now
    → (now.parted ≡ true → (now.agreed ≡ true) × IsSplit e groups now) → AreGroups e (slice_set groups g now)
groups-set e groups g now a h w c s k l =
    elim (cases_eq k g) [
      | inl q ↦
          subst (IsGroup e (slice_set groups g now)) (sym (ap (λ n. group_at n (slice_set groups g now)) q ∙ get_or-set_same groups g now no_group h))
          (record { common = c; split = λ f. let x = s f in (x.0, split-grows e groups (slice_set groups g now) now w x.1) })
      | inr ne ↦
          let it = a k (let n = length-set groups g now in omega arith) in
          subst (IsGroup e (slice_set groups g now)) (sym (get_or-set_other groups g k now no_group ne))
          (record { common = it.common; split = λ f. let x = it.split f in (x.0, split-grows e groups (slice_set groups g now) (group_at k groups) w x.1) })
    ]
