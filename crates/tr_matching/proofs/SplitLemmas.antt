-- A group that is parted by answers.
use Rattle.std.proofs.Common.{◌≡◌, ℕ, ◌+◌, ◌-◌, ◌<◌, true, false, List, [], ◌∷◌, ◌++◌, length, take, refl, sym, ◌∙◌, ap, subst, arith, inl, inr, length-append}
use Rattle.std.specs.Prelude.{slice_set}
use Rattle.std.specs.List.{AllByRecursion as Each}
use Rattle.std.proofs.Math.ListN.{get_or-append}
use Rattle.std.proofs.lemmas.Bool.{cases_lt}
use Rattle.std.proofs.lemmas.List.{get_or-append-add, get_or-set_same, take_more}
use Rattle.rk_calls.specs.declared.answer.Answer.{Answer}
use Rattle.rk_calls.specs.declared.drive.Spoke.TheVariants.{Call as Calls}
use Rattle.tr_record.specs.Rec.{rec_at}
use Rattle.tr_record.specs.declared.steps.Step.{Step}
use Rattle.tr_matching.specs.declared.group.Group.{Group}
use Rattle.tr_matching.specs.declared.member.Member.{Member}
use Rattle.tr_matching.specs.declared.parting.Parting.{Parting}
use Rattle.tr_matching.specs.Earlier.{EarlierRecords}
use Rattle.tr_matching.specs.Groups.{AreGroups, AreMembers, BeginAlike, GoesOn, Grows, IsCommon, IsGroup, IsPart, IsSplit, first_of, group_at, no_group, numbers_of}
use Rattle.tr_matching.specs.Left.{is_answered, next_at}
use Rattle.tr_matching.specs.Parting.{AreParts, IsAnswered}
use Rattle.tr_matching.specs.Steps.{no_step, step, step_at}
use Rattle.tr_matching.proofs.EachLemmas.{each-both, each-map, each-to_filter}
use Rattle.tr_matching.proofs.FilterLemmas.{answered-tells, of-first}
use Rattle.tr_matching.proofs.GroupLemmas.{begin-same, grows-append, grows-on, grows-set, groups-set, split-grows}
use Rattle.tr_matching.proofs.KnownLemmas.{known-same}
use Rattle.tr_matching.proofs.MemberLemmas.{each-numbers, some-numbers}
use Rattle.tr_matching.proofs.NextLemmas.{next_step}

-- a step that asks alike and has this answer
step-is : (s t : Step) (a : Answer) → Calls s.call s.cost ≡ Calls t.call t.cost → s.answer ≡ a → s ≡ step t.cost t.call a
step-is s t a e ea =
    let ec : s.call ≡ t.call = cc in
    let ek : s.cost ≡ t.cost = cc in
    ap (λ c. step c s.call s.answer) ek ∙ ap (λ c. step t.cost c s.answer) ec ∙ ap (step t.cost t.call) ea

-- ---- those that were answered alike have one step more in common

module _ (e : EarlierRecords) (it : Group) (c : IsCommon e it) (agreed : it.agreed ≡ true) (on : Each (GoesOn e it.alike) it.members) (a : Answer) where
  goes : Each (λ i. it.alike < length (rec_at i e.records).steps) (numbers_of it)
  goes =
      each-numbers (λ i. it.alike < length (rec_at i e.records).steps) it.members
      (each-map (GoesOn e it.alike) (λ (m : Member). it.alike < length (rec_at m.number e.records).steps) (λ m p. p.1) it.members on)

  first-goes : it.alike < length (rec_at (first_of it) e.records).steps
  first-goes = of-first (λ i. it.alike < length (rec_at i e.records).steps) (numbers_of it) (some-numbers it.members c.some) goes

  -- what it has up to this step
  one : (i : ℕ) → (take it.alike (rec_at i e.records).steps ≡ take it.alike (rec_at (first_of it) e.records).steps) × (it.alike < length (rec_at i e.records).steps) × (next_at it.alike (rec_at i e.records) ≡ next_at it.alike (rec_at (first_of it) e.records))
      → is_answered e.records it.alike a i ≡ true
      → take (it.alike + 1) (rec_at i e.records).steps ≡ take it.alike (rec_at (first_of it) e.records).steps ++ step (step_at it.alike (rec_at (first_of it) e.records).steps).cost (step_at it.alike (rec_at (first_of it) e.records).steps).call a ∷ []
  one i p t =
      let said = sym (next_step it.alike (rec_at i e.records) p.1) ∙ p.2 ∙ next_step it.alike (rec_at (first_of it) e.records) first-goes in
      take_more (rec_at i e.records).steps it.alike no_step p.1
      ∙ ap (λ l. l ++ step_at it.alike (rec_at i e.records).steps ∷ []) p.0
      ∙ ap (λ s. take it.alike (rec_at (first_of it) e.records).steps ++ s ∷ [])
      (step-is (step_at it.alike (rec_at i e.records).steps) (step_at it.alike (rec_at (first_of it) e.records).steps) a said (answered-tells e.records it.alike a i t))

  abbrev Begins : ℕ → Type 0
  Begins i = take (it.alike + 1) (rec_at i e.records).steps ≡ take it.alike (rec_at (first_of it) e.records).steps ++ step (step_at it.alike (rec_at (first_of it) e.records).steps).cost (step_at it.alike (rec_at (first_of it) e.records).steps).call a ∷ []

  every : Each (λ i. is_answered e.records it.alike a i ≡ true → Begins i) (numbers_of it)
  every =
      each-map
      (λ i. (take it.alike (rec_at i e.records).steps ≡ take it.alike (rec_at (first_of it) e.records).steps) × ((it.alike < length (rec_at i e.records).steps) × (next_at it.alike (rec_at i e.records) ≡ next_at it.alike (rec_at (first_of it) e.records))))
      (λ i. is_answered e.records it.alike a i ≡ true → Begins i) (λ i p. one i (p.0, p.1.0, p.1.1)) (numbers_of it)
      (each-both (λ i. take it.alike (rec_at i e.records).steps ≡ take it.alike (rec_at (first_of it) e.records).steps)
      (λ i. (it.alike < length (rec_at i e.records).steps) × (next_at it.alike (rec_at i e.records) ≡ next_at it.alike (rec_at (first_of it) e.records))) (numbers_of it) c.alike
      (each-both (λ i. it.alike < length (rec_at i e.records).steps) (λ i. next_at it.alike (rec_at i e.records) ≡ next_at it.alike (rec_at (first_of it) e.records)) (numbers_of it) goes (c.agreed agreed).0))

  pub answered-common : (part : Group) → IsAnswered e it.alike it.members a part → IsCommon e part
  answered-common part h = record {
    some = h.some;
    members = subst (λ k. AreMembers e k part.members) (sym h.alike) h.rests;
    alike = begin-same e.records part.alike (it.alike + 1) (numbers_of part) (numbers_of part) h.alike refl alike;
    agreed = λ z. absurd (let f : false ≡ true = sym h.unknown ∙ z in cc);
  }
    where
      begins : Each Begins (numbers_of part)
      begins = subst (Each Begins) (sym h.are) (each-to_filter Begins (is_answered e.records it.alike a) (numbers_of it) every)

      first : Begins (first_of part)
      first = of-first Begins (numbers_of part) (some-numbers part.members h.some) begins

      alike : BeginAlike e.records (it.alike + 1) (numbers_of part)
      alike =
          each-map Begins (λ i. take (it.alike + 1) (rec_at i e.records).steps ≡ take (it.alike + 1) (rec_at (first_of part) e.records).steps)
          (λ i p. p ∙ sym first) (numbers_of part) begins

-- ---- the parts behind the other groups

module _ (e : EarlierRecords) (groups : List Group) (g : ℕ) (now : Group) (more : Parting) (a : AreGroups e groups) (h : g < length groups) (agreed : (group_at g groups).agreed ≡ true) (on : Each (GoesOn e (group_at g groups).alike) (group_at g groups).members) (p : AreParts e (group_at g groups).alike (group_at g groups).members more) (from : now ≡ record (group_at g groups) { from = length groups; parted = true; parts = more.index }) where
  front : (k : ℕ) → k < length groups → group_at k (groups ++ more.groups.items) ≡ group_at k groups
  front k lt = get_or-append groups more.groups.items no_group k lt

  back : (c : ℕ) → group_at (length groups + c) (groups ++ more.groups.items) ≡ group_at c more.groups.items
  back c = get_or-append-add groups more.groups.items c no_group

  many : length (groups ++ more.groups.items) ≡ length groups + length more.groups.items
  many = length-append groups more.groups.items

  common : IsCommon e (group_at g groups)
  common = (a g h).common

  part-group : (c : ℕ) → c < length more.groups.items → IsGroup e (groups ++ more.groups.items) (group_at c more.groups.items)
  part-group c lt =
      let f = p.all c lt in
      let x = p.each f.0 c f.1 in
      record { common = answered-common e (group_at g groups) common agreed on f.0 (group_at c more.groups.items) x.1; split = λ z. absurd (let f : false ≡ true = sym x.1.whole ∙ z in cc) }

  later : (k c : ℕ) → k ≡ length groups + c → k < length (groups ++ more.groups.items) → IsGroup e (groups ++ more.groups.items) (group_at k (groups ++ more.groups.items))
  later k c q l =
      subst (λ i. IsGroup e (groups ++ more.groups.items) (group_at i (groups ++ more.groups.items))) (sym q)
      (subst (IsGroup e (groups ++ more.groups.items)) (sym (back c)) (part-group c (let y = many in omega arith)))

  all-groups : AreGroups e (groups ++ more.groups.items)
  all-groups k l = elim (cases_lt k (length groups)) [
    | inl lt ↦
        let it = a k lt in
        subst (IsGroup e (groups ++ more.groups.items)) (sym (front k lt))
        (record { common = it.common; split = λ f. let x = it.split f in (x.0, split-grows e groups (groups ++ more.groups.items) (group_at k groups) (grows-append groups more.groups.items) x.1) })
    | inr ge ↦ later k (k - length groups) (omega arith) l
  ]

  now-common : IsCommon e now
  now-common = subst (IsCommon e) (sym from) (record { some = common.some; members = common.members; alike = common.alike; agreed = common.agreed })

  now-split : IsSplit e (groups ++ more.groups.items) now
  now-split = subst (IsSplit e (groups ++ more.groups.items)) (sym from) (record {
    parts = λ x c f.
        let q = p.each x c f in (
          (let y = many in let z = q.0 in omega arith),
          subst (IsPart e (record (group_at g groups) { from = length groups; parted = true; parts = more.index }) x) (sym (back c))
              (record { are = q.1.are; further = (let z = q.1.alike in omega arith); start = q.1.start }),
        );
    cover = p.cover;
  })

  within-all : g < length (groups ++ more.groups.items)
  within-all = let y = many in omega arith

  set-grows : Grows (groups ++ more.groups.items) (slice_set (groups ++ more.groups.items) g now)
  set-grows =
      grows-set (groups ++ more.groups.items) g now within-all (ap numbers_of from ∙ sym (ap numbers_of (front g h)))
      (let x : (group_at g (groups ++ more.groups.items)).alike ≡ (group_at g groups).alike = ap (λ (y : Group). y.alike) (front g h) in
      let z : now.alike ≡ (group_at g groups).alike = ap (λ (y : Group). y.alike) from in
      omega arith)
      (ap (λ (y : Group). y.start) from ∙ sym (ap (λ (y : Group). y.start) (front g h)))
      (known-same (group_at g (groups ++ more.groups.items)) now
      (ap (λ (y : Group). y.alike) from ∙ sym (ap (λ (y : Group). y.alike) (front g h)))
      (ap (λ (y : Group). y.agreed) from ∙ sym (ap (λ (y : Group). y.agreed) (front g h))))

  pub parted-grows : Grows groups (slice_set (groups ++ more.groups.items) g now)
  parted-grows = grows-on groups (groups ++ more.groups.items) (slice_set (groups ++ more.groups.items) g now) (grows-append groups more.groups.items) set-grows

  pub parted-groups : AreGroups e (slice_set (groups ++ more.groups.items) g now)
  parted-groups = groups-set e (groups ++ more.groups.items) g now all-groups within-all set-grows now-common (λ z. (ap (λ (y : Group). y.agreed) from ∙ agreed, now-split))

  there : group_at g (slice_set (groups ++ more.groups.items) g now) ≡ now
  there = get_or-set_same (groups ++ more.groups.items) g now no_group within-all

  pub parted-still : (group_at g (slice_set (groups ++ more.groups.items) g now)).alike ≡ (group_at g groups).alike
  parted-still = ap (λ (y : Group). y.alike) (there ∙ from)

  pub parted-split : IsSplit e (slice_set (groups ++ more.groups.items) g now) (group_at g (slice_set (groups ++ more.groups.items) g now))
  parted-split = subst (IsSplit e (slice_set (groups ++ more.groups.items) g now)) (sym there) (split-grows e (groups ++ more.groups.items) (slice_set (groups ++ more.groups.items) g now) now set-grows now-split)
