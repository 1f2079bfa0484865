-- Records that are parted by what they were answered, one record more at a time.
use Rattle.std.proofs.Common.{◌≡◌, ◌≢◌, ℕ, ◌+◌, ◌<◌, Bool, true, false, cond, List, [], ◌∷◌, ◌++◌, length, filter, get_or, take, Some, None, refl, sym, ◌∙◌, ap, subst, arith, inl, inr, length-append}
use Rattle.std.specs.Prelude.{slice_set}
use Rattle.std.specs.List.{AllByRecursion as Each}
use Rattle.std.proofs.Math.ListN.{length-set, get_or-append}
use Rattle.std.proofs.Math.Seq.{get_or-append_seam}
use Rattle.std.proofs.lemmas.Bool.{cases_eq, cases_lt}
use Rattle.std.proofs.lemmas.List.{get_or-set_same, get_or-set_other, take_more}
use Rattle.rk_calls.specs.declared.answer.Answer.{Answer}
use Rattle.tr_matching.specs.declared.group.Group.{Group}
use Rattle.tr_matching.specs.declared.member.Member.{Member}
use Rattle.tr_matching.specs.declared.parting.Parting.{Parting}
use Rattle.tr_matching.specs.AnswerLaws.{other-answer, same-answer, same-itself}
use Rattle.tr_matching.specs.Answers.{same_answer}
use Rattle.tr_matching.specs.Earlier.{EarlierRecords, IsRest}
use Rattle.tr_matching.specs.Groups.{GoesOn, IsMember, alone, first_of, group_at, no_group, numbers_in, numbers_of, with_member}
use Rattle.tr_matching.specs.Index.{part_of}
use Rattle.tr_matching.specs.Left.{is_answered}
use Rattle.tr_matching.specs.Matching.{head_of}
use Rattle.tr_matching.specs.Parting.{AreParts, IsAnswered}
use Rattle.tr_matching.specs.Steps.{answer_at}
use Rattle.tr_matching.proofs.EachLemmas.{each-map, each-passes}
use Rattle.tr_matching.proofs.FilterLemmas.{answered-other, answered-so, answered-tells, filter-no, filter-none, filter-yes, head-push, of-first}
use Rattle.tr_matching.proofs.MemberLemmas.{each-push, numbers-push, some-numbers, some-push}

some-is : (c d : ℕ) → Some c ≡ Some d → c ≡ d
some-is c d e = cc

pub parts-none : (e : EarlierRecords) (at : ℕ) (it : Parting) → it.index ≡ [] → it.groups.items ≡ [] → AreParts e at [] it
parts-none e at it ei eg = record {
  each = λ a c f. absurd (let z : None ≡ Some c = sym (ap (λ l. part_of l a) ei) ∙ f in cc);
  cover = tt;
  all = λ c h. absurd (let z = ap length eg in omega arith);
}

module _ (e : EarlierRecords) (at : ℕ) (members : List Member) (was now : Parting) (p : AreParts e at members was) (m next : Member) (on : GoesOn e at m) (same : next.number ≡ m.number) (rest : IsMember e (at + 1) next) where
  abbrev answer : Answer
  answer = answer_at e.records at m.number

  abbrev more : List Member
  more = members ++ m ∷ []

  numbers : numbers_in more ≡ numbers_in members ++ m.number ∷ []
  numbers = numbers-push members m

  yes : is_answered e.records at answer m.number ≡ true
  yes = answered-so e.records at answer m.number on.1 refl

  -- those with its answer are one more
  filter-same : filter (is_answered e.records at answer) (numbers_in more) ≡ filter (is_answered e.records at answer) (numbers_in members) ++ m.number ∷ []
  filter-same = ap (filter (is_answered e.records at answer)) numbers ∙ filter-yes (is_answered e.records at answer) (numbers_in members) m.number yes

  -- those with another one are as many
  filter-other : (a : Answer) → a ≢ answer → filter (is_answered e.records at a) (numbers_in more) ≡ filter (is_answered e.records at a) (numbers_in members)
  filter-other a ne =
      ap (filter (is_answered e.records at a)) numbers
      ∙ filter-no (is_answered e.records at a) (numbers_in members) m.number (answered-other e.records at a m.number (λ q. ne (sym q)))

  -- a group with another answer stays one
  stays : (a : Answer) (part : Group) → a ≢ answer → IsAnswered e at members a part → IsAnswered e at more a part
  stays a part ne h = record { are = h.are ∙ sym (filter-other a ne); some = h.some; alike = h.alike; rests = h.rests; start = h.start; unknown = h.unknown; whole = h.whole }

  -- no group has its answer: it is alone
  module _ (new : (a : Answer) → part_of now.index a ≡ cond (same_answer answer a) (Some (length was.groups.items)) (part_of was.index a)) (none : part_of was.index answer ≡ None) (groups : now.groups.items ≡ was.groups.items ++ alone (at + 1) next ∷ []) where
    before : (c : ℕ) → c < length was.groups.items → group_at c now.groups.items ≡ group_at c was.groups.items
    before c h = ap (group_at c) groups ∙ get_or-append was.groups.items (alone (at + 1) next ∷ []) no_group c h

    last : group_at (length was.groups.items) now.groups.items ≡ alone (at + 1) next
    last = ap (group_at (length was.groups.items)) groups ∙ get_or-append_seam was.groups.items (alone (at + 1) next) [] no_group

    many : length now.groups.items ≡ length was.groups.items + 1
    many = let x = ap length groups in let y = length-append was.groups.items (alone (at + 1) next ∷ []) in omega arith

    mine : part_of now.index answer ≡ Some (length was.groups.items)
    mine = new answer ∙ ap (λ b. cond b (Some (length was.groups.items)) (part_of was.index answer)) (same-itself answer)

    theirs : (a : Answer) → a ≢ answer → part_of now.index a ≡ part_of was.index a
    theirs a ne = new a ∙ ap (λ b. cond b (Some (length was.groups.items)) (part_of was.index a)) (other-answer answer a (λ q. ne (sym q)))

    nobody : filter (is_answered e.records at answer) (numbers_in members) ≡ []
    nobody =
        filter-none (is_answered e.records at answer) (numbers_in members)
        (each-map (λ i. (c : ℕ) × (part_of was.index (answer_at e.records at i) ≡ Some c)) (λ i. is_answered e.records at answer i ≡ true → ⊥)
        (λ i f t. let z : None ≡ Some f.0 = sym none ∙ sym (ap (part_of was.index) (answered-tells e.records at answer i t)) ∙ f.1 in absurd cc) (numbers_in members) p.cover)

    alone-answered : IsAnswered e at more answer (alone (at + 1) next)
    alone-answered = record {
      are = ap (λ k. k ∷ []) same ∙ sym (filter-same ∙ ap (λ l. l ++ m.number ∷ []) nobody);
      some = λ z. absurd cc;
      alike = refl;
      rests = (rest, tt);
      start = rest.rest;
      unknown = refl;
      whole = refl;
    }

    by : (a : Answer) (c : ℕ) (b : Bool) → same_answer answer a ≡ b → part_of now.index a ≡ Some c → (c < length now.groups.items) × IsAnswered e at more a (group_at c now.groups.items)
    by a c true q f =
        let ea : answer ≡ a = same-answer answer a q in
        let ec : length was.groups.items ≡ c = some-is (length was.groups.items) c (sym mine ∙ ap (part_of now.index) ea ∙ f) in (
          (let y = many in omega arith),
          subst (λ k. IsAnswered e at more a (group_at k now.groups.items)) ec (subst (IsAnswered e at more a) (sym last) (subst (λ x. IsAnswered e at more x (alone (at + 1) next)) ea alone-answered)),
        )
    by a c false q f =
        let ne : a ≢ answer = λ z. let y : true ≡ false = sym (same-itself answer) ∙ sym (ap (same_answer answer) z) ∙ q in absurd cc in
        let h = p.each a c (sym (theirs a ne) ∙ f) in
        ((let x = h.0 in let y = many in omega arith), subst (IsAnswered e at more a) (sym (before c h.0)) (stays a (group_at c was.groups.items) ne h.1))

    covered : (i c : ℕ) (b : Bool) → same_answer answer (answer_at e.records at i) ≡ b → part_of was.index (answer_at e.records at i) ≡ Some c → (d : ℕ) × (part_of now.index (answer_at e.records at i) ≡ Some d)
    covered i c true q f = (length was.groups.items, sym (ap (part_of now.index) (same-answer answer (answer_at e.records at i) q)) ∙ mine)
    covered i c false q f = (c, new (answer_at e.records at i) ∙ ap (λ b. cond b (Some (length was.groups.items)) (part_of was.index (answer_at e.records at i))) q ∙ f)

    pub parts-new : AreParts e at more now
    parts-new = record {
      each = λ a c f. by a c (same_answer answer a) refl f;
      cover = subst (Each (λ i. (c : ℕ) × (part_of now.index (answer_at e.records at i) ≡ Some c))) (sym numbers)
          (each-push (λ i. (c : ℕ) × (part_of now.index (answer_at e.records at i) ≡ Some c)) (numbers_in members) m.number
          (each-map (λ i. (c : ℕ) × (part_of was.index (answer_at e.records at i) ≡ Some c)) (λ i. (c : ℕ) × (part_of now.index (answer_at e.records at i) ≡ Some c))
          (λ i f. covered i f.0 (same_answer answer (answer_at e.records at i)) refl f.1) (numbers_in members) p.cover)
          (length was.groups.items, mine));
      all = λ c h. elim (cases_lt c (length was.groups.items)) [
        | inl lt ↦
            let f = p.all c lt in
            let ne : f.0 ≢ answer = λ z. let y : None ≡ Some c = sym none ∙ ap (part_of was.index) (sym z) ∙ f.1 in absurd cc in
            (f.0, theirs f.0 ne ∙ f.1)
        | inr ge ↦ (answer, mine ∙ ap (λ k. Some k) (let y = many in let z : length was.groups.items ≡ c = omega arith in z))
      ];
    }

  -- a group has its answer: it is one of it
  module _ (c : ℕ) (found : part_of was.index answer ≡ Some c) (index : now.index ≡ was.index) (groups : now.groups.items ≡ slice_set was.groups.items c (with_member (group_at c was.groups.items) next)) where
    h : (c < length was.groups.items) × IsAnswered e at members answer (group_at c was.groups.items)
    h = p.each answer c found

    there : group_at c now.groups.items ≡ with_member (group_at c was.groups.items) next
    there = ap (group_at c) groups ∙ get_or-set_same was.groups.items c (with_member (group_at c was.groups.items) next) no_group h.0

    elsewhere : (d : ℕ) → d ≢ c → group_at d now.groups.items ≡ group_at d was.groups.items
    elsewhere d ne = ap (group_at d) groups ∙ get_or-set_other was.groups.items c d (with_member (group_at c was.groups.items) next) no_group ne

    as-many : length now.groups.items ≡ length was.groups.items
    as-many = ap length groups ∙ length-set was.groups.items c (with_member (group_at c was.groups.items) next)

    numbers-now : numbers_of (with_member (group_at c was.groups.items) next) ≡ numbers_of (group_at c was.groups.items) ++ m.number ∷ []
    numbers-now = numbers-push (group_at c was.groups.items).members next ∙ ap (λ k. numbers_of (group_at c was.groups.items) ++ k ∷ []) same

    first-now : first_of (with_member (group_at c was.groups.items) next) ≡ first_of (group_at c was.groups.items)
    first-now = ap head_of numbers-now ∙ head-push (numbers_of (group_at c was.groups.items)) m.number (some-numbers (group_at c was.groups.items).members h.1.some)

    joined : IsAnswered e at more answer (with_member (group_at c was.groups.items) next)
    joined = record {
      are = numbers-now ∙ ap (λ l. l ++ m.number ∷ []) h.1.are ∙ sym filter-same;
      some = some-push (group_at c was.groups.items).members next;
      alike = h.1.alike;
      rests = each-push (IsMember e (at + 1)) (group_at c was.groups.items).members next h.1.rests rest;
      start = subst (λ f. IsRest e f (at + 1) (group_at c was.groups.items).start) (sym first-now) h.1.start;
      unknown = h.1.unknown;
      whole = h.1.whole;
    }

    -- the first of a group was answered as the group
    first-answer : (a : Answer) (d : ℕ) → part_of was.index a ≡ Some d → answer_at e.records at (first_of (group_at d was.groups.items)) ≡ a
    first-answer a d f =
        let g = p.each a d f in
        answered-tells e.records at a (first_of (group_at d was.groups.items))
        (of-first (λ i. is_answered e.records at a i ≡ true) (numbers_of (group_at d was.groups.items)) (some-numbers (group_at d was.groups.items).members g.1.some)
        (subst (Each (λ i. is_answered e.records at a i ≡ true)) (sym g.1.are) (each-passes (is_answered e.records at a) (numbers_in members))))

    each-now : (a : Answer) (d : ℕ) → part_of was.index a ≡ Some d → (d < length now.groups.items) × IsAnswered e at more a (group_at d now.groups.items)
    each-now a d f = elim (cases_eq d c) [
      | inl q ↦
          let ea : answer ≡ a = sym (first-answer answer c found) ∙ ap (λ k. answer_at e.records at (first_of (group_at k was.groups.items))) (sym q) ∙ first-answer a d f in (
            (let x = (p.each a d f).0 in let y = as-many in omega arith),
            subst (λ x. IsAnswered e at more x (group_at d now.groups.items)) ea
                (subst (IsAnswered e at more answer) (sym (ap (λ k. group_at k now.groups.items) q ∙ there)) joined),
          )
      | inr ne ↦
          let g = p.each a d f in
          let na : a ≢ answer = λ z. ne (some-is d c (sym f ∙ ap (part_of was.index) z ∙ found)) in
          ((let x = g.0 in let y = as-many in omega arith), subst (IsAnswered e at more a) (sym (elsewhere d ne)) (stays a (group_at d was.groups.items) na g.1))
    ]

    pub parts-more : AreParts e at more now
    parts-more = record {
      each = λ a d f. each-now a d (ap (λ l. part_of l a) (sym index) ∙ f);
      cover = subst (λ l. Each (λ i. (d : ℕ) × (part_of l (answer_at e.records at i) ≡ Some d)) (numbers_in more)) (sym index)
          (subst (Each (λ i. (d : ℕ) × (part_of was.index (answer_at e.records at i) ≡ Some d))) (sym numbers)
          (each-push (λ i. (d : ℕ) × (part_of was.index (answer_at e.records at i) ≡ Some d)) (numbers_in members) m.number p.cover (c, found)));
      all = λ d k. let f = p.all d (let y = as-many in omega arith) in (f.0, ap (λ l. part_of l f.0) index ∙ f.1);
    }

-- ---- the next of the records

next-taken : (ms : List Member) (k : ℕ) (m : Member) → k < length ms → m ≡ get_or ms k m → take k ms ++ m ∷ [] ≡ take (k + 1) ms
next-taken ms k m lt read = ap (λ x. take k ms ++ x ∷ []) read ∙ sym (take_more ms k m lt)

module _ (e : EarlierRecords) (at : ℕ) (ms : List Member) (k : ℕ) (was now : Parting) (p : AreParts e at (take k ms) was) (m next : Member) (lt : k < length ms) (read : m ≡ get_or ms k m) (on : GoesOn e at m) (same : next.number ≡ m.number) (rest : IsMember e (at + 1) next) (key : Answer) (is : key ≡ answer_at e.records at m.number) where
  pub put-new : ((a : Answer) → part_of now.index a ≡ cond (same_answer key a) (Some (length was.groups.items)) (part_of was.index a)) → part_of was.index key ≡ None → now.groups.items ≡ was.groups.items ++ alone (at + 1) next ∷ [] → AreParts e at (take (k + 1) ms) now
  put-new new none groups =
      subst (λ l. AreParts e at l now) (next-taken ms k m lt read)
      (parts-new e at (take k ms) was now p m next on same rest
      (λ a. new a ∙ ap (λ x. cond (same_answer x a) (Some (length was.groups.items)) (part_of was.index a)) is) (sym (ap (part_of was.index) is) ∙ none) groups)

  pub put-more : (c : ℕ) → part_of was.index key ≡ Some c → now.index ≡ was.index → now.groups.items ≡ slice_set was.groups.items c (with_member (group_at c was.groups.items) next) → AreParts e at (take (k + 1) ms) now
  put-more c found index groups =
      subst (λ l. AreParts e at l now) (next-taken ms k m lt read)
      (parts-more e at (take k ms) was now p m next on same rest c (sym (ap (part_of was.index) is) ∙ found) index groups)

  -- the part that is found is among the groups
  pub put-here : (c : ℕ) → part_of was.index key ≡ Some c → c < length was.groups.items
  put-here c found = (p.each key c found).0
