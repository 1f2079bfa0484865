-- Commands at places among groups.
use Rattle.std.proofs.Common.{◌≡◌, ◌≢◌, ℕ, ◌+◌, ◌<◌, true, false, List, [], ◌∷◌, ◌++◌, length, take, refl, sym, ◌∙◌, ap, subst, arith, inl, inr, length-append}
use Rattle.std.proofs.Math.ListN.{get_or-append}
use Rattle.std.proofs.Math.Seq.{get_or-append_seam}
use Rattle.std.proofs.lemmas.Bool.{cases_lt}
use Rattle.tr_record.specs.Rec.{rec_at}
use Rattle.tr_matching.specs.declared.group.Group.{Group}
use Rattle.tr_matching.specs.declared.member.Member.{Member}
use Rattle.tr_matching.specs.declared.next.Next.{Next}
use Rattle.tr_matching.specs.declared.next.Next.TheVariants.{Asks, Ends, Torn}
use Rattle.tr_matching.specs.Earlier.{EarlierRecords, IsRest}
use Rattle.tr_matching.specs.Groups.{AreGroups, AreMembers, BeginAlike, Grows, IsCommon, IsGroup, IsKnown, first_of, group_at, no_group, numbers_in, numbers_of}
use Rattle.tr_matching.specs.Left.{next_at}
use Rattle.tr_matching.specs.Matching.{AllSay, head_of}
use Rattle.tr_matching.specs.Places.{IsBegun, IsNext, IsNextOf}
use Rattle.tr_matching.proofs.EachLemmas.{each-all}
use Rattle.tr_matching.proofs.FilterLemmas.{of-first}
use Rattle.tr_matching.proofs.GroupLemmas.{grows-append, known-say, split-grows}
use Rattle.tr_matching.proofs.MemberLemmas.{some-numbers}

-- ---- the first group

module _ (e : EarlierRecords) (it : Group) (some : it.members ≢ []) (zero_alike : it.alike ≡ 0) (unknown : it.agreed ≡ false) (whole : it.parted ≡ false) (members : AreMembers e 0 it.members) where
  first-common : IsCommon e it
  first-common = record {
    some = some;
    members = subst (λ n. AreMembers e n it.members) (sym zero_alike) members;
    alike = subst (λ n. BeginAlike e.records n (numbers_of it)) (sym zero_alike) (each-all (λ i. take 0 (rec_at i e.records).steps ≡ take 0 (rec_at (first_of it) e.records).steps) (λ i. refl) (numbers_of it));
    agreed = λ z. absurd (let f : false ≡ true = sym unknown ∙ z in cc);
  }

  first-is : (groups : List Group) → IsGroup e groups it
  first-is groups = record { common = first-common; split = λ z. absurd (let f : false ≡ true = sym whole ∙ z in cc) }

  -- behind other groups
  with-first : (groups : List Group) → AreGroups e groups → AreGroups e (groups ++ it ∷ [])
  with-first groups are g h = elim (cases_lt g (length groups)) [
    | inl lt ↦
        let was = are g lt in
        subst (IsGroup e (groups ++ it ∷ [])) (sym (get_or-append groups (it ∷ []) no_group g lt))
        (record { common = was.common; split = λ z. let s = was.split z in (s.0, split-grows e groups (groups ++ it ∷ []) (group_at g groups) (grows-append groups (it ∷ [])) s.1) })
    | inr ge ↦
        let last : g ≡ length groups = (let n = length-append groups (it ∷ []) in omega arith) in
        subst (IsGroup e (groups ++ it ∷ [])) (sym (ap (λ n. group_at n (groups ++ it ∷ [])) last ∙ get_or-append_seam groups it [] no_group)) (first-is (groups ++ it ∷ []))
  ]

  pub first-groups : (groups now : List Group) → AreGroups e groups → now ≡ groups ++ it ∷ [] → AreGroups e now
  first-groups groups now are q = subst (AreGroups e) (sym q) (with-first groups are)

pub first-grows : (groups now : List Group) (it : Group) → now ≡ groups ++ it ∷ [] → Grows groups now
first-grows groups now it q = subst (Grows groups) (sym q) (grows-append groups (it ∷ []))

-- the last group
pub first-last : (groups now : List Group) (it : Group) (g : ℕ) → now ≡ groups ++ it ∷ [] → g ≡ length groups → group_at g now ≡ it
first-last groups now it g q n = ap (λ (l : List Group). group_at g l) q ∙ ap (λ n. group_at n (groups ++ it ∷ [])) n ∙ get_or-append_seam groups it [] no_group

pub first-begun : (e : EarlierRecords) (groups now : List Group) (it : Group) (g : ℕ) → now ≡ groups ++ it ∷ [] → g ≡ length groups → IsRest e (first_of it) 0 it.start → IsBegun e now g
first-begun e groups now it g q n r = (
  (let long : length now ≡ length groups + 1 = ap length q ∙ length-append groups (it ∷ []) in omega arith),
  subst (λ (y : Group). IsRest e (first_of y) 0 y.start) (sym (first-last groups now it g q n)) r,
)

-- the first of some members is a record
pub first-in : (e : EarlierRecords) (at : ℕ) (ms : List Member) → ms ≢ [] → AreMembers e at ms → head_of (numbers_in ms) < length e.records
first-in e at [] some are = absurd (some refl)
first-in e at (m ∷ ms) some are = are.0.here

pub some-in : (ms : List Member) (numbers : List ℕ) → numbers_in ms ≡ numbers → numbers ≢ [] → ms ≢ []
some-in ms numbers q some z = some (sym q ∙ ap numbers_in z)

-- ---- what is next

-- what the first of them has next they all have
pub next-is : (e : EarlierRecords) (it : Group) (at : ℕ) (n : Next) → IsCommon e it → IsKnown at it → IsNextOf at (rec_at (first_of it) e.records) n → IsNext e.records at (numbers_of it) n
next-is e it at (Asks call cost) c k p = (subst (λ s. AllSay e.records at s (numbers_of it)) p.0 (known-say e it at c k), p.1)
next-is e it at (Ends status cost) c k p = (subst (λ s. AllSay e.records at s (numbers_of it)) p (known-say e it at c k), tt)
next-is e it at Torn c k p = λ s h. p s (of-first (λ i. next_at at (rec_at i e.records) ≡ s) (numbers_of it) (some-numbers it.members c.some) h.0) h.1
