-- Records that count once tell the same cause as all of them.
use Rattle.std.proofs.Common.{◌≡◌, ◌≢◌, ◌⊎◌, ℕ, zero, suc, ◌≤◌, ◌<◌, Bool, true, false, cond, ltb, List, [], ◌∷◌, ◌++◌, length, take, filter, get_or, Option, Some, None, refl, sym, ◌∙◌, ap, subst, arith, inl, inr}
use Rattle.std.specs.Prelude.{fold}
use Rattle.std.specs.List.{AllByRecursion as Each}
use Rattle.std.proofs.lemmas.Bool.{cond-true, cond-false, ltb-true, ltb-false, le-ltb, cases_Bool}
use Rattle.rk_calls.specs.declared.answer.Answer.{Answer}
use Rattle.tr_record.specs.declared.records.Record.{Record}
use Rattle.tr_record.specs.declared.steps.Step.{Step}
use Rattle.tr_record.specs.Rec.{rec_at}
use Rattle.tr_matching.specs.declared.cause.Cause.{Cause}
use Rattle.tr_matching.specs.declared.cause.Cause.TheVariants.{NoRecord, Differs}
use Rattle.tr_matching.specs.Causes.{first_difference, further_of, further, cause_among}
use Rattle.tr_matching.specs.Left.{AreTalkAlike}
use Rattle.tr_matching.specs.Once.{Did, IsOnce}
use Rattle.tr_matching.proofs.EachLemmas.{each-map}

-- ---- the cause that goes further

same-both : (b : Bool) (x : Cause) → cond b x x ≡ x
same-both true x = refl
same-both false x = refl

further-itself : (d : Cause) → further_of d d ≡ d
further-itself NoRecord = refl
further-itself (Differs n r s) = same-both (ltb n n) (Differs n r s)

further-again : (c d : Cause) → further_of (further_of c d) d ≡ further_of c d
further-again NoRecord d = further-itself d
further-again (Differs n r s) NoRecord = refl
further-again (Differs n r s) (Differs m r' s') = elim (cases_Bool (ltb n m)) [
  | inl t ↦
      let e : further_of (Differs n r s) (Differs m r' s') ≡ Differs m r' s' = cond-true (ltb n m) (Differs m r' s') (Differs n r s) t in
      ap (λ x. further_of x (Differs m r' s')) e ∙ further-itself (Differs m r' s') ∙ sym e
  | inr f ↦ ap (λ x. further_of x (Differs m r' s')) (cond-false (ltb n m) (Differs m r' s') (Differs n r s) f)
]

no-record : (d x : Cause) → x ≡ NoRecord → further_of d x ≡ d
no-record d x h = ap (further_of d) h ∙ right d
  where
    right : (c : Cause) → further_of c NoRecord ≡ c
    right NoRecord = refl
    right (Differs n r s) = refl

not-further : (n m k : ℕ) (r s r' s' r'' s'' : Answer) → n < m → further_of (Differs n r s) (Differs k r'' s'') ≡ Differs n r s → further_of (Differs m r' s') (Differs k r'' s'') ≡ Differs m r' s'
not-further n m k r s r' s' r'' s'' lt h = cond-false (ltb m k) (Differs k r'' s'') (Differs m r' s') (le-ltb m k le)
  where
    le : k ≤ m
    le = elim (cases_Bool (ltb n k)) [
      | inl t ↦
          let q : Differs k r'' s'' ≡ Differs n r s = sym (cond-true (ltb n k) (Differs k r'' s'') (Differs n r s) t) ∙ h in
          let same : k ≡ n = cc in
          omega arith
      | inr f ↦ let x = ltb-false n k f in omega arith
    ]

further-kept : (c d x : Cause) → further_of c x ≡ c → further_of (further_of c d) x ≡ further_of c d
further-kept NoRecord d x h = no-record d x h
further-kept (Differs n r s) NoRecord x h = h
further-kept (Differs n r s) (Differs m r' s') NoRecord h = no-record (further_of (Differs n r s) (Differs m r' s')) NoRecord refl
further-kept (Differs n r s) (Differs m r' s') (Differs k r'' s'') h = elim (cases_Bool (ltb n m)) [
  | inl t ↦
      let e : further_of (Differs n r s) (Differs m r' s') ≡ Differs m r' s' = cond-true (ltb n m) (Differs m r' s') (Differs n r s) t in
      ap (λ x. further_of x (Differs k r'' s'')) e ∙ not-further n m k r s r' s' r'' s'' (ltb-true n m t) h ∙ sym e
  | inr f ↦
      let e : further_of (Differs n r s) (Differs m r' s') ≡ Differs n r s = cond-false (ltb n m) (Differs m r' s') (Differs n r s) f in
      ap (λ x. further_of x (Differs k r'' s'')) e ∙ h ∙ sym e
]

in-further : (best d : Option Cause) → further (further best d) d ≡ further best d
in-further None d = refl
in-further (Some c) None = refl
in-further (Some c) (Some d) = ap (λ x. Some x) (further-again c d)

some-is : (c d : Cause) → Some c ≡ Some d → c ≡ d
some-is c d e = cc

in-still : (best d x : Option Cause) → further best x ≡ best → further (further best d) x ≡ further best d
in-still None d x h = refl
in-still (Some c) None x h = refl
in-still (Some c) (Some d) None h = absurd (let f : None ≡ Some c = h in cc)
in-still (Some c) (Some d) (Some x) h = ap (λ y. Some y) (further-kept c d x (some-is (further_of c x) c h))

-- ---- records that count once

module _ (old : List Record) (steps : List Step) where
  abbrev differ : ℕ → Option Cause
  differ i = first_difference 1 (rec_at i old).steps steps

  abbrev furthest : Option Cause → List ℕ → Option Cause
  furthest best numbers = fold (λ best i. further best (differ i)) best numbers

  -- the cause of one that did the same is counted already
  counted : (best : Option Cause) (before : List ℕ) (i : ℕ) → Each (λ j. further best (differ j) ≡ best) before → Did old before i → further best (differ i) ≡ best
  counted best [] i e d = absurd d
  counted best (j ∷ before) i e (inl alike) = ap (λ l. further best (first_difference 1 l steps)) (sym alike.0) ∙ e.0
  counted best (j ∷ before) i e (inr d) = counted best before i e.1 d

  once-furthest : (numbers before kept : List ℕ) (best : Option Cause) → Each (λ j. further best (differ j) ≡ best) before → IsOnce old before numbers kept → furthest best kept ≡ furthest best numbers
  once-furthest [] before kept best e o = ap (furthest best) o
  once-furthest (i ∷ numbers) before kept best e (inl o) =
      ap (furthest best) o.1
      ∙ once-furthest numbers (i ∷ before) o.0 (further best (differ i))
      (in-further best (differ i), each-map (λ j. further best (differ j) ≡ best) (λ j. further (further best (differ i)) (differ j) ≡ further best (differ i)) (λ j h. in-still best (differ i) (differ j) h) before e) o.2
  once-furthest (i ∷ numbers) before kept best e (inr o) =
      once-furthest numbers before kept best e o.1 ∙ ap (λ b. furthest b numbers) (sym (counted best before i e o.0))

  -- they tell the same cause as all of them
  pub once-cause : (numbers kept : List ℕ) → IsOnce old [] numbers kept → cause_among old kept steps ≡ cause_among old numbers steps
  unfolding cause_among
  once-cause numbers kept o = once-furthest numbers [] kept (Some NoRecord) tt o

-- ---- one record more

-- it is kept
pub once-kept : (old : List Record) (numbers before kept : List ℕ) (i : ℕ) → IsOnce old before numbers kept → IsOnce old before (numbers ++ i ∷ []) (kept ++ i ∷ [])
once-kept old [] before kept i o = inl ([], ap (λ l. l ++ i ∷ []) o, refl)
once-kept old (x ∷ numbers) before kept i (inl o) = inl (o.0 ++ i ∷ [], ap (λ l. l ++ i ∷ []) o.1, once-kept old numbers (x ∷ before) o.0 i o.2)
once-kept old (x ∷ numbers) before kept i (inr o) = inr (o.0, once-kept old numbers before kept i o.1)

-- one that was kept did the same
pub once-left_out : (old : List Record) (numbers before kept : List ℕ) (i : ℕ) → IsOnce old before numbers kept → Did old kept i ⊎ Did old before i → IsOnce old before (numbers ++ i ∷ []) kept
once-left_out old [] before kept i o (inl d) = absurd (subst (λ l. Did old l i) o d)
once-left_out old [] before kept i o (inr d) = inr (d, o)
once-left_out old (x ∷ numbers) before kept i (inl o) d = inl (o.0, o.1, once-left_out old numbers (x ∷ before) o.0 i o.2 (among d))
  where
    in-kept : Did old (x ∷ o.0) i → Did old o.0 i ⊎ Did old (x ∷ before) i
    in-kept (inl alike) = inr (inl alike)
    in-kept (inr d) = inl d

    among : Did old kept i ⊎ Did old before i → Did old o.0 i ⊎ Did old (x ∷ before) i
    among (inl d) = in-kept (subst (λ l. Did old l i) o.1 d)
    among (inr d) = inr (inr d)
once-left_out old (x ∷ numbers) before kept i (inr o) d = inr (o.0, once-left_out old numbers before kept i o.1 d)

-- ---- what holds of records that did the same

-- it holds of one of which a kept one did the same
did-so : (old : List Record) (P : ℕ → Type 0) (before : List ℕ) (i : ℕ) → Each P before → ((j : ℕ) → AreTalkAlike (rec_at j old) (rec_at i old) → P j → P i) → Did old before i → P i
did-so old P [] i e h d = absurd d
did-so old P (j ∷ before) i e h (inl alike) = h j alike e.0
did-so old P (j ∷ before) i e h (inr d) = did-so old P before i e.1 h d

-- it holds of each where it holds of those that are kept
once-all : (old : List Record) (P : ℕ → Type 0) (numbers before kept : List ℕ) → ((j i : ℕ) → AreTalkAlike (rec_at j old) (rec_at i old) → P j → P i) → IsOnce old before numbers kept → Each P before → Each P kept → Each P numbers
once-all old P [] before kept h o b e = tt
once-all old P (i ∷ numbers) before kept h (inl o) b e =
    let f : Each P (i ∷ o.0) = subst (Each P) o.1 e in
    (f.0, once-all old P numbers (i ∷ before) o.0 h o.2 (f.0, b) f.1)
once-all old P (i ∷ numbers) before kept h (inr o) b e = (did-so old P before i b (λ j. h j i) o.0, once-all old P numbers before kept h o.1 b e)

pub once-each : (old : List Record) (P : ℕ → Type 0) (numbers kept : List ℕ) → ((j i : ℕ) → AreTalkAlike (rec_at j old) (rec_at i old) → P j → P i) → IsOnce old [] numbers kept → Each P kept → Each P numbers
once-each old P numbers kept h o e = once-all old P numbers [] kept h o tt e

-- what holds of each holds of those that are kept
pub once-part : (old : List Record) (P : ℕ → Type 0) (numbers before kept : List ℕ) → IsOnce old before numbers kept → Each P numbers → Each P kept
once-part old P [] before kept o e = subst (Each P) (sym o) tt
once-part old P (i ∷ numbers) before kept (inl o) e = subst (Each P) (sym o.1) (e.0, once-part old P numbers (i ∷ before) o.0 o.2 e.1)
once-part old P (i ∷ numbers) before kept (inr o) e = once-part old P numbers before kept o.1 e.1

-- ---- the first of them

-- none is kept where there are none, and only there
pub once-some : (old : List Record) (numbers kept : List ℕ) → IsOnce old [] numbers kept → numbers ≢ [] → kept ≢ []
once-some old [] kept o ne z = ne refl
once-some old (i ∷ numbers) kept (inl o) ne z = absurd (let f : [] ≡ i ∷ o.0 = sym z ∙ o.1 in cc)
once-some old (i ∷ numbers) kept (inr o) ne z = absurd o.0

pub once-none : (old : List Record) (numbers kept : List ℕ) → IsOnce old [] numbers kept → kept ≡ [] → numbers ≡ []
once-none old [] kept o z = refl
once-none old (i ∷ numbers) kept (inl o) z = absurd (let f : [] ≡ i ∷ o.0 = sym z ∙ o.1 in cc)
once-none old (i ∷ numbers) kept (inr o) z = absurd o.0

-- the first that is kept is the first of all
pub once-first : (old : List Record) (numbers kept : List ℕ) (i : ℕ) (more : List ℕ) → IsOnce old [] numbers kept → kept ≡ i ∷ more → (others : List ℕ) × (numbers ≡ i ∷ others)
once-first old [] kept i more o z = absurd (let f : [] ≡ i ∷ more = sym o ∙ z in cc)
once-first old (j ∷ numbers) kept i more (inl o) z =
    let f : j ∷ o.0 ≡ i ∷ more = sym o.1 ∙ z in
    (numbers, let e : j ≡ i = cc in ap (λ n. n ∷ numbers) e)
once-first old (j ∷ numbers) kept i more (inr o) z = absurd o.0

-- ---- those that pass a test

keeps-did : (old : List Record) (t : ℕ → Bool) (before : List ℕ) (i : ℕ) → ((j i : ℕ) → AreTalkAlike (rec_at j old) (rec_at i old) → t j ≡ t i) → t i ≡ true → Did old before i → Did old (filter t before) i
keeps-did old t [] i h passes d = d
keeps-did old t (j ∷ before) i h passes (inl alike) = subst (λ b. Did old (cond b (j ∷ filter t before) (filter t before)) i) (sym (h j i alike ∙ passes)) (inl alike)
keeps-did old t (j ∷ before) i h passes (inr d) =
    elim (t j) as (λ b. Did old (cond b (j ∷ filter t before) (filter t before)) i) [
      | true ↦ inr (keeps-did old t before i h passes d)
      | false ↦ keeps-did old t before i h passes d
    ]

-- one that isn't kept
filter-left_out : (old : List Record) (t : ℕ → Bool) (numbers before kept : List ℕ) (i : ℕ) (b : Bool) → (b ≡ true → Did old (filter t before) i) → IsOnce old (filter t before) (filter t numbers) (filter t kept)
    → IsOnce old (filter t before) (cond b (i ∷ filter t numbers) (filter t numbers)) (filter t kept)
filter-left_out old t numbers before kept i true d rest = inr (d refl, rest)
filter-left_out old t numbers before kept i false d rest = rest

-- a test that tells the same of records that did the same
pub once-filter : (old : List Record) (t : ℕ → Bool) (numbers before kept : List ℕ) → ((j i : ℕ) → AreTalkAlike (rec_at j old) (rec_at i old) → t j ≡ t i) → IsOnce old before numbers kept → IsOnce old (filter t before) (filter t numbers) (filter t kept)
once-filter old t [] before kept h o = ap (filter t) o
once-filter old t (i ∷ numbers) before kept h (inl o) =
    subst (λ l. IsOnce old (filter t before) (filter t (i ∷ numbers)) (filter t l)) (sym o.1)
    ((elim (t i) as (λ b. IsOnce old (cond b (i ∷ filter t before) (filter t before)) (filter t numbers) (filter t o.0) → IsOnce old (filter t before) (cond b (i ∷ filter t numbers) (filter t numbers)) (cond b (i ∷ filter t o.0) (filter t o.0))) [
      | true ↦ λ r. inl (filter t o.0, refl, r)
      | false ↦ λ r. r
    ]) (once-filter old t numbers (i ∷ before) o.0 h o.2))
once-filter old t (i ∷ numbers) before kept h (inr o) =
    filter-left_out old t numbers before kept i (t i) (λ passes. keeps-did old t before i h passes o.0) (once-filter old t numbers before kept h o.1)

-- ---- the first of them of which something doesn't hold

-- a place, and all before it hold
pub record IsFirstNot (P : ℕ → Type 0) (numbers : List ℕ) (i : ℕ) : Type 0 where
  pub place : ℕ
  pub here : place < length numbers
  pub is : i ≡ get_or numbers place 0
  pub before : Each P (take place numbers)

not-later : (P : ℕ → Type 0) (numbers : List ℕ) (m i : ℕ) → P m → IsFirstNot P numbers i → IsFirstNot P (m ∷ numbers) i
not-later P numbers m i p n =
    let lt : n.place < length numbers = n.here in
    record { place = suc n.place; here = omega arith; is = n.is; before = (p, n.before) }

not-at : (P : ℕ → Type 0) (numbers rest : List ℕ) (m i : ℕ) → (P m → IsFirstNot P rest i → IsFirstNot P (m ∷ numbers) i) → (k : ℕ) → k < length (m ∷ rest) → i ≡ get_or (m ∷ rest) k 0 → Each P (take k (m ∷ rest)) → IsFirstNot P (m ∷ numbers) i
not-at P numbers rest m i later zero lt is all = record { place = 0; here = omega arith; is = is; before = tt }
not-at P numbers rest m i later (suc k) lt is all = later all.0 (record { place = k; here = (let z : suc k < suc (length rest) = lt in omega arith); is = is; before = all.1 })

first-not : (old : List Record) (P : ℕ → Type 0) (numbers before kept : List ℕ) (i : ℕ) → Each (λ m. (j : ℕ) → AreTalkAlike (rec_at j old) (rec_at m old) → P j → P m) numbers → IsOnce old before numbers kept → Each P before → IsFirstNot P kept i → IsFirstNot P numbers i
first-not old P [] before kept i h o b f = absurd (let z : length kept ≡ 0 = ap length o in let x = f.here in omega arith)
first-not old P (m ∷ numbers) before kept i h (inl o) b f =
    not-at P numbers o.0 m i (λ p r. not-later P numbers m i p (first-not old P numbers (m ∷ before) o.0 i h.1 o.2 (p, b) r)) f.place (subst (λ l. f.place < length l) o.1 f.here)
    (subst (λ l. i ≡ get_or l f.place 0) o.1 f.is) (subst (λ l. Each P (take f.place l)) o.1 f.before)
first-not old P (m ∷ numbers) before kept i h (inr o) b f = not-later P numbers m i (did-so old P before m b h.0 o.0) (first-not old P numbers before kept i h.1 o.1 b f)

pub once-first_not : (old : List Record) (P : ℕ → Type 0) (numbers kept : List ℕ) (i : ℕ) → Each (λ m. (j : ℕ) → AreTalkAlike (rec_at j old) (rec_at m old) → P j → P m) numbers → IsOnce old [] numbers kept → IsFirstNot P kept i → IsFirstNot P numbers i
once-first_not old P numbers kept i h o f = first-not old P numbers [] kept i h o tt f
