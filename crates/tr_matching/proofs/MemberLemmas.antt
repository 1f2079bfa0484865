-- Records with their rests, and their numbers.
use Rattle.std.proofs.Common.{◌≡◌, ◌≢◌, ℕ, zero, suc, ◌+◌, ◌<◌, List, [], ◌∷◌, ◌++◌, length, drop, set, get_or, refl, sym, ◌∙◌, ap, subst, arith}
use Rattle.std.specs.List.{AllByRecursion as Each}
use Rattle.std.proofs.lemmas.List.{length-map, map-append}
use Rattle.rk_calls.specs.declared.drive.Spoke.{Spoke}
use Rattle.tr_record.specs.Pool.{steps_under}
use Rattle.tr_record.specs.Rec.{rec_at}
use Rattle.tr_record.specs.declared.records.Record.{Record}
use Rattle.tr_record.specs.declared.steps.Step.{Step}
use Rattle.tr_matching.specs.declared.member.Member.{Member}
use Rattle.tr_matching.specs.Earlier.{EarlierRecords, IsRest}
use Rattle.tr_matching.specs.Groups.{numbers_in, AreMembers, GoesOn, HasStep, HaveAlike}
use Rattle.tr_matching.specs.Left.{next_at}
use Rattle.tr_matching.specs.Matching.{AllSay, HaveOne, IsDear, head_of}
use Rattle.tr_matching.specs.Steps.{step_at}
use Rattle.tr_matching.proofs.EachLemmas.{each-at}

-- ---- numbers

pub numbers-push : (ms : List Member) (m : Member) → numbers_in (ms ++ m ∷ []) ≡ numbers_in ms ++ m.number ∷ []
numbers-push ms m = map-append (λ (x : Member). x.number) ms (m ∷ [])

pub numbers-set : (ms : List Member) (k : ℕ) (m : Member) → m.number ≡ (get_or ms k m).number → numbers_in (set ms k m) ≡ numbers_in ms
numbers-set [] k m h = refl
numbers-set (x ∷ ms) zero m h = ap (λ n. n ∷ numbers_in ms) h
numbers-set (x ∷ ms) (suc k) m h = ap (λ l. x.number ∷ l) (numbers-set ms k m h)

pub some-numbers : (ms : List Member) → ms ≢ [] → numbers_in ms ≢ []
some-numbers [] h e = h refl
some-numbers (m ∷ ms) h e = absurd (let f : m.number ∷ numbers_in ms ≡ [] = e in cc)

pub numbers-some : (ms : List Member) → numbers_in ms ≢ [] → ms ≢ []
numbers-some ms h e = h (ap numbers_in e)

pub some-members : (ms : List Member) → ms ≢ [] → 0 < length ms
some-members [] h = absurd (h refl)
some-members (m ∷ ms) h = omega arith

pub some-push : (ms : List Member) (m : Member) → ms ++ m ∷ [] ≢ []
some-push [] m e = absurd cc
some-push (x ∷ ms) m e = absurd cc

pub first-number : (ms : List Member) (d : Member) → ms ≢ [] → (get_or ms 0 d).number ≡ head_of (numbers_in ms)
first-number [] d h = absurd (h refl)
first-number (x ∷ ms) d h = refl

pub same-many : (ms others : List Member) → numbers_in ms ≡ numbers_in others → length ms ≡ length others
same-many ms others e = sym (length-map ms (λ (m : Member). m.number)) ∙ ap length e ∙ length-map others (λ (m : Member). m.number)

-- ---- what holds of each

pub each-numbers : (P : ℕ → Type 0) (ms : List Member) → Each (λ (m : Member). P m.number) ms → Each P (numbers_in ms)
each-numbers P [] e = tt
each-numbers P (m ∷ ms) e = (e.0, each-numbers P ms e.1)

pub each-of_numbers : (P : ℕ → Type 0) (ms : List Member) → Each P (numbers_in ms) → Each (λ (m : Member). P m.number) ms
each-of_numbers P [] e = tt
each-of_numbers P (m ∷ ms) e = (e.0, each-of_numbers P ms e.1)

pub each-push : {X : Type 0} (P : X → Type 0) (xs : List X) (x : X) → Each P xs → P x → Each P (xs ++ x ∷ [])
each-push P [] x e p = (p, tt)
each-push P (y ∷ xs) x e p = (e.0, each-push P xs x e.1 p)

pub each-read : (P : Member → Type 0) (ms : List Member) (k : ℕ) (m : Member) → Each P ms → k < length ms → m ≡ get_or ms k m → P m
each-read P ms k m e h i = subst P (sym i) (each-at P ms k m e h)

-- ---- a step more, record by record

drop-set : (ms : List Member) (k : ℕ) (m : Member) → drop (suc k) (set ms k m) ≡ drop (suc k) ms
drop-set [] k m = refl
drop-set (x ∷ ms) zero m = refl
drop-set (x ∷ ms) (suc k) m = drop-set ms k m

drop-some : (ms : List Member) (k : ℕ) (m : Member) → k < length ms → drop k ms ≡ get_or ms k m ∷ drop (suc k) ms
drop-some [] k m h = absurd (omega arith)
drop-some (x ∷ ms) zero m h = refl
drop-some (x ∷ ms) (suc k) m h = drop-some ms k m (omega arith)

-- what is left behind one that was put in its place
pub each-left : (P : Member → Type 0) (ms : List Member) (k : ℕ) (m : Member) → k < length ms → Each P (drop k ms) → Each P (drop (k + 1) (set ms k m))
each-left P ms k m h e =
    let one : suc k ≡ k + 1 = omega arith in
    subst (λ n. Each P (drop n (set ms k m))) one (subst (Each P) (sym (drop-set ms k m)) (rest (drop k ms) (get_or ms k m) (drop (suc k) ms) (drop-some ms k m h) e))
  where
    rest : (l : List Member) (x : Member) (xs : List Member) → l ≡ x ∷ xs → Each P l → Each P xs
    rest l x xs q e = let f : Each P (x ∷ xs) = subst (Each P) q e in f.1

pub each-now : (P : Member → Type 0) (ms : List Member) (k : ℕ) (m : Member) → k < length ms → Each P (drop k ms) → m ≡ get_or ms k m → P m
each-now P ms k m h e i = subst P (sym i) (let f : Each P (get_or ms k m ∷ drop (suc k) ms) = subst (Each P) (drop-some ms k m h) e in f.0)

-- ---- steps

cut-step : (n : ℕ) (xs : List Step) (st : Step) (rest : List Step) → drop n xs ≡ st ∷ rest → (n < length xs) × (step_at n xs ≡ st)
cut-step zero [] st rest e = absurd cc
cut-step (suc n) [] st rest e = absurd cc
cut-step zero (x ∷ xs) st rest e = let h : x ≡ st = cc in (omega arith, h)
cut-step (suc n) (x ∷ xs) st rest e =
    let r = cut-step n xs st rest e in
    let lt : n < length xs = r.0 in
    (omega arith, r.1)

next-step : (n : ℕ) (xs : List Step) → n < length xs → drop n xs ≡ step_at n xs ∷ drop (suc n) xs
next-step n [] h = absurd (omega arith)
next-step zero (x ∷ xs) h = refl
next-step (suc n) (x ∷ xs) h = next-step n xs (omega arith)

-- two records whose rests have one number have all that follows in common
pub rest-same : (e : EarlierRecords) (i j at number other : ℕ) (st : Step) → IsRest e i at number → IsRest e j at other → number ≡ other → HasStep e.records at st j → HasStep e.records at st i
rest-same e i j at number other st a b same h =
    let steps = (rec_at j e.records).steps in
    let q : drop at (rec_at i e.records).steps ≡ st ∷ drop (suc at) steps =
    sym a.rest ∙ ap (steps_under e.contents.nodes) same ∙ b.rest ∙ next-step at steps h.0 ∙ ap (λ s. s ∷ drop (suc at) steps) h.1 in
    cut-step at (rec_at i e.records).steps st (drop (suc at) steps) q

-- those that have a step there go on
pub alike-go_on : (e : EarlierRecords) (at : ℕ) (ms : List Member) → AreMembers e at ms → HaveAlike e.records at (numbers_in ms) → Each (GoesOn e at) ms
alike-go_on e at ms are alike = both ms are (each-of_numbers (HasStep e.records at (step_at at (rec_at (head_of (numbers_in ms)) e.records).steps)) ms alike)
  where
    both : (l : List Member) → AreMembers e at l → Each (λ (m : Member). HasStep e.records at (step_at at (rec_at (head_of (numbers_in ms)) e.records).steps) m.number) l → Each (GoesOn e at) l
    both [] a h = tt
    both (m ∷ l) a h = ((a.0, h.0.0), both l a.1 h.1)

-- ---- one next

-- two of them have the same next where all have one
pub one-next : (old : List Record) (at : ℕ) (ms : List Member) (k : ℕ) (d d' : Member) (s : Spoke) → ms ≢ [] → k < length ms → AllSay old at s (numbers_in ms)
    → next_at at (rec_at (get_or ms k d).number old) ≡ next_at at (rec_at (get_or ms 0 d').number old)
one-next old at ms k d d' s some h all =
    let each = each-of_numbers (λ i. next_at at (rec_at i old) ≡ s) ms all in
    each-at (λ (m : Member). next_at at (rec_at m.number old) ≡ s) ms k d each h ∙ sym (each-at (λ (m : Member). next_at at (rec_at m.number old) ≡ s) ms 0 d' each (some-members ms some))

-- they have one where each has the first one's, which costs something
pub have-one : (old : List Record) (at : ℕ) (ms : List Member) (d : Member) → ms ≢ [] → Each (λ (m : Member). next_at at (rec_at m.number old) ≡ next_at at (rec_at (get_or ms 0 d).number old)) ms
    → IsDear (next_at at (rec_at (get_or ms 0 d).number old)) → HaveOne old at (numbers_in ms) (next_at at (rec_at (head_of (numbers_in ms)) old))
have-one old at ms d some each dear =
    subst (λ i. HaveOne old at (numbers_in ms) (next_at at (rec_at i old))) (first-number ms d some)
    (each-numbers (λ i. next_at at (rec_at i old) ≡ next_at at (rec_at (get_or ms 0 d).number old)) ms each, dear)
