-- The order of the listings.
use Rattle.std.proofs.Common.{◌≡◌, ◌<◌, ◌+◌, ◌⊎◌, inl, inr, ℕ, List, [], ◌∷◌, ◌++◌, map, drop, length, append_assoc, Bool, true, false, ◌||◌, arith, refl, sym, ap, subst, ◌∙◌, cond, eqb}
use Rattle.std.proofs.lemmas.Bool.{eqb-true}
use Rattle.std.proofs.lemmas.Cmp.{tied_itself}
use Rattle.std.specs.List.{list_any}
use Rattle.std.specs.Ordering.{MatchOrdering, nat_cmp, ordering_then, ordering_reverse, is_lt, is_gt}
use Rattle.std.specs.declared.cmp.Ordering.{Ordering}
use Rattle.std.specs.declared.cmp.Ordering.TheVariants.{Less, Equal, Greater}
use Rattle.std.specs.Cmp.{nat_cmp_total, nat_cmp_is, ranks, upto}
use Rattle.std.specs.Cmp.Lexicographic.{nat_list_cmp_total}
use Rattle.std.specs.FinMap.{nat_cmp-IsAntisymmetric}
use Rattle.rk_base.specs.Text.{Text, text_cmp, root, is_root, is_slash, is_within, join, stem, same_text}
use Rattle.rk_base.specs.Canonical.{is_name, is_barred}
use Rattle.rk_base.proofs.CanonicalLemmas.{either, name-unbarred}
use Rattle.rk_base.proofs.PathLemmas.{join-not_root}
use Rattle.rk_tree.proofs.TextLemmas.{exact_texts, same_is, one_of}
use Rattle.rk_tree.proofs.CompareLemmas.{begins-front}
use Rattle.rk_folder.specs.Listing.{rank, is_listed_before}

-- Ranks tell bytes apart.

zero_not : (n : ℕ) → 0 ≡ n + 1 → ⊥
zero_not n h = omega (arith, h)

one_rank : (b c : ℕ) (s t : Bool) → eqb b 47 ≡ s → eqb c 47 ≡ t → cond s 0 (b + 1) ≡ cond t 0 (c + 1) → b ≡ c
one_rank b c true true s t h = eqb-true b 47 s ∙ sym (eqb-true c 47 t)
one_rank b c true false s t h = absurd (zero_not c h)
one_rank b c false true s t h = absurd (zero_not b (sym h))
one_rank b c false false s t h = omega (arith, h)

same_rank : (b c : ℕ) → rank b ≡ rank c → b ≡ c
same_rank b c h = one_rank b c (is_slash b) (is_slash c) refl refl h

abbrev head_of : ℕ → List ℕ → ℕ
head_of d [] = d
head_of d (x ∷ xs) = x

abbrev tail_of : List ℕ → List ℕ
tail_of [] = []
tail_of (x ∷ xs) = xs

same_ranks : (p q : Text) → map rank p ≡ map rank q → p ≡ q
same_ranks [] [] h = refl
same_ranks [] (c ∷ cs) h = cc
same_ranks (b ∷ bs) [] h = cc
same_ranks (b ∷ bs) (c ∷ cs) h =
    ap (λ (x : ℕ). x ∷ bs) (same_rank b c (ap (head_of 0) h)) ∙ ap (λ (xs : Text). c ∷ xs) (same_ranks bs cs (ap tail_of h))

-- It is a total order.

lt-gt : (o : Ordering) → is_lt (ordering_reverse o) ≡ is_gt o
lt-gt Less = refl
lt-gt Equal = refl
lt-gt Greater = refl

before-above : (p q : Text) → is_listed_before p q ≡ is_gt (text_cmp (map rank q) (map rank p))
unfolding is_listed_before
before-above p q = ap is_lt (nat_list_cmp_total.antisymm (map rank p) (map rank q)) ∙ lt-gt (text_cmp (map rank q) (map rank p))

pub before-irreflexive : (p : Text) → is_listed_before p p ≡ false
unfolding is_listed_before
before-irreflexive p = ap is_lt (tied_itself nat_list_cmp_total (map rank p))

pub not_before-chain : (p q r : Text) → is_listed_before q p ≡ false → is_listed_before r q ≡ false → is_listed_before r p ≡ false
not_before-chain p q r h k =
    before-above r p ∙ upto nat_list_cmp_total (map rank p) (map rank q) (map rank r) (sym (before-above q p) ∙ h) (sym (before-above r q) ∙ k)

one_way : (o : Ordering) → is_lt o ≡ true → is_gt o ≡ false
one_way Less h = refl
one_way Equal h = cc
one_way Greater h = cc

pub before-asymmetric : (p q : Text) → is_listed_before p q ≡ true → is_listed_before q p ≡ false
unfolding is_listed_before
before-asymmetric p q h = before-above q p ∙ one_way (text_cmp (map rank p) (map rank q)) h

tied : (o : Ordering) → is_lt o ≡ false → is_gt o ≡ false → o ≡ Equal
tied Less h k = cc
tied Equal h k = refl
tied Greater h k = cc

pub not_before-same : (p q : Text) → is_listed_before p q ≡ false → is_listed_before q p ≡ false → p ≡ q
unfolding is_listed_before
not_before-same p q h k = same_ranks p q (exact_texts (map rank p) (map rank q) (tied (text_cmp (map rank p) (map rank q)) h (sym (before-above q p) ∙ k)))

-- A front that both have.

ranks-front : (front p q : Text) → text_cmp (map rank (front ++ p)) (map rank (front ++ q)) ≡ text_cmp (map rank p) (map rank q)
ranks-front [] p q = refl
ranks-front (f ∷ fs) p q = ap (λ (o : Ordering). ordering_then o (text_cmp (map rank (fs ++ p)) (map rank (fs ++ q)))) (tied_itself nat_cmp_total (rank f)) ∙ ranks-front fs p q

cmp-front : (front p q : Text) → text_cmp (front ++ p) (front ++ q) ≡ text_cmp p q
cmp-front [] p q = refl
cmp-front (f ∷ fs) p q = ap (λ (o : Ordering). ordering_then o (text_cmp (fs ++ p) (fs ++ q))) (tied_itself nat_cmp_total f) ∙ cmp-front fs p q

nothing_before : (q : Text) → is_lt (text_cmp (map rank q) (map rank [])) ≡ false
nothing_before [] = refl
nothing_before (c ∷ cs) = refl

append-none : (p : Text) → p ++ [] ≡ p
append-none [] = refl
append-none (b ∷ bs) = ap (λ (t : Text). b ∷ t) (append-none bs)

-- what begins with a path isn't listed before it
front_first : (p q : Text) → is_listed_before (p ++ q) p ≡ false
unfolding is_listed_before
front_first p q = ap (λ (t : Text). is_lt (text_cmp (map rank (p ++ q)) (map rank t))) (sym (append-none p)) ∙ ap is_lt (ranks-front p q []) ∙ nothing_before q

-- What is within a path begins with it.

-- what may come after a path: nothing, or a slash and more
pub IsTail : Text → Type 0
IsTail tail = (tail ≡ []) ⊎ ((more : Text) × (tail ≡ 47 ∷ more))

pub within-tail : (above path : Text) → is_root above ≡ false → is_within above path ≡ true → (tail : Text) × (path ≡ above ++ tail) × IsTail tail
unfolding is_within IsTail
within-tail above path r h = elim (one_of (same_text path above) _ h) [
  | inl same ↦ ([], same_is path above same ∙ sym (append-none above), inl refl)
  | inr below ↦
      let front : Text = stem above ++ 47 ∷ [] in
      let out : stem above ≡ above = ap (λ (b : Bool). cond b [] above) r in
      let is : path ≡ front ++ drop (length front) path = begins-front front path (drop (length front) path) below refl in
      (47 ∷ drop (length front) path, is ∙ append_assoc (stem above) (47 ∷ []) (drop (length front) path) ∙ ap (λ (t : Text). t ++ 47 ∷ drop (length front) path) out, inr (drop (length front) path, refl))
]

within_root-front : (path : Text) → is_within root path ≡ true → (more : Text) × (path ≡ root ++ more)
unfolding is_within
within_root-front path h = elim (one_of (same_text path root) _ h) [
  | inl same ↦ ([], same_is path root same)
  | inr below ↦ (drop 1 path, begins-front (47 ∷ []) path (drop 1 path) below refl)
]

within-front : (above path : Text) → is_within above path ≡ true → (more : Text) × (path ≡ above ++ more)
unfolding IsTail
within-front above path h = elim (is_root above) as (λ (b : Bool). is_root above ≡ b → (more : Text) × (path ≡ above ++ more)) [
  | true ↦ λ r.
      let is : above ≡ root = same_is above root r in
      let f = within_root-front path (ap (λ (t : Text). is_within t path) (sym is) ∙ h) in
      (f.0, f.1 ∙ ap (λ (t : Text). t ++ f.0) (sym is))
  | false ↦ λ r. let t = within-tail above path r h in (t.0, t.1)
] refl

-- nothing within a directory is listed before it
pub above-first : (dir path : Text) → is_within dir path ≡ true → is_listed_before path dir ≡ false
above-first dir path h = let f = within-front dir path h in ap (λ (t : Text). is_listed_before t dir) f.1 ∙ front_first dir f.0

-- What is within one name is listed before what is within a later one.

less_is : (b c : ℕ) → nat_cmp b c ≡ Less → b < c
less_is b c h = subst (λ (o : Ordering). MatchOrdering o (b < c) (b ≡ c) (c < b)) h (ranks b c)

rank_plain : (b : ℕ) → is_slash b ≡ false → rank b ≡ b + 1
rank_plain b h = ap (λ (s : Bool). cond s 0 (b + 1)) h

less_ranks : (b c : ℕ) → is_slash b ≡ false → is_slash c ≡ false → nat_cmp b c ≡ Less → nat_cmp (rank b) (rank c) ≡ Less
less_ranks b c s t h =
    let l : b < c = less_is b c h in
    let up : b + 1 < c + 1 = omega (arith, l) in
    ap (λ (n : ℕ). nat_cmp n (rank c)) (rank_plain b s) ∙ ap (nat_cmp (b + 1)) (rank_plain c t) ∙ sym (nat_cmp_is (b + 1) (c + 1) Less up)

slash_less : (c : ℕ) → is_slash c ≡ false → nat_cmp 0 (rank c) ≡ Less
slash_less c t = let up : 0 < c + 1 = omega arith in ap (nat_cmp 0) (rank_plain c t) ∙ sym (nat_cmp_is 0 (c + 1) Less up)

plain_then : (c : ℕ) (n t : Text) (s : Text) → is_slash c ≡ false → IsTail s → is_lt (text_cmp (map rank s) (map rank (c ∷ (n ++ t)))) ≡ true
unfolding IsTail
plain_then c n t s plain tail = elim tail [
  | inl none ↦ ap (λ (x : Text). is_lt (text_cmp (map rank x) (map rank (c ∷ (n ++ t))))) none
  | inr more ↦ ap (λ (x : Text). is_lt (text_cmp (map rank x) (map rank (c ∷ (n ++ t))))) more.1 ∙ ap (λ (o : Ordering). is_lt (ordering_then o (text_cmp (map rank more.0) (map rank (n ++ t))))) (slash_less c plain)
]

names_first : (m n s t : Text) → list_any is_slash m ≡ false → list_any is_slash n ≡ false → text_cmp m n ≡ Less → IsTail s → is_lt (text_cmp (map rank (m ++ s)) (map rank (n ++ t))) ≡ true
names_first [] [] s t u v less tail = cc
names_first [] (c ∷ n) s t u v less tail = plain_then c n t s (either (is_slash c) _ v).0 tail
names_first (b ∷ m) [] s t u v less tail = cc
names_first (b ∷ m) (c ∷ n) s t u v less tail =
    let x = either (is_slash b) _ u in
    let y = either (is_slash c) _ v in
    (elim (nat_cmp b c) as (λ (o : Ordering). nat_cmp b c ≡ o → ordering_then o (text_cmp m n) ≡ Less → is_lt (ordering_then (nat_cmp (rank b) (rank c)) (text_cmp (map rank (m ++ s)) (map rank (n ++ t)))) ≡ true) [
      | Less ↦ λ e l. ap (λ (o : Ordering). is_lt (ordering_then o (text_cmp (map rank (m ++ s)) (map rank (n ++ t))))) (less_ranks b c x.0 y.0 e)
      | Equal ↦ λ e l.
          let same : nat_cmp (rank b) (rank c) ≡ Equal = ap (λ (k : ℕ). nat_cmp (rank k) (rank c)) (nat_cmp-IsAntisymmetric b c e) ∙ tied_itself nat_cmp_total (rank c) in
          ap (λ (o : Ordering). is_lt (ordering_then o (text_cmp (map rank (m ++ s)) (map rank (n ++ t))))) same ∙ names_first m n s t x.1 y.1 l tail
      | Greater ↦ λ e l. cc
    ]) refl less

unbarred : (name : Text) → list_any is_barred name ≡ false → list_any is_slash name ≡ false
unbarred [] h = refl
unbarred (b ∷ bs) h =
    let e = either (is_barred b) (list_any is_barred bs) h in
    ap (λ (s : Bool). s || list_any is_slash bs) (either (is_slash b) _ e.0).0 ∙ unbarred bs e.1

pub joined : (dir name tail : Text) → join dir name ++ tail ≡ (stem dir ++ 47 ∷ []) ++ (name ++ tail)
unfolding join
joined dir name tail = append_assoc (stem dir) (47 ∷ name) tail ∙ sym (append_assoc (stem dir) (47 ∷ []) (name ++ tail))

names_less : (dir m n : Text) → text_cmp (join dir m) (join dir n) ≡ Less → text_cmp m n ≡ Less
unfolding join
names_less dir m n h =
    sym (cmp-front (stem dir ++ 47 ∷ []) m n) ∙ ap (λ (t : Text). text_cmp t ((stem dir ++ 47 ∷ []) ++ n)) (append_assoc (stem dir) (47 ∷ []) m)
    ∙ ap (text_cmp (stem dir ++ 47 ∷ m)) (append_assoc (stem dir) (47 ∷ []) n) ∙ h

pub sibling-first : (dir m n p q : Text) → is_name m ≡ true → is_name n ≡ true → text_cmp (join dir m) (join dir n) ≡ Less → is_within (join dir m) p ≡ true → is_within (join dir n) q ≡ true → is_listed_before q p ≡ false
unfolding is_listed_before
sibling-first dir m n p q u v less in_m in_n =
    let a = within-tail (join dir m) p (join-not_root dir m u) in_m in
    let b = within-tail (join dir n) q (join-not_root dir n v) in_n in
    let front : Text = stem dir ++ 47 ∷ [] in
    let x : p ≡ front ++ (m ++ a.0) = a.1 ∙ joined dir m a.0 in
    let y : q ≡ front ++ (n ++ b.0) = b.1 ∙ joined dir n b.0 in
    before-asymmetric p q (ap (λ (t : Text). is_lt (text_cmp (map rank t) (map rank q))) x ∙ ap (λ (t : Text). is_lt (text_cmp (map rank (front ++ (m ++ a.0))) (map rank t))) y
    ∙ ap is_lt (ranks-front front (m ++ a.0) (n ++ b.0))
    ∙ names_first m n a.0 b.0 (unbarred m (name-unbarred m u)) (unbarred n (name-unbarred n v)) (names_less dir m n less) a.2)
