-- Orders of the waves, one after another, are in rising order of waves and keep each command's own.
use Rattle.std.proofs.Common.{◌≡◌, ◌≢◌, ℕ, zero, suc, ◌≤◌, List, [], ◌∷◌, ◌++◌, true, false, leb, filter, inl, inr, refl, sym, ◌∙◌, ap, ap₂, arith}
use Rattle.std.specs.Prelude.{◌==◌}
use Rattle.std.proofs.lemmas.Bool.{le-leb, lt-leb, cases_order}
use Rattle.std.proofs.lemmas.Bool.Decides.{eqb_tells}
use Rattle.rk_waves.specs.Waves.{Move, Each, own, in_wave, KeepsOwn, one_by_one}
use Rattle.rk_waves.proofs.Listing.{Rising, each-map, each-join, kept-each, filter-here, filter-there, filter-join, filter-swap, filter-all, filter-none}
use Rattle.rk_waves.proofs.Listing.{each-passes}

same-true : (a b : ℕ) → (a == b) ≡ true → a ≡ b
same-true a b e = elim (eqb_tells a b) [ inl t ↦ t.1 | inr t ↦ absurd (cc (e, t.0)) ]

is-same : (a b : ℕ) → a ≡ b → (a == b) ≡ true
is-same a b e = elim (eqb_tells a b) [ inl t ↦ t.0 | inr t ↦ absurd (t.1 e) ]

isnt-same : (a b : ℕ) → a ≢ b → (a == b) ≡ false
isnt-same a b e = elim (eqb_tells a b) [ inl t ↦ absurd (e t.1) | inr t ↦ t.0 ]

module _ {T : Type 0} where
  -- those in waves up to this one
  abbrev pub up_to : ℕ → List (Move T) → List (Move T)
  up_to k = filter (λ m. leb m.wave k)

  -- a rising list is cut in waves
  one-more : (k : ℕ) (ms : List (Move T)) → Rising ms → up_to k ms ++ in_wave (suc k) ms ≡ up_to (suc k) ms
  one-more k [] h = refl
  one-more k (m ∷ ms) h =
      elim (cases_order m.wave (suc k)) [
        | inl e ↦
            let late : Each (λ n. leb n.wave k ≡ false) ms = each-map (λ n. m.wave ≤ n.wave) (λ n. leb n.wave k ≡ false) ms
            (λ n le. lt-leb n.wave k (omega (arith, e))) h.0 in
            let none : up_to k ms ≡ [] = filter-none (λ m. leb m.wave k) ms late in
            ap₂ (λ a b. a ++ b) (filter-there (λ m. leb m.wave k) m ms (lt-leb m.wave k (omega (arith, e))) ∙ none)
            (filter-here (λ m. m.wave == suc k) m ms (is-same m.wave (suc k) e))
            ∙ ap (λ l. m ∷ l) (ap (λ l. l ++ in_wave (suc k) ms) (sym none) ∙ one-more k ms h.1)
            ∙ sym (filter-here (λ m. leb m.wave (suc k)) m ms (le-leb m.wave (suc k) (omega (arith, e))))
        | inr (inl lt) ↦
            ap₂ (λ a b. a ++ b) (filter-here (λ m. leb m.wave k) m ms (le-leb m.wave k (omega (arith, lt))))
            (filter-there (λ m. m.wave == suc k) m ms (isnt-same m.wave (suc k) (omega (arith, lt))))
            ∙ ap (λ l. m ∷ l) (one-more k ms h.1)
            ∙ sym (filter-here (λ m. leb m.wave (suc k)) m ms (le-leb m.wave (suc k) (omega (arith, lt))))
        | inr (inr gt) ↦
            ap₂ (λ a b. a ++ b) (filter-there (λ m. leb m.wave k) m ms (lt-leb m.wave k (omega (arith, gt))))
            (filter-there (λ m. m.wave == suc k) m ms (isnt-same m.wave (suc k) (omega (arith, gt))))
            ∙ one-more k ms h.1
            ∙ sym (filter-there (λ m. leb m.wave (suc k)) m ms (lt-leb m.wave (suc k) (omega (arith, gt))))
      ]

  -- orders of the waves of these steps, each command's rising
  module _ (ms : List (Move T)) (order : ℕ → List (Move T)) (keeps : (n : ℕ) → KeepsOwn (order n) (in_wave n ms)) where
    in-order : (n : ℕ) → Each (λ m. m.wave ≡ n) (order n)
    in-order n =
        kept-each (λ m. m.wave ≡ n) (in_wave n ms) (order n) (keeps n)
        (each-map (λ m. (m.wave == n) ≡ true) (λ m. m.wave ≡ n) (in_wave n ms) (λ m e. same-true m.wave n e) (each-passes (λ m. m.wave == n) ms))

    below : (k : ℕ) → Each (λ m. m.wave ≤ k) (one_by_one order k)
    below zero = tt
    below (suc k) =
        each-join (λ m. m.wave ≤ suc k) (one_by_one order k) (order (suc k))
        (each-map (λ m. m.wave ≤ k) (λ m. m.wave ≤ suc k) (one_by_one order k) (λ m le. omega (arith, le)) (below k))
        (each-map (λ m. m.wave ≡ suc k) (λ m. m.wave ≤ suc k) (order (suc k)) (λ m e. omega (arith, e)) (in-order (suc k)))

    rising-equal : (n : ℕ) (ns : List (Move T)) → Each (λ m. m.wave ≡ n) ns → Rising ns
    rising-equal n [] h = tt
    rising-equal n (m ∷ ns) h = (each-map (λ x. x.wave ≡ n) (λ x. m.wave ≤ x.wave) ns (λ x e. omega (arith, e, h.0)) h.1, rising-equal n ns h.1)

    rising-join : (k : ℕ) (xs ys : List (Move T)) → Rising xs → Each (λ m. m.wave ≤ k) xs → Rising ys → Each (λ m. m.wave ≡ suc k) ys → Rising (xs ++ ys)
    rising-join k [] ys ra la rb lb = rb
    rising-join k (a ∷ xs) ys ra la rb lb = (
      each-join (λ n. a.wave ≤ n.wave) xs ys ra.0 (each-map (λ x. x.wave ≡ suc k) (λ x. a.wave ≤ x.wave) ys (λ x e. omega (arith, e, la.0)) lb),
      rising-join k xs ys ra.1 la.1 rb lb,
    )

    pub rising-rounds : (k : ℕ) → Rising (one_by_one order k)
    rising-rounds zero = tt
    rising-rounds (suc k) =
        rising-join k (one_by_one order k) (order (suc k)) (rising-rounds k) (below k) (rising-equal (suc k) (order (suc k)) (in-order (suc k)))
        (in-order (suc k))

    keeps-up_to : ((o : ℕ) → Rising (own o ms)) → Each (λ m. 1 ≤ m.wave) ms → (k : ℕ) → KeepsOwn (one_by_one order k) (up_to k ms)
    keeps-up_to rising one zero o =
        sym (ap (own o) (filter-none (λ m. leb m.wave 0) ms (each-map (λ m. 1 ≤ m.wave) (λ m. leb m.wave 0 ≡ false) ms (λ m le. lt-leb m.wave 0 le) one)))
    keeps-up_to rising one (suc k) o =
        filter-join (λ m. m.owner == o) (one_by_one order k) (order (suc k))
        ∙ ap₂ (λ a b. a ++ b)
        (keeps-up_to rising one k o ∙ filter-swap (λ m. m.owner == o) (λ m. leb m.wave k) ms)
        (keeps (suc k) o ∙ filter-swap (λ m. m.owner == o) (λ m. m.wave == suc k) ms)
        ∙ one-more k (own o ms) (rising o)
        ∙ sym (filter-swap (λ m. m.owner == o) (λ m. leb m.wave (suc k)) ms)

    pub keeps-rounds : ((o : ℕ) → Rising (own o ms)) → Each (λ m. 1 ≤ m.wave) ms → (k : ℕ) → Each (λ m. m.wave ≤ k) ms → KeepsOwn (one_by_one order k) ms
    keeps-rounds rising one k most o =
        keeps-up_to rising one k o
        ∙ ap (own o) (filter-all (λ m. leb m.wave k) ms (each-map (λ m. m.wave ≤ k) (λ m. leb m.wave k ≡ true) ms (λ m le. le-leb m.wave k le) most))
