-- The value of digits only rises from digit to digit.
use Rattle.std.proofs.Common.{◌≡◌, ℕ, suc, ◌+◌, ◌-◌, ◌*◌, ◌≤◌, ◌<◌, [], ◌∷◌, drop, get_or, length, Some, None, refl, ap, add-one, arith, inl, inr}
use Rattle.std.proofs.Math.Seq.{drop-cons}
use Rattle.std.proofs.lemmas.List.{drop_all}
use Rattle.std.proofs.lemmas.Bool.{le-leb, lt-leb}
use Rattle.std.proofs.lemmas.Bool.Decides.{leb_tells}
use Rattle.rk_base.specs.Text.{Text}
use Rattle.sh_operands.specs.Numbers.{value_on, no_more}

pub rises : (n : ℕ) (bs : Text) → n ≤ value_on n bs
rises n [] = omega arith
rises n (b ∷ bs) = omega (arith, rises (10 * n + (b - 48)) bs)

too_much : (most n : ℕ) → most < n → None ≡ no_more most n
too_much most n lt = rw (lt-leb n most lt) refl

pub some_within : (most n x : ℕ) → Some x ≡ no_more most n → (x ≡ n) × (n ≤ most)
some_within most n x e =
    elim (leb_tells n most) [
      | inl le ↦ let f : Some x ≡ Some n = rw le.0 at e in (cc, le.1)
      | inr gt ↦ let f : Some x ≡ None = rw gt.0 at e in absurd (cc)
    ]

none_above : (most n : ℕ) → None ≡ no_more most n → most < n
none_above most n e =
    elim (leb_tells n most) [
      | inl le ↦ let f : None ≡ Some n = rw le.0 at e in absurd (cc)
      | inr gt ↦ gt.1
    ]

-- a digit that goes past the limit
pub stopped : (most n : ℕ) (digits : Text) (i : ℕ) → i < length digits → value_on n (drop i digits) ≡ value_on 0 digits → None ≡ no_more most (10 * n + (get_or digits i 0 - 48)) → None ≡ no_more most (value_on 0 digits)
stopped most n digits i lt inv e =
    let next : value_on (10 * n + (get_or digits i 0 - 48)) (drop (suc i) digits) ≡ value_on 0 digits = rw (drop-cons digits i 0) at inv in
    let over : most < 10 * n + (get_or digits i 0 - 48) = none_above most _ e in
    too_much most (value_on 0 digits) (omega (arith, rises (10 * n + (get_or digits i 0 - 48)) (drop (suc i) digits), next))

-- one that doesn't
pub goes_on : (most n more : ℕ) (digits : Text) (i : ℕ) → i < length digits → value_on n (drop i digits) ≡ value_on 0 digits → Some more ≡ no_more most (10 * n + (get_or digits i 0 - 48)) → (value_on more (drop (i + 1) digits) ≡ value_on 0 digits) × (more ≤ most)
goes_on most n more digits i lt inv e =
    let next : value_on (10 * n + (get_or digits i 0 - 48)) (drop (suc i) digits) ≡ value_on 0 digits = rw (drop-cons digits i 0) at inv in
    let within = some_within most _ more e in
    (rw (add-one, within.0) next, omega (arith, within.0, within.1))

-- after the last
pub ended : (most n : ℕ) (digits : Text) (i : ℕ) → length digits ≤ i → value_on n (drop i digits) ≡ value_on 0 digits → n ≤ most → Some n ≡ no_more most (value_on 0 digits)
ended most n digits i le inv within =
    let all : n ≡ value_on 0 digits = rw (drop_all i digits) at inv in
    let ok : value_on 0 digits ≤ most = omega arith in
    rw (le-leb (value_on 0 digits) most ok) (ap Some all)
