-- A number may be capped after each of its digits.
use Rattle.std.proofs.Common.{◌≡◌, ℕ, suc, ◌+◌, ◌-◌, ◌*◌, ◌≤◌, ◌<◌, min, [], ◌∷◌, drop, get_or, length, sym, ap, ◌∙◌, add-one, arith}
use Rattle.std.proofs.Math.Seq.{drop-cons}
use Rattle.std.proofs.lemmas.List.{drop_all}
use Rattle.rk_base.specs.Text.{Text}
use Rattle.sh_operands.specs.Numbers.{value_on}

-- with any cap
capped_digit : (most x d : ℕ) → min (10 * min x most + d) most ≡ min (10 * x + d) most
capped_digit most x d = omega arith

capped_on : (most x : ℕ) (bs : Text) → min (value_on (min x most) bs) most ≡ min (value_on x bs) most
capped_on most x [] = omega arith
capped_on most x (b ∷ bs) =
    sym (capped_on most (10 * min x most + (b - 48)) bs) ∙ ap (λ n. min (value_on n bs) most) (capped_digit most x (b - 48)) ∙ capped_on most (10 * x + (b - 48)) bs

pub capped_next : (most n more : ℕ) (digits : Text) (i : ℕ) → i < length digits → more ≡ min (10 * n + (get_or digits i 0 - 48)) most → min (value_on n (drop i digits)) most ≡ min (value_on 0 digits) most → min (value_on more (drop (i + 1) digits)) most ≡ min (value_on 0 digits) most
capped_next most n more digits i lt e inv =
    let next : min (value_on (10 * n + (get_or digits i 0 - 48)) (drop (suc i) digits)) most ≡ min (value_on 0 digits) most = rw (drop-cons digits i 0) at inv in
    rw (e, add-one) (capped_on most (10 * n + (get_or digits i 0 - 48)) (drop (suc i) digits) ∙ next)

-- after the last
pub capped_done : (most n : ℕ) (digits : Text) (i : ℕ) → length digits ≤ i → n ≤ most → min (value_on n (drop i digits)) most ≡ min (value_on 0 digits) most → n ≡ min (value_on 0 digits) most
capped_done most n digits i le within inv =
    let all : min n most ≡ min (value_on 0 digits) most = rw (drop_all i digits) at inv in
    let same : n ≡ min n most = omega (arith, within) in
    same ∙ all

pub capped_within : (most x n : ℕ) → n ≡ min x most → n ≤ most
capped_within most x n e = omega (arith, e)
