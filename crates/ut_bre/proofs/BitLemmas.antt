-- What bits are told, eight to a byte.
use Rattle.std.proofs.Common.{◌≡◌, ℕ, zero, suc, ◌+◌, ◌-◌, ◌*◌, ◌/◌, ◌%◌, ◌^◌, ◌<◌, ◌≤◌, inl, inr, List, [], ◌∷◌, ◌++◌, Bool, true, false, refl, sym, ap, ◌∙◌, arith, get_or, length, length-append, append_assoc, add-one}
use Rattle.std.specs.Prelude.{◌==◌, if◌then◌else◌}
use Rattle.std.proofs.lemmas.Bool.{cases_lt}
use Rattle.std.proofs.lemmas.Grind.{pow_more}
use Rattle.std.proofs.lemmas.List.{append-nil}
use Rattle.std.proofs.lemmas.Nat.Bits.{bit_at_lowest, bit_at-suc}
use Rattle.std.proofs.Math.Nat.{pow-le-pow_right}
use Rattle.ut_bre.specs.Bits.{bits, all_bits}
use Rattle.ut_bre.specs.Rows.{is_open}

-- which entry stands where

open-left : (xs ys : List Bool) (i : ℕ) → i < length xs → is_open (xs ++ ys) i ≡ is_open xs i
open-left [] ys i lt = absurd (omega arith)
open-left (x ∷ xs) ys zero lt = refl
open-left (x ∷ xs) ys (suc i) lt = open-left xs ys i (omega arith)

open-right : (xs ys : List Bool) (i : ℕ) → is_open (xs ++ ys) (length xs + i) ≡ is_open ys i
open-right [] ys i = (let z : 0 + i ≡ i = omega arith in ap (is_open ys) z)
open-right (x ∷ xs) ys i =
    let z : suc (length xs) + i ≡ suc (length xs + i) = omega arith in
    ap (is_open (x ∷ (xs ++ ys))) z ∙ open-right xs ys i

open-past : (xs : List Bool) (i : ℕ) → length xs ≤ i → is_open xs i ≡ false
open-past [] i le = refl
open-past (x ∷ xs) zero le = absurd (omega arith)
open-past (x ∷ xs) (suc i) le = open-past xs i (omega arith)

-- the bits of a number

bits-length : (k n : ℕ) → length (bits k n) ≡ k
bits-length zero n = refl
bits-length (suc k) n = length-append (bits k (n / 2)) ((n % 2 == 1) ∷ []) ∙ (ap (λ m. m + 1) (bits-length k (n / 2)) ∙ add-one k)

bits-at : (k n i : ℕ) → i < k → is_open (bits k n) i ≡ (n / 2 ^ (k - 1 - i) % 2 == 1)
bits-at zero n i lt = absurd (omega arith)
bits-at (suc k) n i lt =
    let b : Bool = n % 2 == 1 in
    let size : length (bits k (n / 2)) ≡ k = bits-length k (n / 2) in
    elim (cases_lt i k) as (λ w. is_open (bits k (n / 2) ++ b ∷ []) i ≡ (n / 2 ^ (suc k - 1 - i) % 2 == 1)) [
      | inl a ↦ (let within : i < length (bits k (n / 2)) = omega arith in
          let up : suc k - 1 - i ≡ suc (k - 1 - i) = omega arith in
          open-left (bits k (n / 2)) (b ∷ []) i within ∙ (bits-at k (n / 2) i a ∙ ap (λ m. m == 1) (sym (ap (λ m. n / 2 ^ m % 2) up ∙ bit_at-suc n (k - 1 - i)))))
      | inr z ↦ (let none : suc k - 1 - i ≡ 0 = omega arith in
          let here : i ≡ length (bits k (n / 2)) + 0 = omega arith in
          ap (is_open (bits k (n / 2) ++ b ∷ [])) here ∙ (open-right (bits k (n / 2)) (b ∷ []) 0 ∙ ap (λ m. m == 1) (sym (ap (λ m. n / 2 ^ m % 2) none ∙ bit_at_lowest n))))
    ]

bits-more : (k n : ℕ) (bit : Bool) → bits (k + 1) (2 * n + (if bit then 1 else 0)) ≡ bits k n ++ bit ∷ []
bits-more k n true =
    let half : (2 * n + 1) / 2 ≡ n = omega arith in
    let low : (2 * n + 1) % 2 ≡ 1 = omega arith in
    ap (λ m. bits m (2 * n + 1)) (add-one k) ∙ (ap (λ m. bits k m ++ ((2 * n + 1) % 2 == 1) ∷ []) half ∙ ap (λ m. bits k n ++ (m == 1) ∷ []) low)
bits-more k n false =
    let half : (2 * n + 0) / 2 ≡ n = omega arith in
    let low : (2 * n + 0) % 2 ≡ 0 = omega arith in
    ap (λ m. bits m (2 * n + 0)) (add-one k) ∙ (ap (λ m. bits k m ++ ((2 * n + 0) % 2 == 1) ∷ []) half ∙ ap (λ m. bits k n ++ (m == 1) ∷ []) low)

-- the bits of bytes

all-length : (bs : List ℕ) → length (all_bits bs) ≡ 8 * length bs
all-length [] = refl
all-length (b ∷ bs) =
    let first : length (bits 8 b) ≡ 8 = bits-length 8 b in
    let rest : length (all_bits bs) ≡ 8 * length bs = all-length bs in
    let both : length (bits 8 b ++ all_bits bs) ≡ length (bits 8 b) + length (all_bits bs) = length-append (bits 8 b) (all_bits bs) in
    let sum : length (bits 8 b) + length (all_bits bs) ≡ 8 * suc (length bs) = omega arith in
    both ∙ sum

all-more : (bs : List ℕ) (b : ℕ) → all_bits (bs ++ b ∷ []) ≡ all_bits bs ++ bits 8 b
all-more [] b = append-nil (bits 8 b)
all-more (x ∷ xs) b = ap (λ ys. bits 8 x ++ ys) (all-more xs b) ∙ sym (append_assoc (bits 8 x) (all_bits xs) (bits 8 b))

all-at : (bs : List ℕ) (ys : List Bool) (q r : ℕ) → r < 8 → q < length bs → is_open (all_bits bs ++ ys) (8 * q + r) ≡ (get_or bs q 0 / 2 ^ (7 - r) % 2 == 1)
all-at [] ys q r lt w = absurd (omega arith)
all-at (b ∷ bs) ys zero r lt w =
    let size : length (bits 8 b) ≡ 8 = bits-length 8 b in
    let within : r < length (bits 8 b) = omega arith in
    let here : 8 * 0 + r ≡ r = omega arith in
    ap (is_open ((bits 8 b ++ all_bits bs) ++ ys)) here ∙ (ap (λ xs. is_open xs r) (append_assoc (bits 8 b) (all_bits bs) ys) ∙ (open-left (bits 8 b) (all_bits bs ++ ys) r within ∙ bits-at 8 b r lt))
all-at (b ∷ bs) ys (suc q) r lt w =
    let size : length (bits 8 b) ≡ 8 = bits-length 8 b in
    let behind : 8 * suc q + r ≡ length (bits 8 b) + (8 * q + r) = omega arith in
    ap (is_open ((bits 8 b ++ all_bits bs) ++ ys)) behind ∙ (ap (λ xs. is_open xs (length (bits 8 b) + (8 * q + r))) (append_assoc (bits 8 b) (all_bits bs) ys) ∙ (open-right (bits 8 b) (all_bits bs ++ ys) (8 * q + r) ∙ all-at bs ys q r lt (omega arith)))

-- A row of bits: those of its bytes, and fewer than eight behind them.

pub low-byte : (count last : ℕ) → count < 8 → last < 2 ^ count → last < 128
low-byte count last few low =
    let le : count ≤ 7 = omega arith in
    let power : 2 ^ count ≤ 128 = pow-le-pow_right {n = 2} (omega arith) {i = count} {j = 7} le in
    omega arith

pub low-more : (count last new : ℕ) (bit : Bool) → new ≡ 2 * last + (if bit then 1 else 0) → last < 2 ^ count → new < 2 ^ (count + 1)
low-more count last new true e low = omega (arith, pow_more 2 count)
low-more count last new false e low = omega (arith, pow_more 2 count)

pub push-few : (bytes : List ℕ) (count last new : ℕ) (bit : Bool) → new ≡ 2 * last + (if bit then 1 else 0) → all_bits bytes ++ bits (count + 1) new ≡ (all_bits bytes ++ bits count last) ++ bit ∷ []
push-few bytes count last new bit e =
    ap (λ n. all_bits bytes ++ bits (count + 1) n) e ∙ (ap (λ xs. all_bits bytes ++ xs) (bits-more count last bit) ∙ sym (append_assoc (all_bits bytes) (bits count last) (bit ∷ [])))

pub push-full : (bytes : List ℕ) (count last new : ℕ) (bit : Bool) → count ≡ 7 → new ≡ 2 * last + (if bit then 1 else 0) → all_bits (bytes ++ new ∷ []) ++ bits 0 0 ≡ (all_bits bytes ++ bits count last) ++ bit ∷ []
push-full bytes count last new bit seven e =
    let eight : 8 ≡ count + 1 = omega arith in
    append-nil (all_bits (bytes ++ new ∷ [])) ∙ (all-more bytes new ∙ (ap (λ k. all_bits bytes ++ bits k new) eight ∙ push-few bytes count last new bit e))

pub row-at : (bytes : List ℕ) (count last far : ℕ) → far / 8 < length bytes → is_open (all_bits bytes ++ bits count last) far ≡ (get_or bytes (far / 8) 0 / 2 ^ (7 - far % 8) % 2 == 1)
row-at bytes count last far lt =
    let here : far ≡ 8 * (far / 8) + far % 8 = omega arith in
    let low : far % 8 < 8 = omega arith in
    ap (is_open (all_bits bytes ++ bits count last)) here ∙ all-at bytes (bits count last) (far / 8) (far % 8) low lt

row-behind : (bytes : List ℕ) (count last far : ℕ) → 8 * length bytes ≤ far → is_open (all_bits bytes ++ bits count last) far ≡ is_open (bits count last) (far - 8 * length bytes)
row-behind bytes count last far le =
    let size : length (all_bits bytes) ≡ 8 * length bytes = all-length bytes in
    let here : far ≡ length (all_bits bytes) + (far - 8 * length bytes) = omega arith in
    ap (is_open (all_bits bytes ++ bits count last)) here ∙ open-right (all_bits bytes) (bits count last) (far - 8 * length bytes)

pub row-last : (bytes : List ℕ) (count last far : ℕ) → 8 * length bytes ≤ far → far - 8 * length bytes < count → is_open (all_bits bytes ++ bits count last) far ≡ (last / 2 ^ (count - 1 - (far - 8 * length bytes)) % 2 == 1)
row-last bytes count last far le lt = row-behind bytes count last far le ∙ bits-at count last (far - 8 * length bytes) lt

pub row-past : (bytes : List ℕ) (count last far : ℕ) → 8 * length bytes ≤ far → count ≤ far - 8 * length bytes → is_open (all_bits bytes ++ bits count last) far ≡ false
row-past bytes count last far le past =
    let size : length (bits count last) ≡ count = bits-length count last in
    row-behind bytes count last far le ∙ open-past (bits count last) (far - 8 * length bytes) (omega arith)
