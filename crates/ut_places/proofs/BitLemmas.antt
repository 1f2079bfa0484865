-- Bits of words.
use Rattle.std.proofs.Common.{◌≡◌, List, length, set, slice_index, slice_set, ℕ, suc, ◌+◌, ◌-◌, ◌*◌, ◌/◌, ◌%◌, ◌^◌, ◌<◌, ◌≤◌, ◌⊎◌, inl, inr, refl, sym, ◌∙◌, ap, arith, Bool, true, false}
use Rattle.std.specs.Prelude.{◌↔◌, bit_or, bit_and, bit_xor, max, min, nat_lt, if◌then◌else◌}
use Rattle.std.specs.Int.{bit_at, w64}
use Rattle.std.proofs.lemmas.Bool.{cases_lt, leb-true, leb-false}
use Rattle.std.proofs.lemmas.Nat.Bits.{bit_at_or, bit_at_and, bit_at_xor, bit_at-lt, bit_at_set_same, bit_at_set_other, bit_at-zero, same_from_bits}
use Rattle.std.proofs.lemmas.List.{get_or-set_same, get_or-set_other, get_or_past}
use Rattle.ut_places.specs.declared.places.Places.{Places}
use Rattle.ut_places.specs.Places.{Has, bit_of, word_at}

-- a bit is one or the other

one-of-two : (x : ℕ) → x < 2 → (x ≡ 1) ⊎ (x ≡ 1 → ⊥)
one-of-two x h = elim (cases_lt x 1) as (λ w. (x ≡ 1) ⊎ (x ≡ 1 → ⊥)) [ inl lt ↦ inr (λ e. omega arith) | inr ge ↦ inl (omega arith) ]

pub has-or-not : (set : Places) (j : ℕ) → Has set j ⊎ (Has set j → ⊥)
has-or-not set j = one-of-two (bit_of set j) (bit_at-lt _ _)

-- the bits of words that are joined

greater : (x y m : ℕ) → m ≡ max x y → x < 2 → y < 2 → (m ≡ 1) ↔ ((x ≡ 1) ⊎ (y ≡ 1))
greater x y m e a b = (to, from)
  where
    to : m ≡ 1 → (x ≡ 1) ⊎ (y ≡ 1)
    to h = elim (cases_lt x 1) as (λ w. (x ≡ 1) ⊎ (y ≡ 1)) [ inl lt ↦ inr (omega arith) | inr ge ↦ inl (omega arith) ]

    from : (x ≡ 1) ⊎ (y ≡ 1) → m ≡ 1
    from (inl h) = omega arith
    from (inr h) = omega arith

pub bit-or : (a b n i : ℕ) → n ≡ bit_or a b → (bit_at n i ≡ 1) ↔ ((bit_at a i ≡ 1) ⊎ (bit_at b i ≡ 1))
bit-or a b n i e = greater (bit_at a i) (bit_at b i) (bit_at n i) (ap (λ x. bit_at x i) e ∙ bit_at_or a b i) (bit_at-lt a i) (bit_at-lt b i)

-- of a word without those of another one

less : (x y m : ℕ) → m ≡ (x + min x y) % 2 → x < 2 → y < 2 → (m ≡ 1) ↔ ((x ≡ 1) × (y ≡ 1 → ⊥))
less x y m e a b = (λ h. (one h, λ g. both h g), λ (h, g). from h g)
  where
    one : m ≡ 1 → x ≡ 1
    one h = omega arith

    both : m ≡ 1 → y ≡ 1 → ⊥
    both h g = omega arith

    from : x ≡ 1 → (y ≡ 1 → ⊥) → m ≡ 1
    from h g = omega arith

pub bit-left : (a b n i : ℕ) → n ≡ bit_xor a (bit_and a b) → (bit_at n i ≡ 1) ↔ ((bit_at a i ≡ 1) × (bit_at b i ≡ 1 → ⊥))
bit-left a b n i e =
    less (bit_at a i) (bit_at b i) (bit_at n i)
    (ap (λ x. bit_at x i) e ∙ bit_at_xor a (bit_and a b) i ∙ ap (λ x. (bit_at a i + x) % 2) (bit_at_and a b i)) (bit_at-lt a i) (bit_at-lt b i)

pub or-none : (a : ℕ) → bit_or a 0 ≡ a
or-none a = same_from_bits (bit_or a 0) a (λ i. bit_at_or a 0 i ∙ ap (λ x. max (bit_at a i) x) (bit_at-zero i) ∙ (let e : max (bit_at a i) 0 ≡ bit_at a i = omega arith in e))

-- a bit that is set in its word

same-or-not : (a b : ℕ) → (a ≡ b) ⊎ (a ≡ b → ⊥)
same-or-not a b = elim (cases_lt a b) as (λ w. (a ≡ b) ⊎ (a ≡ b → ⊥)) [
  | inl lt ↦ inr (λ e. omega arith)
  | inr ge ↦ elim (cases_lt b a) as (λ w. (a ≡ b) ⊎ (a ≡ b → ⊥)) [ inl lt ↦ inr (λ e. omega arith) | inr le ↦ inl (omega arith) ]
]

pub one-word : (w v place j : ℕ) → place % 64 < 64 → v ≡ bit_or w (1 * 2 ^ (place % 64) % 2 ^ 64) → j / 64 ≡ place / 64 → (bit_at v (j % 64) ≡ 1) ↔ ((bit_at w (j % 64) ≡ 1) ⊎ (j ≡ place))
one-word w v place j h e z = by (same-or-not (j % 64) (place % 64))
  where
    by : (j % 64 ≡ place % 64) ⊎ (j % 64 ≡ place % 64 → ⊥) → (bit_at v (j % 64) ≡ 1) ↔ ((bit_at w (j % 64) ≡ 1) ⊎ (j ≡ place))
    by (inl s) = (λ _. inr (omega arith), λ _. ap (bit_at v) s ∙ ap (λ x. bit_at x (place % 64)) e ∙ bit_at_set_same w64 w (place % 64) h)
    by (inr n) =
        let same : bit_at v (j % 64) ≡ bit_at w (j % 64) = ap (λ x. bit_at x (j % 64)) e ∙ bit_at_set_other w64 w (place % 64) h (j % 64) n in
        (λ g. inl (sym same ∙ g), λ g. from same g)
      where
        from : bit_at v (j % 64) ≡ bit_at w (j % 64) → (bit_at w (j % 64) ≡ 1) ⊎ (j ≡ place) → bit_at v (j % 64) ≡ 1
        from same (inl g) = same ∙ g
        from same (inr g) = absurd (n (ap (λ x. x % 64) g))

-- a place that is taken in
pub has-inserted : (old new : Places) (place : ℕ) → word_at new (place / 64) ≡ bit_or (word_at old (place / 64)) (1 * 2 ^ (place % 64) % 2 ^ 64) → ((k : ℕ) → (k ≡ place / 64 → ⊥) → word_at new k ≡ word_at old k) → (j : ℕ) → Has new j ↔ (Has old j ⊎ (j ≡ place))
has-inserted old new place here others j = by (same-or-not (j / 64) (place / 64))
  where
    by : (j / 64 ≡ place / 64) ⊎ (j / 64 ≡ place / 64 → ⊥) → Has new j ↔ (Has old j ⊎ (j ≡ place))
    by (inl s) =
        let low : place % 64 < 64 = omega arith in
        let e : word_at new (j / 64) ≡ bit_or (word_at old (j / 64)) (1 * 2 ^ (place % 64) % 2 ^ 64) = ap (word_at new) s ∙ here ∙ ap (λ k. bit_or (word_at old k) (1 * 2 ^ (place % 64) % 2 ^ 64)) (sym s) in
        one-word (word_at old (j / 64)) (word_at new (j / 64)) place j low e s
    by (inr n) =
        let same : bit_of new j ≡ bit_of old j = ap (λ w. bit_at w (j % 64)) (others (j / 64) n) in
        (λ h. inl (sym same ∙ h), λ g. from same g)
      where
        from : bit_of new j ≡ bit_of old j → Has old j ⊎ (j ≡ place) → Has new j
        from same (inl h) = same ∙ h
        from same (inr e) = absurd (n (ap (λ x. x / 64) e))

-- the words of a set

pub word-before : (set : Places) (k : ℕ) → k < set.before → word_at set k ≡ 0
word-before set k lt = by (nat_lt k set.before) refl
  where
    by : (b : Bool) → nat_lt k set.before ≡ b → (if b then 0 else slice_index set.words.items (k - set.before)) ≡ 0
    by true e = refl
    by false e = (let h : set.before < suc k = leb-false (suc k) set.before e in absurd (omega arith))

pub word-own : (set : Places) (k i : ℕ) → k ≡ set.before + i → word_at set k ≡ slice_index set.words.items i
word-own set k i z = by (nat_lt k set.before) refl
  where
    by : (b : Bool) → nat_lt k set.before ≡ b → (if b then 0 else slice_index set.words.items (k - set.before)) ≡ slice_index set.words.items i
    by true e = (let h : suc k ≤ set.before = leb-true (suc k) set.before e in absurd (omega arith))
    by false e = (let q : k - set.before ≡ i = omega arith in ap (slice_index set.words.items) q)

-- one that has a place is of its own
pub has-own : (set : Places) (j : ℕ) → Has set j → (set.before ≤ j / 64) × (j / 64 < set.before + length set.words.items)
has-own set j h = (by (cases_lt (j / 64) set.before), on (cases_lt (j / 64) (set.before + length set.words.items)))
  where
    none : word_at set (j / 64) ≡ 0 → ⊥
    none e = let z : bit_at 0 (j % 64) ≡ 1 = ap (λ w. bit_at w (j % 64)) (sym e) ∙ h in let none : bit_at 0 (j % 64) ≡ 0 = bit_at-zero (j % 64) in omega arith

    by : (j / 64 < set.before) ⊎ (set.before ≤ j / 64) → set.before ≤ j / 64
    by (inl lt) = absurd (none (word-before set (j / 64) lt))
    by (inr le) = le

    on : (j / 64 < set.before + length set.words.items) ⊎ (set.before + length set.words.items ≤ j / 64) → j / 64 < set.before + length set.words.items
    on (inl lt) = lt
    on (inr le) =
        let z : j / 64 ≡ set.before + (j / 64 - set.before) = omega arith in
        let past : length set.words.items ≤ j / 64 - set.before = omega arith in
        absurd (none (word-own set (j / 64) (j / 64 - set.before) z ∙ get_or_past set.words.items (j / 64 - set.before) 0 past))

-- the same words, of which fewer or more are its own
pub same-word : (xs ys : List ℕ) (k x y : ℕ) → x ≡ y → ((i : ℕ) → slice_index xs i ≡ slice_index ys i) → (if nat_lt k x then 0 else slice_index xs (k - x)) ≡ (if nat_lt k y then 0 else slice_index ys (k - y))
same-word xs ys k x y e same = ap (λ n. if nat_lt k n then 0 else slice_index xs (k - n)) e ∙ by (nat_lt k y)
  where
    by : (b : Bool) → (if b then 0 else slice_index xs (k - y)) ≡ (if b then 0 else slice_index ys (k - y))
    by true = refl
    by false = same (k - y)

pub joined-word : (old new other : Places) (from : ℕ) → new.before ≡ old.before → other.before ≡ old.before + from → ((i : ℕ) → i < from → slice_index new.words.items i ≡ slice_index old.words.items i) → ((i : ℕ) → slice_index new.words.items (from + i) ≡ bit_or (slice_index old.words.items (from + i)) (slice_index other.words.items i)) → (k : ℕ) → word_at new k ≡ bit_or (word_at old k) (word_at other k)
joined-word old new other from e z same both k = by (cases_lt k old.before)
  where
    alone : (n o m : ℕ) → n ≡ o → m ≡ 0 → n ≡ bit_or o m
    alone n o m a b = a ∙ sym (or-none o) ∙ ap (bit_or o) (sym b)

    within : (k < old.before + from) ⊎ (old.before + from ≤ k) → old.before ≤ k → word_at new k ≡ bit_or (word_at old k) (word_at other k)
    within (inl lt) le =
        let i : k - old.before < from = omega arith in
        let q : k ≡ old.before + (k - old.before) = omega arith in
        let r : k ≡ new.before + (k - old.before) = omega arith in
        let s : k < other.before = omega arith in
        alone (word_at new k) (word_at old k) (word_at other k) (word-own new k (k - old.before) r ∙ same (k - old.before) i ∙ sym (word-own old k (k - old.before) q)) (word-before other k s)
    within (inr ge) le =
        let i : ℕ = k - (old.before + from) in
        let q : k ≡ old.before + (from + (k - (old.before + from))) = omega arith in
        let r : k ≡ new.before + (from + (k - (old.before + from))) = omega arith in
        let s : k ≡ other.before + (k - (old.before + from)) = omega arith in
        word-own new k (from + i) r ∙ both i ∙ ap (λ w. bit_or w (slice_index other.words.items i)) (sym (word-own old k (from + i) q)) ∙ ap (bit_or (word_at old k)) (sym (word-own other k i s))

    by : (k < old.before) ⊎ (old.before ≤ k) → word_at new k ≡ bit_or (word_at old k) (word_at other k)
    by (inl lt) =
        let n : k < new.before = omega arith in
        let s : k < other.before = omega arith in
        alone (word_at new k) (word_at old k) (word_at other k) (word-before new k n ∙ sym (word-before old k lt)) (word-before other k s)
    by (inr le) = within (cases_lt k (old.before + from)) le

-- a set whose words were lengthened, and one of them joined to a bit
pub inserted : (self begun new : Places) (ws : List ℕ) (place i w : ℕ) → begun.before ≤ place / 64 → i ≡ place / 64 - begun.before → i < length ws → w ≡ slice_index ws i → new.before ≡ begun.before → new.words.items ≡ slice_set ws i (bit_or w (1 * 2 ^ (place % 64) % 2 ^ 64)) → ((k : ℕ) → slice_index ws k ≡ slice_index begun.words.items k) → ((k : ℕ) → word_at begun k ≡ word_at self k) → (j : ℕ) → Has new j ↔ (Has self j ⊎ (j ≡ place))
inserted self begun new ws place i w low is within read before items longer same = has-inserted self new place here others
  where
    bit : ℕ
    bit = 1 * 2 ^ (place % 64) % 2 ^ 64

    here : word_at new (place / 64) ≡ bit_or (word_at self (place / 64)) (1 * 2 ^ (place % 64) % 2 ^ 64)
    here =
        let a : place / 64 ≡ new.before + i = omega arith in
        let b : place / 64 ≡ begun.before + i = omega arith in
        let was : w ≡ word_at self (place / 64) = read ∙ longer i ∙ sym (word-own begun (place / 64) i b) ∙ same (place / 64) in
        word-own new (place / 64) i a ∙ ap (λ xs. slice_index xs i) items ∙ get_or-set_same ws i (bit_or w (1 * 2 ^ (place % 64) % 2 ^ 64)) 0 within ∙ ap (λ x. bit_or x (1 * 2 ^ (place % 64) % 2 ^ 64)) was

    others : (k : ℕ) → (k ≡ place / 64 → ⊥) → word_at new k ≡ word_at self k
    others k n = by (cases_lt k begun.before)
      where
        by : (k < begun.before) ⊎ (begun.before ≤ k) → word_at new k ≡ word_at self k
        by (inl lt) = let a : k < new.before = omega arith in word-before new k a ∙ sym (word-before begun k lt) ∙ same k
        by (inr le) =
            let a : k ≡ new.before + (k - begun.before) = omega arith in
            let b : k ≡ begun.before + (k - begun.before) = omega arith in
            let m : k - begun.before ≡ i → ⊥ = λ e. n (omega arith) in
            word-own new k (k - begun.before) a ∙ ap (λ xs. slice_index xs (k - begun.before)) items ∙ get_or-set_other ws i (k - begun.before) (bit_or w (1 * 2 ^ (place % 64) % 2 ^ 64)) 0 m ∙ longer (k - begun.before) ∙ sym (word-own begun k (k - begun.before) b) ∙ same k

-- a set each of whose words was left without those of another one
pub left-out : (self new other : Places) → new.before ≡ self.before → length new.words.items ≡ length self.words.items → ((i : ℕ) → i < length self.words.items → slice_index new.words.items i ≡ bit_xor (slice_index self.words.items i) (bit_and (slice_index self.words.items i) (word_at other (self.before + i)))) → (j : ℕ) → Has new j ↔ (Has self j × (Has other j → ⊥))
left-out self new other before count done j = (λ h. (word (has-own new j h)).0 h, λ (h, n). (own (has-own self j h)).1 (h, n))
  where
    own : (self.before ≤ j / 64) × (j / 64 < self.before + length self.words.items) → Has new j ↔ (Has self j × (Has other j → ⊥))
    own (low, high) =
        let i : ℕ = j / 64 - self.before in
        let a : j / 64 ≡ new.before + (j / 64 - self.before) = omega arith in
        let b : j / 64 ≡ self.before + (j / 64 - self.before) = omega arith in
        let within : j / 64 - self.before < length self.words.items = omega arith in
        let was : slice_index self.words.items i ≡ word_at self (j / 64) = sym (word-own self (j / 64) i b) in
        let e : word_at new (j / 64) ≡ bit_xor (word_at self (j / 64)) (bit_and (word_at self (j / 64)) (word_at other (j / 64))) = word-own new (j / 64) i a ∙ done i within ∙ ap (λ w. bit_xor w (bit_and w (word_at other (self.before + i)))) was ∙ ap (λ k. bit_xor (word_at self (j / 64)) (bit_and (word_at self (j / 64)) (word_at other k))) (sym b) in
        bit-left (word_at self (j / 64)) (word_at other (j / 64)) (word_at new (j / 64)) (j % 64) e

    word : (new.before ≤ j / 64) × (j / 64 < new.before + length new.words.items) → Has new j ↔ (Has self j × (Has other j → ⊥))
    word (low, high) = let a : self.before ≤ j / 64 = omega arith in let b : j / 64 < self.before + length self.words.items = omega arith in own (a, b)
