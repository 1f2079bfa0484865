-- Brackets and the texts in front of them, byte by byte.
use Rattle.std.proofs.Common.{◌≡◌, ℕ, zero, suc, ◌+◌, ◌≤◌, Option, Some, None, List, [], ◌∷◌, drop, length, slice_index, Bool, true, false, refl, sym, ap, ◌∙◌, arith}
use Rattle.std.specs.Prelude.{◌==◌, nat_lt, if◌then◌else◌}
use Rattle.sh_token.specs.declared.bytes.Class.{Class}
use Rattle.sh_token.specs.Bytes.{◌or◌, ◌also◌, not_so, class_is}
use Rattle.sh_token.specs.Expansions.{is_dollar}
use Rattle.sh_token.specs.Folded.{folded, run, one_if}
use Rattle.sh_token.specs.Brackets.{begins_symbol, closes_bracket, has_symbol, items_begin, passed_on, goes_on, open_bracket, bracket, bracket_on, text_run, before_symbol}
use Rattle.sh_token.specs.Places.{is_none}
use Rattle.sh_token.proofs.Folding.{folded-length, no_end, run_on as one_run}

-- an unquoted byte stands in front
abbrev pub bare : Class → List ℕ → Bool
bare k xs = class_is k (slice_index xs 0) or is_dollar xs

pub no_bare : (k : Class) → bare k [] ≡ true → ⊥
no_bare k h = by (class_is k 0) (no_end k) h
  where
    by : (b : Bool) → (b ≡ true → ⊥) → (b or false) ≡ true → ⊥
    by true f i = f refl
    by false f i = cc

-- a `]` is looked for: behind a byte that is unquoted and no `]`
none_closed : (b c d : Bool) → b ≡ true → c ≡ false → ((b also (c or d)) ≡ d)
none_closed true false d h i = refl
none_closed true true d h i = cc
none_closed false c d h i = cc

pub closes_on : (k : Class) (xs : List ℕ) → bare k xs ≡ true → (slice_index xs 0 == 93) ≡ false → closes_bracket (class_is k) xs ≡ closes_bracket (class_is k) (drop 1 xs)
closes_on k [] h i = refl
closes_on k (c ∷ cs) h i = none_closed (bare k (c ∷ cs)) (c == 93) (closes_bracket (class_is k) cs) h i

pub closes_here : (k : Class) (xs : List ℕ) → bare k xs ≡ true → (slice_index xs 0 == 93) ≡ true → closes_bracket (class_is k) xs ≡ true
closes_here k [] h i = cc
closes_here k (c ∷ cs) h i = ap (λ b. b also (c == 93 or closes_bracket (class_is k) cs)) h ∙ ap (λ b. b or closes_bracket (class_is k) cs) i

pub closes_never : (k : Class) (xs : List ℕ) → bare k xs ≡ false → closes_bracket (class_is k) xs ≡ false
closes_never k [] h = refl
closes_never k (c ∷ cs) h = ap (λ b. b also (c == 93 or closes_bracket (class_is k) cs)) h

-- so far no `]`
pub record Sought (k : Class) (all left : List ℕ) (count : ℕ) : Type 0 where
  pub same : closes_bracket (class_is k) (folded all) ≡ closes_bracket (class_is k) (folded left)
  pub counts : length (folded all) ≡ count + length (folded left)

pub sought_begins : (k : Class) (all : List ℕ) → Sought k all all 0
sought_begins k all = record { same = refl; counts = omega arith }

pub one_less : (k : Class) (xs : List ℕ) → bare k xs ≡ true → length xs ≡ suc (length (drop 1 xs))
one_less k [] h = absurd (no_bare k h)
one_less k (c ∷ cs) h = refl

pub sought_on : (k : Class) (all left next : List ℕ) (n : ℕ) → Sought k all left n → bare k (folded left) ≡ true → (slice_index (folded left) 0 == 93) ≡ false → folded next ≡ drop 1 (folded left) → Sought k all next (n + 1)
sought_on k all left next n s h i e =
    record {
      same = s.same ∙ closes_on k (folded left) h i ∙ sym (ap (closes_bracket (class_is k)) e);
      counts = omega (arith, s.counts, one_less k (folded left) h, ap length e);
    }

pub sought_here : (k : Class) (all left : List ℕ) (n : ℕ) → Sought k all left n → bare k (folded left) ≡ true → (slice_index (folded left) 0 == 93) ≡ true → true ≡ closes_bracket (class_is k) (folded all)
sought_here k all left n s h i = sym (s.same ∙ closes_here k (folded left) h i)

pub sought_never : (k : Class) (all left : List ℕ) (n : ℕ) → Sought k all left n → bare k (folded left) ≡ false → false ≡ closes_bracket (class_is k) (folded all)
sought_never k all left n s h = sym (s.same ∙ closes_never k (folded left) h)

none_closes : (f : ℕ → Bool) (xs : List ℕ) → length xs ≡ 0 → closes_bracket f xs ≡ false
none_closes f [] h = refl
none_closes f (c ∷ cs) h = cc

pub sought_ends : (k : Class) (all left : List ℕ) (n : ℕ) → Sought k all left n → length all ≤ n → false ≡ closes_bracket (class_is k) (folded all)
sought_ends k all left n s h =
    let e : length (folded left) ≡ 0 = omega (arith, s.counts, folded-length all, h) in
    sym (s.same ∙ none_closes (class_is k) (folded left) e)

-- Where nothing closes a bracket, no later one is closed.
never : (b : Bool) → (b also false) ≡ false
never true = refl
never false = refl

no_symbol : (f : ℕ → Bool) (xs : List ℕ) → closes_bracket f xs ≡ false → has_symbol f xs ≡ false
no_symbol f xs h = ap (λ b. begins_symbol xs also b) h ∙ never (begins_symbol xs)

-- a byte of the class that isn't closed closes nothing, and nothing behind it does
open_byte : (f : ℕ → Bool) (c : ℕ) (cs : List ℕ) → closes_bracket f (c ∷ cs) ≡ false → f c ≡ true → ((c == 93) ≡ false) × (closes_bracket f cs ≡ false)
open_byte f c cs h i = by (f c) (is_dollar (c ∷ cs)) (c == 93) (closes_bracket f cs) i h
  where
    by : (b d e x : Bool) → b ≡ true → ((b or d) also (e or x)) ≡ false → (e ≡ false) × (x ≡ false)
    by true d true x i h = cc
    by true d false x i h = (refl, h)
    by false d e x i h = cc

pub open_run : (f : ℕ → Bool) (passed at : ℕ) (xs : List ℕ) → closes_bracket f xs ≡ false → open_bracket f passed at xs ≡ Some (at + run f xs)
open_run f passed at [] h = ap Some (omega arith)
open_run f passed at (c ∷ cs) h =
    ap (λ b. if b then None else if goes_on f passed c then open_bracket f (passed_on passed (c ∷ cs)) (suc at) cs else Some at) (no_symbol f (c ∷ cs) h)
    ∙ by (f c) refl (open_run f (passed_on passed (c ∷ cs)) (suc at) cs)
  where
    or_true : (b : Bool) → (b or true) ≡ true
    or_true true = refl
    or_true false = refl

    by : (b : Bool) → f c ≡ b → (closes_bracket f cs ≡ false → open_bracket f (passed_on passed (c ∷ cs)) (suc at) cs ≡ Some (suc at + run f cs)) → (if goes_on f passed c then open_bracket f (passed_on passed (c ∷ cs)) (suc at) cs else Some at) ≡ Some (at + run f (c ∷ cs))
    by true e ih =
        let o = open_byte f c cs h e in
        let g : goes_on f passed c ≡ true = ap (λ b. b also (nat_lt 0 passed or not_so (c == 93))) e ∙ ap (λ b. nat_lt 0 passed or not_so b) o.0 ∙ or_true (nat_lt 0 passed) in
        ap (λ b. if b then open_bracket f (passed_on passed (c ∷ cs)) (suc at) cs else Some at) g ∙ ih o.1 ∙ ap Some (omega (arith, ap (λ b. one_if b (run f cs)) e))
    by false e ih =
        let g : goes_on f passed c ≡ false = ap (λ b. b also (nat_lt 0 passed or not_so (c == 93))) e in
        ap (λ b. if b then open_bracket f (passed_on passed (c ∷ cs)) (suc at) cs else Some at) g ∙ ap Some (omega (arith, ap (λ b. one_if b (run f cs)) e))

-- the bracket in front of such a text, where its first byte is of the class
pub unclosed_bracket : (f : ℕ → Bool) (c : ℕ) (cs : List ℕ) → closes_bracket f cs ≡ false → (n : ℕ) × (bracket f (c ∷ cs) ≡ Some n)
unclosed_bracket f c cs h = by (c == 91)
  where
    by : (b : Bool) → (n : ℕ) × ((if b then open_bracket f (items_begin cs) 1 cs else Some 0) ≡ Some n)
    by true = (1 + run f cs, open_run f (items_begin cs) 1 cs h)
    by false = (0, refl)

pub unclosed : (f : ℕ → Bool) (n : ℕ) (xs : List ℕ) → closes_bracket f xs ≡ false → text_run f (bracket_on f n xs) xs ≡ run f xs
unclosed f n [] h = ends (bracket_on f n [])
  where
    ends : (x : Option ℕ) → text_run f x [] ≡ 0
    ends None = refl
    ends (Some m) = refl
unclosed f n (c ∷ cs) h = by (f c) refl (λ m i. unclosed f m cs i)
  where
    here : (closes_bracket f cs ≡ false) → (m : ℕ) × (bracket_on f n (c ∷ cs) ≡ Some m)
    here i = at n
      where
        at : (n : ℕ) → (m : ℕ) × (bracket_on f n (c ∷ cs) ≡ Some m)
        at zero = unclosed_bracket f c cs i
        at (suc n) = (n, refl)

    stops : (x : Option ℕ) → f c ≡ false → text_run f x (c ∷ cs) ≡ 0
    stops None e = refl
    stops (Some m) e = ap (λ b. one_if b (text_run f (bracket_on f m cs) cs)) e

    by : (b : Bool) → f c ≡ b → ((m : ℕ) → closes_bracket f cs ≡ false → text_run f (bracket_on f m cs) cs ≡ run f cs) → text_run f (bracket_on f n (c ∷ cs)) (c ∷ cs) ≡ one_if (f c) (run f cs)
    by true e ih =
        let o = open_byte f c cs h e in
        let x = here o.1 in
        ap (λ y. text_run f y (c ∷ cs)) x.1 ∙ ap (λ m. one_if (f c) m) (ih x.0 o.1)
    by false e ih = stops (bracket_on f n (c ∷ cs)) e ∙ sym (ap (λ b. one_if b (run f cs)) e)

-- An open bracket, as far as it went by.
pub record Opened (k : Class) (all left : List ℕ) (first_passed passed count : ℕ) : Type 0 where
  pub same : open_bracket (class_is k) first_passed 1 (folded all) ≡ open_bracket (class_is k) passed (suc count) (folded left)
  pub whole : run (class_is k) (folded all) ≡ count + run (class_is k) (folded left)
  pub counts : length (folded all) ≡ count + length (folded left)

pub opened_begins : (k : Class) (all : List ℕ) (passed : ℕ) → Opened k all all passed passed 0
opened_begins k all passed = record { same = refl; whole = omega arith; counts = omega arith }

in_class : (f : ℕ → Bool) (passed c : ℕ) → goes_on f passed c ≡ true → f c ≡ true
in_class f passed c h = by (f c) (nat_lt 0 passed or not_so (c == 93)) h
  where
    by : (b d : Bool) → (b also d) ≡ true → b ≡ true
    by true d h = refl
    by false d h = cc

symbol_needs : (f : ℕ → Bool) (xs : List ℕ) → begins_symbol xs ≡ false → has_symbol f xs ≡ false
symbol_needs f xs h = ap (λ b. b also closes_bracket f xs) h

opens_on : (k : Class) (passed at : ℕ) (xs : List ℕ) → begins_symbol xs ≡ false → goes_on (class_is k) passed (slice_index xs 0) ≡ true → open_bracket (class_is k) passed at xs ≡ open_bracket (class_is k) (passed_on passed xs) (suc at) (drop 1 xs)
opens_on k passed at [] h i = absurd (no_end k (in_class (class_is k) passed 0 i))
opens_on k passed at (c ∷ cs) h i =
    ap (λ b. if b then None else if goes_on (class_is k) passed c then open_bracket (class_is k) (passed_on passed (c ∷ cs)) (suc at) cs else Some at) (symbol_needs (class_is k) (c ∷ cs) h)
    ∙ ap (λ b. if b then open_bracket (class_is k) (passed_on passed (c ∷ cs)) (suc at) cs else Some at) i

next_count : (n : ℕ) → suc n ≡ n + 1
next_count n = omega arith

pub opened_on : (k : Class) (all left next : List ℕ) (first_passed passed n : ℕ) → Opened k all left first_passed passed n → begins_symbol (folded left) ≡ false → goes_on (class_is k) passed (slice_index (folded left) 0) ≡ true → folded next ≡ drop 1 (folded left) → Opened k all next first_passed (passed_on passed (folded left)) (n + 1)
opened_on k all left next first_passed passed n s h i e =
    let o = one_run k (folded left) (in_class (class_is k) passed (slice_index (folded left) 0) i) in
    record {
      same = s.same ∙ opens_on k passed (suc n) (folded left) h i ∙ sym (ap (open_bracket (class_is k) (passed_on passed (folded left)) (suc (suc n))) e) ∙ ap (λ m. open_bracket (class_is k) (passed_on passed (folded left)) (suc m) (folded next)) (next_count n);
      whole = omega (arith, s.whole, o.0, ap (run (class_is k)) e);
      counts = omega (arith, s.counts, o.1, ap length e);
    }

-- a symbol stands in it
pub opened_closed : (k : Class) (all left : List ℕ) (first_passed passed n : ℕ) → Opened k all left first_passed passed n → begins_symbol (folded left) ≡ true → closes_bracket (class_is k) (folded left) ≡ true → None ≡ open_bracket (class_is k) first_passed 1 (folded all)
opened_closed k all left first_passed passed n s h i = sym (s.same ∙ by (folded left) h i)
  where
    by : (xs : List ℕ) → begins_symbol xs ≡ true → closes_bracket (class_is k) xs ≡ true → open_bracket (class_is k) passed (suc n) xs ≡ None
    by [] h i = cc
    by (c ∷ cs) h i =
        ap (λ b. if b then None else if goes_on (class_is k) passed c then open_bracket (class_is k) (passed_on passed (c ∷ cs)) (suc (suc n)) cs else Some (suc n))
        (ap (λ b. b also closes_bracket (class_is k) (c ∷ cs)) h ∙ i)

pub opened_unclosed : (k : Class) (all left : List ℕ) (first_passed passed n r : ℕ) → Opened k all left first_passed passed n → closes_bracket (class_is k) (folded left) ≡ false → r ≡ run (class_is k) (folded all) → Some (r + 1) ≡ open_bracket (class_is k) first_passed 1 (folded all)
opened_unclosed k all left first_passed passed n r s h e =
    sym (s.same ∙ open_run (class_is k) passed (suc n) (folded left) h ∙ ap Some (omega (arith, s.whole, e)))

-- it ends
ends_at : (k : Class) (passed at : ℕ) (xs : List ℕ) → begins_symbol xs ≡ false → goes_on (class_is k) passed (slice_index xs 0) ≡ false → open_bracket (class_is k) passed at xs ≡ Some at
ends_at k passed at [] h i = refl
ends_at k passed at (c ∷ cs) h i =
    ap (λ b. if b then None else if goes_on (class_is k) passed c then open_bracket (class_is k) (passed_on passed (c ∷ cs)) (suc at) cs else Some at) (symbol_needs (class_is k) (c ∷ cs) h)
    ∙ ap (λ b. if b then open_bracket (class_is k) (passed_on passed (c ∷ cs)) (suc at) cs else Some at) i

pub opened_ends : (k : Class) (all left : List ℕ) (first_passed passed n : ℕ) → Opened k all left first_passed passed n → begins_symbol (folded left) ≡ false → goes_on (class_is k) passed (slice_index (folded left) 0) ≡ false → Some (n + 1) ≡ open_bracket (class_is k) first_passed 1 (folded all)
opened_ends k all left first_passed passed n s h i = sym (s.same ∙ ends_at k passed (suc n) (folded left) h i ∙ ap Some (omega arith))

none_open : (f : ℕ → Bool) (passed at : ℕ) (xs : List ℕ) → length xs ≡ 0 → open_bracket f passed at xs ≡ Some at
none_open f passed at [] h = refl
none_open f passed at (c ∷ cs) h = cc

pub opened_whole : (k : Class) (all left : List ℕ) (first_passed passed n : ℕ) → Opened k all left first_passed passed n → n ≤ length all → length all ≤ n → Some (length all + 1) ≡ open_bracket (class_is k) first_passed 1 (folded all)
opened_whole k all left first_passed passed n s u v =
    let e : length (folded left) ≡ 0 = omega (arith, s.counts, folded-length all, v) in
    sym (s.same ∙ none_open (class_is k) passed (suc n) (folded left) e ∙ ap Some (omega (arith, u, v)))

-- The run of a text, as far as it went by.
pub record Run (k : Class) (all left : List ℕ) (first here : Option ℕ) (count : ℕ) : Type 0 where
  pub runs : text_run (class_is k) first (folded all) ≡ count + text_run (class_is k) here (folded left)
  pub counts : length (folded all) ≡ count + length (folded left)

pub run_begins : (k : Class) (all : List ℕ) (first : Option ℕ) → Run k all all first first 0
run_begins k all first = record { runs = omega arith; counts = omega arith }

one_more : (k : Class) (n : ℕ) (xs : List ℕ) → class_is k (slice_index xs 0) ≡ true → text_run (class_is k) (Some n) xs ≡ suc (text_run (class_is k) (bracket_on (class_is k) n (drop 1 xs)) (drop 1 xs))
one_more k n [] i = absurd (no_end k i)
one_more k n (c ∷ cs) i = ap (λ b. one_if b (text_run (class_is k) (bracket_on (class_is k) n cs) cs)) i

pub run_on : (k : Class) (all left next : List ℕ) (first : Option ℕ) (m n : ℕ) → Run k all left first (Some m) n → class_is k (slice_index (folded left) 0) ≡ true → folded next ≡ drop 1 (folded left) → Run k all next first (bracket_on (class_is k) m (folded next)) (n + 1)
run_on k all left next first m n s i e =
    let o = one_run k (folded left) i in
    record {
      runs = omega (arith, s.runs, one_more k m (folded left) i, ap (λ xs. text_run (class_is k) (bracket_on (class_is k) m xs) xs) e);
      counts = omega (arith, s.counts, o.1, ap length e);
    }

-- a bracket is in front that is left out
pub run_out : (k : Class) (all left : List ℕ) (first : Option ℕ) (n : ℕ) → Run k all left first None n → n ≡ text_run (class_is k) first (folded all)
run_out k all left first n s = omega (arith, s.runs)

no_more : (k : Class) (m : ℕ) (xs : List ℕ) → class_is k (slice_index xs 0) ≡ false → text_run (class_is k) (Some m) xs ≡ 0
no_more k m [] i = refl
no_more k m (c ∷ cs) i = ap (λ b. one_if b (text_run (class_is k) (bracket_on (class_is k) m cs) cs)) i

pub run_stops : (k : Class) (all left : List ℕ) (first : Option ℕ) (m n : ℕ) → Run k all left first (Some m) n → class_is k (slice_index (folded left) 0) ≡ false → n ≡ text_run (class_is k) first (folded all)
run_stops k all left first m n s i = omega (arith, s.runs, no_more k m (folded left) i)

none_runs : (f : ℕ → Bool) (x : Option ℕ) (xs : List ℕ) → length xs ≡ 0 → text_run f x xs ≡ 0
none_runs f None [] h = refl
none_runs f (Some n) [] h = refl
none_runs f x (c ∷ cs) h = cc

pub run_ends : (k : Class) (all left : List ℕ) (first here : Option ℕ) (n : ℕ) → Run k all left first here n → n ≤ length all → length all ≤ n → length all ≡ text_run (class_is k) first (folded all)
run_ends k all left first here n s u v =
    let e : length (folded left) ≡ 0 = omega (arith, s.counts, folded-length all, v) in
    omega (arith, s.runs, none_runs (class_is k) here (folded left) e, u, v)

-- how many bytes stand before a symbol
pub record Before (all left : List ℕ) (count : ℕ) : Type 0 where
  pub same : before_symbol (folded all) ≡ count + before_symbol (folded left)
  pub counts : length (folded all) ≡ count + length (folded left)

pub before_begins : (all : List ℕ) → Before all all 0
before_begins all = record { same = omega arith; counts = omega arith }

symbol_later : (xs : List ℕ) → is_none xs ≡ false → begins_symbol xs ≡ false → (before_symbol xs ≡ suc (before_symbol (drop 1 xs))) × (length xs ≡ suc (length (drop 1 xs)))
symbol_later [] h i = cc
symbol_later (c ∷ cs) h i = (ap (λ b. if b then 0 else suc (before_symbol cs)) i, refl)

pub before_on : (all left next : List ℕ) (n : ℕ) → Before all left n → is_none (folded left) ≡ false → begins_symbol (folded left) ≡ false → folded next ≡ drop 1 (folded left) → Before all next (n + 1)
before_on all left next n s h i e =
    let o = symbol_later (folded left) h i in
    record { same = omega (arith, s.same, o.0, ap before_symbol e); counts = omega (arith, s.counts, o.1, ap length e) }

symbol_here : (xs : List ℕ) → begins_symbol xs ≡ true → before_symbol xs ≡ 0
symbol_here [] h = refl
symbol_here (c ∷ cs) h = ap (λ b. if b then 0 else suc (before_symbol cs)) h

pub before_here : (all left : List ℕ) (n : ℕ) → Before all left n → begins_symbol (folded left) ≡ true → n ≡ before_symbol (folded all)
before_here all left n s h = omega (arith, s.same, symbol_here (folded left) h)

none_before : (xs : List ℕ) → is_none xs ≡ true → before_symbol xs ≡ 0
none_before [] h = refl
none_before (c ∷ cs) h = cc

pub before_out : (all left : List ℕ) (n : ℕ) → Before all left n → is_none (folded left) ≡ true → n ≡ before_symbol (folded all)
before_out all left n s h = omega (arith, s.same, none_before (folded left) h)

no_bytes : (xs : List ℕ) → length xs ≡ 0 → before_symbol xs ≡ 0
no_bytes [] h = refl
no_bytes (c ∷ cs) h = cc

pub before_ends : (all left : List ℕ) (n : ℕ) → Before all left n → n ≤ length all → length all ≤ n → length all ≡ before_symbol (folded all)
before_ends all left n s u v =
    let e : length (folded left) ≡ 0 = omega (arith, s.counts, folded-length all, v) in
    omega (arith, s.same, no_bytes (folded left) e, u, v)
