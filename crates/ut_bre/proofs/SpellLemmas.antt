-- What is spelt is read back.
use Rattle.std.proofs.Common.{◌≡◌, ℕ, zero, suc, ◌+◌, ◌-◌, ◌<◌, ◌≤◌, inl, inr, List, [], ◌∷◌, ◌++◌, length, drop, Bool, true, false, cond, refl, sym, ap, ◌∙◌, arith, subst, append_assoc, length-append}
use Rattle.std.specs.Prelude.{Option, Some, None, Ok, Err, nat_lt, not, ◌==◌, ◌&&◌, ◌||◌, if◌then◌else◌}
use Rattle.std.proofs.Math.Seq.{drop-append_seam}
use Rattle.std.proofs.lemmas.Bool.{cases_lt, eqb-true, and_parts, and_right, or_parts, or_from, cond-true, cond-false, le-ltb, lt-ltb, or_cases}
use Rattle.std.proofs.lemmas.List.{append-nil}
use Rattle.rk_base.specs.Text.{Text}
use Rattle.sh_pattern.specs.Classes.{between, class_at}
use Rattle.sh_pattern.specs.declared.class.Class.{Class}
use Rattle.sh_pattern.specs.declared.class.Class.TheVariants.{Alpha, Digit, Alnum, Upper, Lower, Space, Blank, Punct, Print, Graph, Cntrl, Xdigit}
use Rattle.ut_bre.specs.declared.fault.Fault.TheVariants.{Wrong}
use Rattle.ut_bre.specs.declared.set.Listed.{Listed}
use Rattle.ut_bre.specs.declared.set.Listed.TheVariants.{Named, Range}
use Rattle.ut_bre.specs.Brackets.{Listing}
use Rattle.ut_bre.specs.Sets.{Part, begins, starts_range, class_part, high_part, listed_part, closes, listing, bracket_from, bracket_at}
use Rattle.ut_bre.specs.declared.last.Last.{Last}
use Rattle.ut_bre.specs.declared.last.Last.TheVariants.{Nothing, Single, Repeated}
use Rattle.ut_bre.specs.declared.set.One.{One}
use Rattle.ut_bre.specs.declared.set.One.TheVariants.{Byte, Letter, Any, Bracket}
use Rattle.ut_bre.specs.declared.tree.Times.{Times}
use Rattle.ut_bre.specs.Intervals.{more_digit, number_from, turns, interval_end, interval_most, interval_comma, interval_least, interval_at}
use Rattle.ut_bre.specs.Reading.{is_quotable, Open, Reading, Outcome, good, bad, with_times, repeat_last, with_one, Next, goes_on, stops, interval_next, bracket_next, with_open, next_of, reads_from, fresh, is_anchored, reads_behind, reads, read_of, read_folded, read}
use Rattle.ut_bre.specs.Spelling.{digits, spell_most, spell_interval, is_zero, is_once, spell_times, spell_class, spell_range, spell_listed, spell_list, spell_negation, spell_one, spell_item, spell_items, groups_of, groups_in, opens_more, StandsFor, CanStand, CanBeListed, IsSome, BeginsWell, Fits, HasSpelling, IsSpelt, AreSpelt, CanBeSpelt, anchor, spell}
use Rattle.ut_bre.specs.Times.{once}
use Rattle.ut_bre.specs.Trees.{ItemTree, one, group, ItemsTree, no_items, item_and, items_of, times_of, Expression}

-- Numbers.

abbrev value_of : Option ℕ → Text → Option ℕ
value_of v [] = v
value_of v (b ∷ bs) = value_of (Some (more_digit v b)) bs

abbrev are_digits : Text → Bool
are_digits [] = true
are_digits (b ∷ bs) = between 48 57 b && are_digits bs

abbrev pair : Option ℕ → ℕ → Option ℕ × ℕ
pair v n = (v, n)

number-read : (v : Option ℕ) (size : ℕ) (ds : Text) (c : ℕ) (rest : Text) → are_digits ds ≡ true → between 48 57 c ≡ false → number_from v size (ds ++ c ∷ rest) ≡ pair (value_of v ds) (size + length ds)
number-read v size [] c rest d e =
    let n : size ≡ size + 0 = omega arith in
    cond-false (between 48 57 c) (number_from (Some (more_digit v c)) (size + 1) rest) (pair v size) e ∙ ap (λ k. pair v k) n
number-read v size (b ∷ bs) c rest d e =
    let parts = and_parts (between 48 57 b) (are_digits bs) d in
    let n : (size + 1) + length bs ≡ size + suc (length bs) = omega arith in
    cond-true (between 48 57 b) (number_from (Some (more_digit v b)) (size + 1) (bs ++ c ∷ rest)) (pair v size) parts.0
    ∙ (number-read (Some (more_digit v b)) (size + 1) bs c rest parts.1 e ∙ ap (λ k. pair (value_of (Some (more_digit v b)) bs) k) n)

abbrev is_some_of : Option ℕ → ℕ → Bool
is_some_of None n = false
is_some_of (Some v) n = v == n

abbrev is_number : ℕ → Bool
is_number n = is_some_of (value_of None (digits n)) n && are_digits (digits n)

abbrev all_below : (ℕ → Bool) → ℕ → Bool
all_below t zero = true
all_below t (suc n) = t n && all_below t n

-- of each number up to 255
numbers : all_below is_number 256 ≡ true
numbers = refl

below : (t : ℕ → Bool) (n k : ℕ) → all_below t n ≡ true → k < n → t k ≡ true
below t zero k e h = absurd (omega arith)
below t (suc n) k e h =
    let parts = and_parts (t n) (all_below t n) e in
    elim (cases_lt k n) as (λ w. t k ≡ true) [
      | inl lt ↦ below t n k parts.1 lt
      | inr ge ↦ (let same : n ≡ k = omega arith in subst (λ x. t x ≡ true) same parts.0)
    ]

some-is : (o : Option ℕ) (n : ℕ) → is_some_of o n ≡ true → o ≡ Some n
some-is None n e = absurd (cc)
some-is (Some v) n e = ap Some (eqb-true v n e)

is-number : (t : ℕ → Bool) (n : ℕ) → all_below t 256 ≡ true → n ≤ 255 → t n ≡ true
is-number t n e h = below t 256 n e (omega arith)

digits-read : (n c : ℕ) (rest : Text) → n ≤ 255 → between 48 57 c ≡ false → number_from None 0 (digits n ++ c ∷ rest) ≡ pair (Some n) (0 + length (digits n))
digits-read n c rest h e =
    let parts = and_parts (is_some_of (value_of None (digits n)) n) (are_digits (digits n)) (is-number is_number n numbers h) in
    number-read None 0 (digits n) c rest parts.1 e ∙ ap (λ v. pair v (0 + length (digits n))) (some-is (value_of None (digits n)) n parts.0)

-- Intervals.

abbrev times : ℕ → Option ℕ → Times
times least beyond = record { least = least; beyond = beyond }

abbrev found : Times → ℕ → Option (Times × ℕ)
found t n = Some (t, n)

turns-endless : (m : ℕ) → m ≤ 255 → turns m None ≡ Some (times m None)
turns-endless m h = cond-false (nat_lt 255 m) None (Some (times m None)) (le-ltb 255 m h)

turns-ending : (m more : ℕ) → m + more ≤ 255 → turns m (Some (m + more)) ≡ Some (times m (Some more))
turns-ending m more h =
    let n = m + more in
    let low : m ≤ n = omega arith in
    let a : nat_lt 255 n ≡ false = le-ltb 255 n h in
    let b : nat_lt n m ≡ false = le-ltb n m low in
    let less : n - m ≡ more = omega arith in
    ap (λ x. if x || nat_lt n m then None else Some (times m (Some (n - m)))) a ∙ (ap (λ x. if x then None else Some (times m (Some (n - m)))) b ∙ ap (λ k. Some (times m (Some k))) less)

most-read : (m : ℕ) (beyond : Option ℕ) (size : ℕ) (rest : Text) → Fits (times m beyond) → interval_comma m size (44 ∷ (spell_most m beyond ++ 92 ∷ 125 ∷ rest)) ≡ found (times m beyond) ((size + 1 + length (spell_most m beyond)) + 2)
most-read m None size rest f =
    ap (λ t. interval_end t (size + 1 + 0) (92 ∷ 125 ∷ rest)) (turns-endless m f.least)
most-read m (Some more) size rest f =
    let ds = digits (m + more) in
    let text = ds ++ 92 ∷ 125 ∷ rest in
    let past : drop (0 + length ds) text ≡ 92 ∷ 125 ∷ rest = (let k : 0 + length ds ≡ length ds = omega arith in ap (λ n. drop n text) k ∙ drop-append_seam ds (92 ∷ 125 ∷ rest)) in
    let k : size + 1 + (0 + length ds) ≡ size + 1 + length ds = omega arith in
    ap (λ (p : Option ℕ × ℕ). interval_most m size text p) (digits-read (m + more) 92 (125 ∷ rest) f.most refl)
    ∙ (ap (λ t. interval_end t (size + 1 + (0 + length ds)) (drop (0 + length ds) text)) (turns-ending m more f.most)
    ∙ (ap (λ x. interval_end (Some (times m (Some more))) (size + 1 + (0 + length ds)) x) past ∙ ap (λ n. found (times m (Some more)) (n + 2)) k))

abbrev inner : ℕ → Option ℕ → Text → Text
inner m beyond rest = digits m ++ 44 ∷ (spell_most m beyond ++ 92 ∷ 125 ∷ rest)

inner-append : (m : ℕ) (beyond : Option ℕ) (rest : Text) → inner m beyond [] ++ rest ≡ inner m beyond rest
inner-append m beyond rest =
    append_assoc (digits m) (44 ∷ (spell_most m beyond ++ 92 ∷ 125 ∷ [])) rest ∙ ap (λ z. digits m ++ 44 ∷ z) (append_assoc (spell_most m beyond) (92 ∷ 125 ∷ []) rest)

inner-length : (m : ℕ) (beyond : Option ℕ) → length (inner m beyond []) ≡ (0 + length (digits m)) + 1 + length (spell_most m beyond) + 2
inner-length m beyond =
    let a = length-append (digits m) (44 ∷ (spell_most m beyond ++ 92 ∷ 125 ∷ [])) in
    let b = length-append (spell_most m beyond) (92 ∷ 125 ∷ []) in
    omega (arith, a, b)

interval-read : (m : ℕ) (beyond : Option ℕ) (rest : Text) → Fits (times m beyond) → interval_at (inner m beyond rest) ≡ found (times m beyond) (length (inner m beyond []))
interval-read m beyond rest f =
    let ds = digits m in
    let after = 44 ∷ (spell_most m beyond ++ 92 ∷ 125 ∷ rest) in
    let text = inner m beyond rest in
    let past : drop (0 + length ds) text ≡ after = (let k : 0 + length ds ≡ length ds = omega arith in ap (λ n. drop n text) k ∙ drop-append_seam ds after) in
    ap (λ (p : Option ℕ × ℕ). interval_least p.0 p.1 text) (digits-read m 44 (spell_most m beyond ++ 92 ∷ 125 ∷ rest) f.least refl)
    ∙ (ap (λ x. interval_comma m (0 + length ds) x) past
    ∙ (most-read m beyond (0 + length ds) rest f ∙ ap (λ n. found (times m beyond) n) (sym (inner-length m beyond))))

-- Tokens.

abbrev state : List Open → List ItemTree → Last → ℕ → Reading
state opened items last groups = record { opened = opened; items = items; last = last; groups = groups; folded = false }

abbrev goes : ℕ → Text → Next → Outcome
goes at rest (goes_on new more) = reads_from new (at + 1) more rest
goes at rest (stops outcome) = outcome

token : (r : Reading) (b at more : ℕ) (rest : Text) (new : Reading) → next_of at b rest r ≡ goes_on new more → reads_from r at 0 (b ∷ rest) ≡ reads_from new (at + 1) more rest
token r b at more rest new e = ap (goes at rest) e

passed : (r : Reading) (at : ℕ) (xs ys : Text) → reads_from r at (length xs) (xs ++ ys) ≡ reads_from r (at + length xs) 0 ys
passed r at [] ys = let k : at ≡ at + 0 = omega arith in ap (λ n. reads_from r n 0 ys) k
passed r at (x ∷ xs) ys = let k : (at + 1) + length xs ≡ at + suc (length xs) = omega arith in passed r (at + 1) xs ys ∙ ap (λ n. reads_from r n 0 ys) k

-- Turns.

repeat_last-append : (t : Times) (xs : List ItemTree) (x : ItemTree) → repeat_last t (xs ++ x ∷ []) ≡ xs ++ with_times t x ∷ []
repeat_last-append t [] x = refl
repeat_last-append t (y ∷ []) x = refl
repeat_last-append t (y ∷ z ∷ zs) x = ap (λ l. y ∷ l) (repeat_last-append t (z ∷ zs) x)

zero-is : (beyond : Option ℕ) → is_zero beyond ≡ true → beyond ≡ Some 0
zero-is None e = absurd (cc)
zero-is (Some more) e = ap Some (eqb-true more 0 e)

once-is : (t : Times) → is_once t ≡ true → once ≡ t
once-is t e =
    let parts = and_parts (t.least == 1) (is_zero t.beyond) e in
    let a : t.least ≡ 1 = eqb-true t.least 1 parts.0 in
    let b : t.beyond ≡ Some 0 = zero-is t.beyond parts.1 in
    ap (λ n. times n (Some 0)) (sym a) ∙ ap (λ o. times t.least o) (sym b)

abbrev last_of : Times → Last
last_of t = if is_once t then Single else Repeated

-- an item of any turns
abbrev Takes : (Times → ItemTree) → Type 0
Takes mk = (t u : Times) → with_times t (mk u) ≡ mk t

interval-read_back : (opened : List Open) (items : List ItemTree) (mk : Times → ItemTree) (t : Times) (groups at : ℕ) (rest : Text) → Takes mk → Fits t → reads_from (state opened (items ++ mk once ∷ []) Single groups) at 0 (spell_interval t.least t.beyond ++ rest) ≡ reads_from (state opened (items ++ mk t ∷ []) Repeated groups) (at + length (spell_interval t.least t.beyond)) 0 rest
interval-read_back opened items mk t groups at rest takes f =
    let body = inner t.least t.beyond [] in
    let before = state opened (items ++ mk once ∷ []) Single groups in
    let after = state opened (items ++ mk t ∷ []) Repeated groups in
    let found_ : interval_at (body ++ rest) ≡ found t (length body) = ap interval_at (inner-append t.least t.beyond rest) ∙ interval-read t.least t.beyond rest f in
    let items_ : repeat_last t (items ++ mk once ∷ []) ≡ items ++ mk t ∷ [] = repeat_last-append t items (mk once) ∙ ap (λ x. items ++ x ∷ []) (takes t once) in
    let next : next_of at 92 (123 ∷ (body ++ rest)) before ≡ goes_on after (length body + 1) = ap (interval_next at before) found_ ∙ ap (λ l. goes_on (state opened l Repeated groups) (length body + 1)) items_ in
    let one_more : length body + 1 ≡ length (123 ∷ body) = omega arith in
    let end : (at + 1) + length (123 ∷ body) ≡ at + suc (suc (length body)) = omega arith in
    token before 92 at (length body + 1) (123 ∷ (body ++ rest)) after next
    ∙ (ap (λ n. reads_from after (at + 1) n (123 ∷ (body ++ rest))) one_more
    ∙ (passed after (at + 1) (123 ∷ body) rest ∙ ap (λ n. reads_from after n 0 rest) end))

times-if : (opened : List Open) (items : List ItemTree) (mk : Times → ItemTree) (t : Times) (groups at : ℕ) (rest : Text) (b : Bool) → is_once t ≡ b → Takes mk → Fits t → reads_from (state opened (items ++ mk once ∷ []) Single groups) at 0 ((if b then [] else spell_interval t.least t.beyond) ++ rest) ≡ reads_from (state opened (items ++ mk t ∷ []) (if b then Single else Repeated) groups) (at + length (if b then [] else spell_interval t.least t.beyond)) 0 rest
times-if opened items mk t groups at rest true e takes f =
    let k : at ≡ at + 0 = omega arith in
    ap (λ u. reads_from (state opened (items ++ mk u ∷ []) Single groups) at 0 rest) (once-is t e) ∙ ap (λ n. reads_from (state opened (items ++ mk t ∷ []) Single groups) n 0 rest) k
times-if opened items mk t groups at rest false e takes f = interval-read_back opened items mk t groups at rest takes f

times-read : (opened : List Open) (items : List ItemTree) (mk : Times → ItemTree) (t : Times) (groups at : ℕ) (rest : Text) → Takes mk → Fits t → reads_from (state opened (items ++ mk once ∷ []) Single groups) at 0 (spell_times t ++ rest) ≡ reads_from (state opened (items ++ mk t ∷ []) (last_of t) groups) (at + length (spell_times t)) 0 rest
times-read opened items mk t groups at rest takes f = times-if opened items mk t groups at rest (is_once t) refl takes f

-- Bracket expressions.

class-named : (c : Class) (after : Text) → class_at (spell_class c ++ after) ≡ Some (c, length (spell_class c))
unfolding class_at
class-named Alpha after = refl
class-named Digit after = refl
class-named Alnum after = refl
class-named Upper after = refl
class-named Lower after = refl
class-named Space after = refl
class-named Blank after = refl
class-named Punct after = refl
class-named Print after = refl
class-named Graph after = refl
class-named Cntrl after = refl
class-named Xdigit after = refl

abbrev listed_as : Listed → ℕ → Part Listed
listed_as l n = Ok (l, n)

class-read : (c : Class) (start : ℕ) (after : Text) → starts_range after ≡ false → class_part start (spell_class c ++ after) (class_at (spell_class c ++ after)) ≡ listed_as (Named c) (length (spell_class c) + 1)
class-read c start after e =
    ap (class_part start (spell_class c ++ after)) (class-named c after)
    ∙ (ap (λ t. if starts_range t then Err (Wrong start) else listed_as (Named c) (length (spell_class c) + 1)) (drop-append_seam (spell_class c) after)
    ∙ cond-false (starts_range after) (Err (Wrong start)) (listed_as (Named c) (length (spell_class c) + 1)) e)

named-read : (c : Class) (start at : ℕ) (after : Text) → starts_range after ≡ false → listed_part start at 91 (spell_class c ++ after) ≡ listed_as (Named c) (length (spell_class c) + 1)
named-read Alpha start at after e = class-read Alpha start after e
named-read Digit start at after e = class-read Digit start after e
named-read Alnum start at after e = class-read Alnum start after e
named-read Upper start at after e = class-read Upper start after e
named-read Lower start at after e = class-read Lower start after e
named-read Space start at after e = class-read Space start after e
named-read Blank start at after e = class-read Blank start after e
named-read Punct start at after e = class-read Punct start after e
named-read Print start at after e = class-read Print start after e
named-read Graph start at after e = class-read Graph start after e
named-read Cntrl start at after e = class-read Cntrl start after e
named-read Xdigit start at after e = class-read Xdigit start after e

byte-read : (start at b : ℕ) (after : Text) → opens_more b after ≡ false → starts_range after ≡ false → listed_part start at b after ≡ listed_as (Range b b) 1
byte-read start at b after e f =
    let p = or_parts (begins 91 46 (b ∷ after) || begins 91 61 (b ∷ after)) (begins 91 58 (b ∷ after)) e in
    let one_ = listed_as (Range b b) 1 in
    let range = high_part start (at + 2) b (drop 1 after) in
    let class = class_part start after (class_at after) in
    cond-false (begins 91 46 (b ∷ after) || begins 91 61 (b ∷ after)) (Err (Wrong at)) (cond (begins 91 58 (b ∷ after)) class (cond (starts_range after) range one_)) p.0
    ∙ (cond-false (begins 91 58 (b ∷ after)) class (cond (starts_range after) range one_) p.1 ∙ cond-false (starts_range after) range one_ f)

high-read : (start at low high : ℕ) (after : Text) → low < high → opens_more high after ≡ false → high_part start at low (high ∷ after) ≡ listed_as (Range low high) 3
high-read start at low high after lt e =
    let p = or_parts (begins 91 46 (high ∷ after) || begins 91 61 (high ∷ after)) (begins 91 58 (high ∷ after)) e in
    let le : low ≤ high = omega arith in
    let q : nat_lt high low ≡ false = le-ltb high low le in
    let it = listed_as (Range low high) 3 in
    cond-false (begins 91 46 (high ∷ after) || begins 91 61 (high ∷ after)) (Err (Wrong at)) (cond (begins 91 58 (high ∷ after) || nat_lt high low) (Err (Wrong start)) it) p.0
    ∙ cond-false (begins 91 58 (high ∷ after) || nat_lt high low) (Err (Wrong start)) it (or_from (begins 91 58 (high ∷ after)) (nat_lt high low) p.1 q)

-- behind a `-` nothing else begins with a `[`
no_pair : (low b : ℕ) (after : Text) → (45 == b) ≡ false → begins 91 b (low ∷ 45 ∷ after) ≡ false
no_pair low b after e = and_right (low == 91) (45 == b) e

range-read : (start at low high : ℕ) (after : Text) → low < high → (high == 93) ≡ false → opens_more high after ≡ false → listed_part start at low (45 ∷ high ∷ after) ≡ listed_as (Range low high) 3
range-read start at low high after lt h e =
    let rest = 45 ∷ high ∷ after in
    let p = or_from (begins 91 46 (low ∷ rest)) (begins 91 61 (low ∷ rest)) (no_pair low 46 (high ∷ after) refl) (no_pair low 61 (high ∷ after) refl) in
    let class = class_part start rest (class_at rest) in
    let range = high_part start (at + 2) low (high ∷ after) in
    let one_ = listed_as (Range low low) 1 in
    let r : starts_range rest ≡ true = ap not h in
    cond-false (begins 91 46 (low ∷ rest) || begins 91 61 (low ∷ rest)) (Err (Wrong at)) (cond (begins 91 58 (low ∷ rest)) class (cond (starts_range rest) range one_)) p
    ∙ (cond-false (begins 91 58 (low ∷ rest)) class (cond (starts_range rest) range one_) (no_pair low 58 (high ∷ after) refl)
    ∙ (cond-true (starts_range rest) range one_ r ∙ high-read start (at + 2) low high after lt e))

-- A bracket that lists these so far, at a place.
abbrev lists : Bool → ℕ → ℕ → ℕ → List Listed → Text → Part Listing
lists negated start from at listed text = bracket_from negated start from at listed 0 text

past : (negated : Bool) (start from at : ℕ) (listed : List Listed) (xs ys : Text) → bracket_from negated start from at listed (length xs) (xs ++ ys) ≡ lists negated start from (at + length xs) listed ys
past negated start from at listed [] ys = let k : at ≡ at + 0 = omega arith in ap (λ n. lists negated start from n listed ys) k
past negated start from at listed (x ∷ xs) ys = let k : (at + 1) + length xs ≡ at + suc (length xs) = omega arith in past negated start from (at + 1) listed xs ys ∙ ap (λ n. lists negated start from n listed ys) k

abbrev lists_on : Bool → ℕ → ℕ → ℕ → List Listed → Text → Part Listed → Part Listing
lists_on negated start from at listed rest (Ok part) = bracket_from negated start from (at + 1) (listed ++ part.0 ∷ []) (part.1 - 1) rest
lists_on negated start from at listed rest (Err fault) = Err fault

-- one thing more is listed
listed-more : (negated : Bool) (start from at : ℕ) (listed : List Listed) (b : ℕ) (xs ys : Text) (l : Listed) → closes b listed ≡ false → listed_part start at b (xs ++ ys) ≡ listed_as l (length xs + 1) → lists negated start from at listed (b ∷ (xs ++ ys)) ≡ lists negated start from (at + suc (length xs)) (listed ++ l ∷ []) ys
listed-more negated start from at listed b xs ys l c e =
    let n : (length xs + 1) - 1 ≡ length xs = omega arith in
    let k : (at + 1) + length xs ≡ at + suc (length xs) = omega arith in
    cond-false (closes b listed) (Ok (listing negated listed, at + 1 - from)) (lists_on negated start from at listed (xs ++ ys) (listed_part start at b (xs ++ ys))) c
    ∙ (ap (lists_on negated start from at listed (xs ++ ys)) e
    ∙ (ap (λ m. bracket_from negated start from (at + 1) (listed ++ l ∷ []) m (xs ++ ys)) n
    ∙ (past negated start from (at + 1) (listed ++ l ∷ []) xs ys ∙ ap (λ m. lists negated start from m (listed ++ l ∷ []) ys) k)))

open_never_closes : (listed : List Listed) → closes 91 listed ≡ false
open_never_closes [] = refl
open_never_closes (l ∷ ls) = refl

abbrev Listed-read : Bool → ℕ → ℕ → ℕ → List Listed → Listed → Text → Text → Type 0
Listed-read negated start from at listed l spelling ys = lists negated start from at listed (spelling ++ ys) ≡ lists negated start from (at + length spelling) (listed ++ l ∷ []) ys

range-if : (negated : Bool) (start from at : ℕ) (listed : List Listed) (low high : ℕ) (ys : Text) (b : Bool) → (low == high) ≡ b → closes low listed ≡ false → StandsFor b low high ys → Listed-read negated start from at listed (Range low high) (spell_range b low high) ys
range-if negated start from at listed low high ys true e c (m, r) =
    listed-more negated start from at listed low [] ys (Range low high) c (byte-read start at low ys m r ∙ ap (λ h. listed_as (Range low h) 1) (eqb-true low high e))
range-if negated start from at listed low high ys false e c (lt, h, m) =
    listed-more negated start from at listed low (45 ∷ high ∷ []) ys (Range low high) c (range-read start at low high ys lt h m)

listed-read : (negated : Bool) (start from at : ℕ) (listed : List Listed) (l : Listed) (ys : Text) → CanStand listed l ys → Listed-read negated start from at listed l (spell_listed l) ys
listed-read negated start from at listed (Named class) ys e = listed-more negated start from at listed 91 (spell_class class) ys (Named class) (open_never_closes listed) (named-read class start at ys e)
listed-read negated start from at listed (Range low high) ys (c, s) = range-if negated start from at listed low high ys (low == high) refl c s

-- what stands behind the closing `]` makes no difference
range-behind : (xs rest : Text) → starts_range (xs ++ 93 ∷ []) ≡ false → starts_range (xs ++ 93 ∷ rest) ≡ false
range-behind [] [] e = refl
range-behind [] (r ∷ rest) e = refl
range-behind (x ∷ []) rest e = e
range-behind (x ∷ y ∷ xs) rest e = e

begins-behind : (a c b : ℕ) (xs rest : Text) → begins a c (b ∷ (xs ++ 93 ∷ rest)) ≡ begins a c (b ∷ (xs ++ 93 ∷ []))
begins-behind a c b [] rest = refl
begins-behind a c b (x ∷ xs) rest = refl

opens-behind : (b : ℕ) (xs rest : Text) → opens_more b (xs ++ 93 ∷ []) ≡ false → opens_more b (xs ++ 93 ∷ rest) ≡ false
opens-behind b xs rest e =
    ap (λ p. (p || begins 91 61 (b ∷ (xs ++ 93 ∷ rest))) || begins 91 58 (b ∷ (xs ++ 93 ∷ rest))) (begins-behind 91 46 b xs rest)
    ∙ (ap (λ p. (begins 91 46 (b ∷ (xs ++ 93 ∷ [])) || p) || begins 91 58 (b ∷ (xs ++ 93 ∷ rest))) (begins-behind 91 61 b xs rest)
    ∙ (ap (λ p. (begins 91 46 (b ∷ (xs ++ 93 ∷ [])) || begins 91 61 (b ∷ (xs ++ 93 ∷ []))) || p) (begins-behind 91 58 b xs rest) ∙ e))

stands-behind : (one_ : Bool) (low high : ℕ) (xs rest : Text) → StandsFor one_ low high (xs ++ 93 ∷ []) → StandsFor one_ low high (xs ++ 93 ∷ rest)
stands-behind true low high xs rest (m, r) = (opens-behind low xs rest m, range-behind xs rest r)
stands-behind false low high xs rest (lt, h, m) = (lt, h, opens-behind high xs rest m)

stand-behind : (before : List Listed) (l : Listed) (xs rest : Text) → CanStand before l (xs ++ 93 ∷ []) → CanStand before l (xs ++ 93 ∷ rest)
stand-behind before (Named class) xs rest e = range-behind xs rest e
stand-behind before (Range low high) xs rest (c, s) = (c, stands-behind (low == high) low high xs rest s)

abbrev bracket : Bool → List Listed → ℕ → Part Listing
bracket negated listed n = Ok (listing negated listed, n)

some-append : (xs ys : List Listed) → IsSome xs → IsSome (xs ++ ys)
some-append [] ys s = absurd s
some-append (x ∷ xs) ys s = tt

some-closes : (listed : List Listed) → IsSome listed → closes 93 listed ≡ true
some-closes [] s = absurd s
some-closes (l ∷ ls) s = refl

list-read : (negated : Bool) (start from at : ℕ) (before ls : List Listed) (rest : Text) → CanBeListed before ls → IsSome (before ++ ls) → lists negated start from at before (spell_list ls ++ 93 ∷ rest) ≡ bracket negated (before ++ ls) ((at + length (spell_list ls)) + 1 - from)
list-read negated start from at before [] rest c s =
    let whole_ : before ++ [] ≡ before = append-nil before in
    let k : at ≡ at + 0 = omega arith in
    let z : closes 93 before ≡ true = some-closes before (subst IsSome whole_ s) in
    cond-true (closes 93 before) (bracket negated before (at + 1 - from)) (lists_on negated start from at before rest (listed_part start at 93 rest)) z
    ∙ (ap (λ l. bracket negated l (at + 1 - from)) (sym whole_) ∙ ap (λ n. bracket negated (before ++ []) (n + 1 - from)) k)
list-read negated start from at before (l ∷ ls) rest (h, c) s =
    let a = spell_listed l in
    let b = spell_list ls in
    let all : (before ++ l ∷ []) ++ ls ≡ before ++ l ∷ ls = append_assoc before (l ∷ []) ls in
    let n : (at + length a) + length b ≡ at + length (a ++ b) = omega (arith, length-append a b) in
    ap (lists negated start from at before) (append_assoc a b (93 ∷ rest))
    ∙ (listed-read negated start from at before l (b ++ 93 ∷ rest) (stand-behind before l b rest h)
    ∙ (list-read negated start from (at + length a) (before ++ l ∷ []) ls rest c (subst IsSome (sym all) s)
    ∙ (ap (λ x. bracket negated x (((at + length a) + length b) + 1 - from)) all ∙ ap (λ m. bracket negated (before ++ l ∷ ls) (m + 1 - from)) n)))

straight : (start : ℕ) (xs rest : Text) → is_anchored (xs ++ 93 ∷ rest) ≡ false → bracket_at start (xs ++ 93 ∷ rest) ≡ lists false start start (start + 1) [] (xs ++ 93 ∷ rest)
straight start [] rest e = refl
straight start (x ∷ xs) rest e = cond-false (x == 94) (lists true start start (start + 2) [] (xs ++ 93 ∷ rest)) (lists false start start (start + 1) [] (x ∷ (xs ++ 93 ∷ rest))) e

anchored-behind : (xs rest : Text) → is_anchored (xs ++ 93 ∷ rest) ≡ is_anchored (xs ++ 93 ∷ [])
anchored-behind [] rest = refl
anchored-behind (x ∷ xs) rest = refl

abbrev body_of : Bool → List Listed → Text → Text
body_of negated ls rest = spell_negation negated ++ (spell_list ls ++ 93 ∷ rest)

body-append : (negated : Bool) (ls : List Listed) (rest : Text) → body_of negated ls [] ++ rest ≡ body_of negated ls rest
body-append negated ls rest = append_assoc (spell_negation negated) (spell_list ls ++ 93 ∷ []) rest ∙ ap (λ z. spell_negation negated ++ z) (append_assoc (spell_list ls) (93 ∷ []) rest)

body-read : (negated : Bool) (ls : List Listed) (start : ℕ) (rest : Text) → BeginsWell negated (spell_list ls ++ 93 ∷ []) → CanBeListed [] ls → IsSome ls → bracket_at start (body_of negated ls rest) ≡ bracket negated ls (length (body_of negated ls []) + 1)
body-read true ls start rest w c s =
    let n : ((start + 2) + length (spell_list ls)) + 1 - start ≡ length (body_of true ls []) + 1 = omega (arith, length-append (spell_list ls) (93 ∷ [])) in
    list-read true start start (start + 2) [] ls rest c s ∙ ap (λ m. bracket true ls m) n
body-read false ls start rest w c s =
    let n : ((start + 1) + length (spell_list ls)) + 1 - start ≡ length (body_of false ls []) + 1 = omega (arith, length-append (spell_list ls) (93 ∷ [])) in
    straight start (spell_list ls) rest (anchored-behind (spell_list ls) rest ∙ w) ∙ (list-read false start start (start + 1) [] ls rest c s ∙ ap (λ m. bracket false ls m) n)

same-listing : (b : Listing) → b.folded ≡ false → listing b.negated b.listed ≡ b
same-listing b e = ap (λ f. let l : Listing = record { negated = b.negated; listed = b.listed; folded = f } in l) (sym e)

-- What matches one byte.

plain-next : (r : Reading) (b at : ℕ) (rest : Text) → is_quotable b ≡ false → next_of at b rest r ≡ goes_on (with_one (Byte b) r) 0
plain-next r b at rest e =
    let p36 = or_parts (((((b == 46) || (b == 91)) || (b == 92)) || (b == 42)) || (b == 94)) (b == 36) e in
    let p94 = or_parts ((((b == 46) || (b == 91)) || (b == 92)) || (b == 42)) (b == 94) p36.0 in
    let p42 = or_parts (((b == 46) || (b == 91)) || (b == 92)) (b == 42) p94.0 in
    let p92 = or_parts ((b == 46) || (b == 91)) (b == 92) p42.0 in
    let p91 = or_parts (b == 46) (b == 91) p92.0 in
    rw (p92.1, p36.1, p42.1, p91.0, p91.1) refl

-- a byte that is quoted is one of six
quoted-next : (r : Reading) (b at : ℕ) (rest : Text) → is_quotable b ≡ true → next_of at 92 (b ∷ rest) r ≡ goes_on (with_one (Byte b) r) 1
quoted-next r b at rest e =
    let P : ℕ → Type 0 = λ c. next_of at 92 (c ∷ rest) r ≡ goes_on (with_one (Byte c) r) 1 in
    let at_ : (c : ℕ) → (b == c) ≡ true → P c → P b = λ c same p. subst P (sym (eqb-true b c same)) p in
    elim (or_cases (((((b == 46) || (b == 91)) || (b == 92)) || (b == 42)) || (b == 94)) (b == 36) e) as (λ w. P b) [
      | inr s ↦ at_ 36 s refl
      | inl e5 ↦ elim (or_cases ((((b == 46) || (b == 91)) || (b == 92)) || (b == 42)) (b == 94) e5) as (λ w. P b) [
        | inr s ↦ at_ 94 s refl
        | inl e4 ↦ elim (or_cases (((b == 46) || (b == 91)) || (b == 92)) (b == 42) e4) as (λ w. P b) [
          | inr s ↦ at_ 42 s refl
          | inl e3 ↦ elim (or_cases ((b == 46) || (b == 91)) (b == 92) e3) as (λ w. P b) [
            | inr s ↦ at_ 92 s refl
            | inl e2 ↦ elim (or_cases (b == 46) (b == 91) e2) as (λ w. P b) [
              | inl s ↦ at_ 46 s refl
              | inr s ↦ at_ 91 s refl
            ]
          ]
        ]
      ]
    ]

abbrev with : List Open → List ItemTree → ItemTree → ℕ → Reading
with opened items x groups = state opened (items ++ x ∷ []) Single groups

byte-if : (opened : List Open) (items : List ItemTree) (last : Last) (groups at b : ℕ) (rest : Text) (q : Bool) → is_quotable b ≡ q → reads_from (state opened items last groups) at 0 ((if q then 92 ∷ b ∷ [] else b ∷ []) ++ rest) ≡ reads_from (with opened items (one once (Byte b)) groups) (at + length (if q then 92 ∷ b ∷ [] else b ∷ [])) 0 rest
byte-if opened items last groups at b rest true e =
    let r = state opened items last groups in
    let new = with opened items (one once (Byte b)) groups in
    let k : (at + 1) + 1 ≡ at + 2 = omega arith in
    token r 92 at 1 (b ∷ rest) new (quoted-next r b at rest e) ∙ ap (λ n. reads_from new n 0 rest) k
byte-if opened items last groups at b rest false e =
    let r = state opened items last groups in
    token r b at 0 rest (with opened items (one once (Byte b)) groups) (plain-next r b at rest e)

one-read : (opened : List Open) (items : List ItemTree) (last : Last) (groups at : ℕ) (what : One) (rest : Text) → HasSpelling what → reads_from (state opened items last groups) at 0 (spell_one what ++ rest) ≡ reads_from (with opened items (one once what) groups) (at + length (spell_one what)) 0 rest
one-read opened items last groups at (Byte b) rest h = byte-if opened items last groups at b rest (is_quotable b) refl
one-read opened items last groups at (Letter b) rest h = absurd h
one-read opened items last groups at Any rest h = token (state opened items last groups) 46 at 0 rest (with opened items (one once Any) groups) refl
one-read opened items last groups at (Bracket b) rest h =
    let r = state opened items last groups in
    let body = body_of b.negated b.listed [] in
    let new = with opened items (one once (Bracket b)) groups in
    let found_ : bracket_at at (body ++ rest) ≡ bracket b.negated b.listed (length body + 1) = ap (bracket_at at) (body-append b.negated b.listed rest) ∙ body-read b.negated b.listed at rest h.first h.listed h.some in
    let n : (length body + 1) - 1 ≡ length body = omega arith in
    let k : (at + 1) + length body ≡ at + suc (length body) = omega arith in
    let next : next_of at 91 (body ++ rest) r ≡ goes_on new (length body) = ap (bracket_next r) found_ ∙ (ap (λ l. goes_on (with opened items (one once (Bracket l)) groups) ((length body + 1) - 1)) (same-listing b h.folded) ∙ ap (λ m. goes_on new m) n) in
    token r 91 at (length body) (body ++ rest) new next ∙ (passed new (at + 1) body rest ∙ ap (λ m. reads_from new m 0 rest) k)

-- Items.

abbrev list_of : ItemsTree → List ItemTree
list_of no_items = []
list_of (item_and x xs) = x ∷ list_of xs

items-list : (xs : ItemsTree) → items_of (list_of xs) ≡ xs
items-list no_items = refl
items-list (item_and x xs) = ap (item_and x) (items-list xs)

abbrev last_after : ItemsTree → Last → Last
last_after no_items last = last
last_after (item_and x xs) last = last_after xs (last_of (times_of x))

same_state : (opened : List Open) (items items' : List ItemTree) (last : Last) (groups groups' at at' : ℕ) (rest : Text) → items ≡ items' → groups ≡ groups' → at ≡ at' → reads_from (state opened items last groups) at 0 rest ≡ reads_from (state opened items' last groups') at' 0 rest
same_state opened items items' last groups groups' at at' rest ei eg ea =
    ap (λ l. reads_from (state opened l last groups) at 0 rest) ei ∙ (ap (λ g. reads_from (state opened items' last g) at 0 rest) eg ∙ ap (λ n. reads_from (state opened items' last groups') n 0 rest) ea)

abbrev ReadsItem : ItemTree → Type 0
ReadsItem x = (level : ℕ) (opened : List Open) (items : List ItemTree) (last : Last) (groups at : ℕ) (rest : Text) → IsSpelt level groups x → length opened ≡ level → reads_from (state opened items last groups) at 0 (spell_item x ++ rest) ≡ reads_from (state opened (items ++ x ∷ []) (last_of (times_of x)) (groups + groups_of x)) (at + length (spell_item x)) 0 rest

abbrev ReadsItems : ItemsTree → Type 0
ReadsItems xs = (level : ℕ) (opened : List Open) (items : List ItemTree) (last : Last) (groups at : ℕ) (rest : Text) → AreSpelt level groups xs → length opened ≡ level → reads_from (state opened items last groups) at 0 (spell_items xs ++ rest) ≡ reads_from (state opened (items ++ list_of xs) (last_after xs last) (groups + groups_in xs)) (at + length (spell_items xs)) 0 rest

one-item : (t : Times) (what : One) → ReadsItem (one t what)
one-item t what level opened items last groups at rest (h, f) d =
    let a = spell_one what in
    let b = spell_times t in
    let n : (at + length a) + length b ≡ at + length (a ++ b) = omega (arith, length-append a b) in
    let g : groups ≡ groups + 0 = omega arith in
    ap (reads_from (state opened items last groups) at 0) (append_assoc a b rest)
    ∙ (one-read opened items last groups at what (b ++ rest) h
    ∙ (times-read opened items (λ u. one u what) t groups (at + length a) rest (λ u v. refl) f
    ∙ same_state opened (items ++ one t what ∷ []) (items ++ one t what ∷ []) (last_of t) groups (groups + 0) ((at + length a) + length b) (at + length (a ++ b)) rest refl g n))

group-item : (t : Times) (number : ℕ) (body : ItemsTree) → ReadsItems body → ReadsItem (group t number body)
group-item t number body on level opened items last groups at rest (h, same, f, k) d =
    let b = spell_items body in
    let z = spell_times t in
    let r = state opened items last groups in
    let o : Open = record { at = at; number = groups; before = items } in
    let tail = 92 ∷ 41 ∷ (z ++ rest) in
    let whole : (b ++ 92 ∷ 41 ∷ z) ++ rest ≡ b ++ tail = append_assoc b (92 ∷ 41 ∷ z) rest in
    let room : nat_lt (length opened) 64 ≡ true = lt-ltb (length opened) 64 (omega arith) in
    let opens : next_of at 92 (40 ∷ (b ++ tail)) r ≡ goes_on (with_open at r) 1 = ap (λ x. if x then goes_on (with_open at r) 1 else stops (bad at)) room in
    let deep : length (o ∷ opened) ≡ level + 1 = omega arith in
    let inside = state (o ∷ opened) (list_of body) (last_after body Nothing) ((groups + 1) + groups_in body) in
    let there = ((at + 1) + 1) + length b in
    let closed = with opened items (group once groups (items_of (list_of body))) ((groups + 1) + groups_in body) in
    let tree : items_of (list_of body) ≡ body = items-list body in
    let count : (groups + 1) + groups_in body ≡ groups + (groups_in body + 1) = omega arith in
    let size : ((there + 1) + 1) + length z ≡ at + length (92 ∷ 40 ∷ (b ++ 92 ∷ 41 ∷ z)) = omega (arith, length-append b (92 ∷ 41 ∷ z)) in
    ap (λ y. reads_from r at 0 (92 ∷ 40 ∷ y)) whole
    ∙ (token r 92 at 1 (40 ∷ (b ++ tail)) (with_open at r) opens
    ∙ (on (level + 1) (o ∷ opened) [] Nothing (groups + 1) ((at + 1) + 1) tail (subst (λ n. AreSpelt (level + 1) (n + 1) body) refl k) deep
    ∙ (token inside 92 there 1 (41 ∷ (z ++ rest)) closed refl
    ∙ (ap (λ y. reads_from (with opened items (group once groups y) ((groups + 1) + groups_in body)) ((there + 1) + 1) 0 (z ++ rest)) tree
    ∙ (times-read opened items (λ u. group u groups body) t ((groups + 1) + groups_in body) ((there + 1) + 1) rest (λ u v. refl) f
    ∙ same_state opened (items ++ group t groups body ∷ []) (items ++ group t number body ∷ []) (last_of t) ((groups + 1) + groups_in body) (groups + (groups_in body + 1)) (((there + 1) + 1) + length z) (at + length (92 ∷ 40 ∷ (b ++ 92 ∷ 41 ∷ z))) rest (ap (λ n. items ++ group t n body ∷ []) (sym same)) count size)))))

no-items : ReadsItems no_items
no-items level opened items last groups at rest s d =
    let g : groups ≡ groups + 0 = omega arith in
    let n : at ≡ at + 0 = omega arith in
    same_state opened items (items ++ []) last groups (groups + 0) at (at + 0) rest (sym (append-nil items)) g n

more-items : (x : ItemTree) (xs : ItemsTree) → ReadsItem x → ReadsItems xs → ReadsItems (item_and x xs)
more-items x xs first others level opened items last groups at rest (h, k) d =
    let a = spell_item x in
    let b = spell_items xs in
    let g : (groups + groups_of x) + groups_in xs ≡ groups + (groups_of x + groups_in xs) = omega arith in
    let n : (at + length a) + length b ≡ at + length (a ++ b) = omega (arith, length-append a b) in
    ap (reads_from (state opened items last groups) at 0) (append_assoc a b rest)
    ∙ (first level opened items last groups at (b ++ rest) h d
    ∙ (others level opened (items ++ x ∷ []) (last_of (times_of x)) (groups + groups_of x) (at + length a) rest k d
    ∙ same_state opened ((items ++ x ∷ []) ++ list_of xs) (items ++ x ∷ list_of xs) (last_after xs (last_of (times_of x))) ((groups + groups_of x) + groups_in xs) (groups + (groups_of x + groups_in xs)) ((at + length a) + length b) (at + length (a ++ b)) rest (append_assoc items (x ∷ []) (list_of xs)) g n))

mutual
  item-read : (x : ItemTree) → ReadsItem x
  item-read (one t what) = one-item t what
  item-read (group t number body) = group-item t number body (items-read body)

  items-read : (xs : ItemsTree) → ReadsItems xs
  items-read no_items = no-items
  items-read (item_and x xs) = more-items x xs (item-read x) (items-read xs)

-- An expression.

ends : (items : List ItemTree) (last : Last) (groups at : ℕ) (dollar : Bool) → reads_from (state [] items last groups) at 0 (anchor dollar 36) ≡ good items dollar groups
ends items last groups at true = refl
ends items last groups at false = refl

behind-read : (e : Expression) (at : ℕ) → CanBeSpelt e → reads_from (fresh false) at 0 (spell_items e.items ++ anchor e.at_end 36) ≡ good (list_of e.items) e.at_end e.groups
behind-read e at c =
    let g : 0 + groups_in e.items ≡ e.groups = (let h : e.groups ≡ groups_in e.items = c.groups in omega arith) in
    items-read e.items 0 [] [] Nothing 0 at (anchor e.at_end 36) c.items refl
    ∙ (ends (list_of e.items) (last_after e.items Nothing) (0 + groups_in e.items) (at + length (spell_items e.items)) e.at_end ∙ ap (λ n. good (list_of e.items) e.at_end n) g)

byte-anchored : (b : ℕ) (rest : Text) (q : Bool) → is_quotable b ≡ q → is_anchored ((if q then 92 ∷ b ∷ [] else b ∷ []) ++ rest) ≡ false
byte-anchored b rest true e = refl
byte-anchored b rest false e =
    let p36 = or_parts (((((b == 46) || (b == 91)) || (b == 92)) || (b == 42)) || (b == 94)) (b == 36) e in
    (or_parts ((((b == 46) || (b == 91)) || (b == 92)) || (b == 42)) (b == 94) p36.0).1

one-anchored : (what : One) (rest : Text) → HasSpelling what → is_anchored (spell_one what ++ rest) ≡ false
one-anchored (Byte b) rest h = byte-anchored b rest (is_quotable b) refl
one-anchored (Letter b) rest h = absurd h
one-anchored Any rest h = refl
one-anchored (Bracket listing) rest h = refl

item-anchored : (x : ItemTree) (level groups : ℕ) (rest : Text) → IsSpelt level groups x → is_anchored (spell_item x ++ rest) ≡ false
item-anchored (one t what) level groups rest (h, f) = ap is_anchored (append_assoc (spell_one what) (spell_times t) rest) ∙ one-anchored what (spell_times t ++ rest) h
item-anchored (group t number body) level groups rest s = refl

none-anchored : (dollar : Bool) → is_anchored (anchor dollar 36) ≡ false
none-anchored true = refl
none-anchored false = refl

items-anchored : (xs : ItemsTree) (dollar : Bool) → AreSpelt 0 0 xs → is_anchored (spell_items xs ++ anchor dollar 36) ≡ false
items-anchored no_items dollar s = none-anchored dollar
items-anchored (item_and x xs) dollar (h, k) = ap is_anchored (append_assoc (spell_item x) (spell_items xs) (anchor dollar 36)) ∙ item-anchored x 0 0 (spell_items xs ++ anchor dollar 36) h

abbrev whole : Bool → Expression → Expression
whole start e = record { at_start = start; items = e.items; at_end = e.at_end; groups = e.groups }

outcome-is : (e : Expression) (start : Bool) → read_of start (good (list_of e.items) e.at_end e.groups) ≡ reads (whole start e)
outcome-is e start = ap (λ xs. reads (record { at_start = start; items = xs; at_end = e.at_end; groups = e.groups })) (items-list e.items)

read-if : (e : Expression) (start : Bool) → CanBeSpelt e → read (anchor start 94 ++ (spell_items e.items ++ anchor e.at_end 36)) ≡ reads (whole start e)
unfolding read_folded
read-if e true c = ap (read_of true) (behind-read e 1 c) ∙ outcome-is e true
read-if e false c =
    let text = spell_items e.items ++ anchor e.at_end 36 in
    ap (λ b. read_of b (reads_behind false b text)) (items-anchored e.items e.at_end c.items) ∙ (ap (read_of false) (behind-read e 0 c) ∙ outcome-is e false)

pub each-is-read-back : (e : Expression) → CanBeSpelt e → read (spell e) ≡ reads e
each-is-read-back e c = read-if e e.at_start c
