-- The paths of made files are canonical.
use Rattle.std.proofs.Common.{◌≡◌, ℕ, ◌+◌, ◌<◌, ◌≤◌, ◌^◌, [], ◌∷◌, ◌++◌, length, Bool, true, false, not, ◌&&◌, codes, refl, ap, ◌∙◌, arith, length-append}
use Rattle.std.specs.Prelude.{nat_eq, nat_lt}
use Rattle.std.specs.Fmt.{decimal}
use Rattle.std.specs.List.{AllByRecursion, list_all, list_any}
use Rattle.std.specs.Str.{IsAscii}
use Rattle.std.specs.Str.Parse.{AllDigits, digits_value}
use Rattle.std.specs.Cmp.Lexicographic.{pointwise}
use Rattle.std.proofs.lemmas.Bool.Decides.{nat_tests}
use Rattle.std.proofs.lemmas.Fmt.{digits_decimal, length-decimal-le}
use Rattle.std.proofs.lemmas.Str.{IsUtf8-from_ascii, is_utf8-from_IsUtf8}
use Rattle.std.proofs.lemmas.Str.Ascii.{IsAscii-nil, IsAscii-cons}
use Rattle.std.proofs.lemmas.Str.Parse.{IsNumeralModel, numerals_by_value, tells_digits, digit_from_value}
use Rattle.rk_base.specs.Text.{Text, same_text, dot, dot_dot}
use Rattle.rk_base.specs.Canonical.{is_barred, is_canonical, is_name}
use Rattle.rk_base.proofs.CanonicalLemmas.{both, components-alone, denied}
use Rattle.rk_gen.specs.Lines.{source_path}
use Rattle.rk_gen.specs.Scripts.{script_path}

-- of ASCII, and neither a slash nor a NUL
abbrev IsPlain : ℕ → Type 0
IsPlain b = (b < 128) × (is_barred b ≡ false)

abbrev AllPlain : Text → Type 0
AllPlain = AllByRecursion IsPlain

plain_ascii : (bs : Text) → AllPlain bs → IsAscii bs
plain_ascii [] h = IsAscii-nil
plain_ascii (b ∷ bs) h = IsAscii-cons b bs h.0.0 (plain_ascii bs h.1)

plain_unbarred : (bs : Text) → AllPlain bs → list_any is_barred bs ≡ false
plain_unbarred [] h = refl
plain_unbarred (b ∷ bs) h = rw (h.0.1) (plain_unbarred bs h.1)

plain_append : (xs ys : Text) → AllPlain xs → AllPlain ys → AllPlain (xs ++ ys)
plain_append [] ys hx hy = hy
plain_append (x ∷ xs) ys hx hy = (hx.0, plain_append xs ys hx.1 hy)

-- by a test that computes
plain_by : (bs : Text) → list_all (λ b. nat_lt b 128 && not (is_barred b)) bs ≡ true → AllPlain bs
plain_by [] h = tt
plain_by (b ∷ bs) h =
    let e = both (nat_lt b 128 && not (is_barred b)) _ h in
    let f = both (nat_lt b 128) (not (is_barred b)) e.0 in
    ((grind (arith, nat_tests), denied _ f.1), plain_by bs e.1)

-- Digits.

own : IsNumeralModel (AllDigits 10) (digits_value 10)
own = numerals_by_value (AllDigits 10) tells_digits

digit_plain : (c : ℕ) → 48 ≤ c → c ≤ 57 → IsPlain c
digit_plain c low high = (omega (arith, high), grind (arith, nat_tests))

digits_plain : (ds : Text) → AllDigits 10 ds → AllPlain ds
digits_plain [] h = tt
digits_plain (c ∷ cs) h = let r = digit_from_value c h.0 in (digit_plain c (omega (arith, r)) (omega (arith, r)), digits_plain cs h.1)

number_plain : (n : ℕ) → n < 2 ^ 64 → AllPlain (decimal n)
number_plain n h = digits_plain (decimal n) (digits_decimal own n h)

number_short : (n : ℕ) → n < 2 ^ 64 → length (decimal n) ≤ 20
number_short n h = length-decimal-le 20 n (omega arith) (omega (arith, h)) h

-- A name that begins with no dot.

and_true : (a b : Bool) → a ≡ true → b ≡ true → (a && b) ≡ true
and_true true b ha hb = hb
and_true false b ha hb = ha

module _ (b : ℕ) (bs : Text) (first : nat_eq b 46 ≡ false) (all : AllPlain (b ∷ bs)) (short : length bs < 255) where
  fits : nat_lt (length (b ∷ bs)) 256 ≡ true
  fits = grind (arith, nat_tests)

  no_dot : not (same_text (b ∷ bs) dot) ≡ true
  no_dot = ap (λ (c : Bool). not (c && pointwise nat_eq bs [])) first

  no_dot_dot : not (same_text (b ∷ bs) dot_dot) ≡ true
  no_dot_dot = ap (λ (c : Bool). not (c && pointwise nat_eq bs (46 ∷ []))) first

  plain_name : is_name (b ∷ bs) ≡ true
  unfolding is_name
  plain_name =
      and_true _ _ (and_true _ _ (and_true _ _ (and_true _ _ fits (is_utf8-from_IsUtf8 (b ∷ bs) (IsUtf8-from_ascii (b ∷ bs) (plain_ascii (b ∷ bs) all)))) (ap not (plain_unbarred (b ∷ bs) all))) no_dot) no_dot_dot

  plain_path : is_canonical (47 ∷ b ∷ bs) ≡ true
  unfolding is_canonical
  plain_path = ap (list_all is_name) (components-alone (b ∷ bs) (plain_unbarred (b ∷ bs) all)) ∙ ap (λ (c : Bool). c && true) plain_name

pub source_canonical : (k : ℕ) → k < 2 ^ 64 → is_canonical (source_path k) ≡ true
unfolding source_path
source_canonical k h =
    let short = number_short k h in
    plain_path 115 (decimal k) refl (plain_append (codes "s") (decimal k) (plain_by (codes "s") refl) (number_plain k h)) (omega (arith, short))

pub script_canonical : (j : ℕ) → j < 2 ^ 64 → is_canonical (script_path j) ≡ true
unfolding script_path
script_canonical j h =
    let short = number_short j h in
    let parts : length (decimal j ++ codes ".sh") ≡ length (decimal j) + 3 = length-append (decimal j) (codes ".sh") in
    plain_path 103 (decimal j ++ codes ".sh") refl (plain_append (codes "g") (decimal j ++ codes ".sh") (plain_by (codes "g") refl) (plain_append (decimal j) (codes ".sh") (number_plain j h) (plain_by (codes ".sh") refl))) (omega (arith, short, parts))

pub rikerfile_canonical : is_canonical (codes "/Rikerfile") ≡ true
rikerfile_canonical = plain_path 82 (codes "ikerfile") refl (plain_by (codes "Rikerfile") refl) (omega arith)
