-- How long a field is by its width, and how long an output is by its parts.
use Rattle.std.proofs.Common.{◌≡◌, ℕ, zero, suc, ◌+◌, ◌-◌, ◌*◌, max, List, [], ◌∷◌, ◌++◌, codes, drop, take, replicate, length, slice_get, Bool, true, false, not, ◌&&◌, Option, Some, None, if◌then◌else◌, refl, sym, ap, ◌∙◌, arith, length-append, add_comm}
use Rattle.std.proofs.lemmas.List.{length-replicate}
use Rattle.std.proofs.Math.Nat.{sub-add-eq-max}
use Rattle.std.specs.Fmt.{digits, decimal}
use Rattle.rk_base.specs.Text.{Text}
use Rattle.sh_operands.specs.declared.format.Conversion.{Conversion}
use Rattle.sh_operands.specs.declared.format.Specifier.{Specifier}
use Rattle.sh_operands.specs.declared.format.Specifier.TheVariants as specifier
use Rattle.sh_operands.specs.declared.format.Piece.{Piece}
use Rattle.sh_operands.specs.declared.format.Piece.TheVariants.{Literal, Converted}
use Rattle.sh_operands.specs.declared.length.Measure.{Measure}
use Rattle.sh_operands.specs.Elements.{specifier_takes}
use Rattle.sh_operands.specs.Lengths.{measure_of, counted, measured, measures}
use Rattle.sh_operands.specs.Made.{MadeValue, with_text}
use Rattle.sh_operands.specs.Numbers.{number}
use Rattle.sh_operands.specs.Passes.{passes}
use Rattle.sh_operands.specs.Printed.{padded, zero_filled, filled, number_in, is_none, with_bad_in, sign_of, in_64_bits, text_in, converted, is_numeric, converts, pass}

max_nought : (n : ℕ) → max 0 n ≡ n
max_nought n = sym (sub-add-eq-max 0 n) ∙ omega arith

length_padded : (left : Bool) (w : ℕ) (t : Text) → length (padded left w t) ≡ max w (length t)
length_padded true w t = length-append t (replicate (w - length t) 32) ∙ ap (λ n. length t + n) (length-replicate (w - length t) 32) ∙ add_comm (length t) (w - length t) ∙ sub-add-eq-max w (length t)
length_padded false w t = length-append (replicate (w - length t) 32) t ∙ ap (λ n. n + length t) (length-replicate (w - length t) 32) ∙ sub-add-eq-max w (length t)

between : (s n d : ℕ) → (s + n) + d ≡ n + (s + d)
between s n d = omega arith

three : (s zs ds : Text) → length (s ++ zs ++ ds) ≡ length zs + (length s + length ds)
three s zs ds = length-append (s ++ zs) ds ∙ ap (λ n. n + length ds) (length-append s zs) ∙ between (length s) (length zs) (length ds)

length_zero_filled : (w : ℕ) (s ds : Text) → length (zero_filled w s ds) ≡ max w (length s + length ds)
length_zero_filled w s ds =
    three s (replicate (w - (length s + length ds)) 48) ds
    ∙ ap (λ n. n + (length s + length ds)) (length-replicate (w - (length s + length ds)) 48)
    ∙ sub-add-eq-max w (length s + length ds)

length_chosen : (zeros left : Bool) (w : ℕ) (s ds : Text) → length (if zeros then zero_filled w s ds else padded left w (s ++ ds)) ≡ max w (length s + length ds)
length_chosen true left w s ds = length_zero_filled w s ds
length_chosen false left w s ds = length_padded left w (s ++ ds) ∙ ap (max w) (length-append s ds)

narrowed : (w n a b : ℕ) → a ≡ max w n → b ≡ max 0 n → a ≡ max w b
narrowed w n a b e f = e ∙ ap (max w) (sym (f ∙ max_nought n))

padded_alike : (c : Conversion) (t : Text) → length (padded c.left c.width t) ≡ max c.width (length (padded c.left 0 t))
padded_alike c t = narrowed c.width (length t) _ _ (length_padded c.left c.width t) (length_padded c.left 0 t)

filled_alike : (c : Conversion) (s ds : Text) → length (filled c s ds) ≡ max c.width (length (filled (record c { width = 0 }) s ds))
filled_alike c s ds = narrowed c.width (length s + length ds) _ _ (length_chosen (c.zero && not c.left) c.left c.width s ds) (length_chosen (c.zero && not c.left) c.left 0 s ds)

-- a field is as long as without its width, or as its width
pub widened : (k : Specifier) (c : Conversion) (operand : Option Text) → length (converted k c operand) ≡ max c.width (length (converted k (record c { width = 0 }) operand))
widened specifier.Text c operand = padded_alike c (text_in operand)
widened specifier.Byte c operand = padded_alike c (take 1 (text_in operand))
widened specifier.Percent c operand = padded_alike c (codes "%")
widened specifier.Decimal c operand = filled_alike c (sign_of (number_in operand)) (decimal (number_in operand).magnitude)
widened specifier.Octal c operand = filled_alike c [] (digits 8 false (in_64_bits (number_in operand)))
widened specifier.Hexadecimal c operand = filled_alike c [] (digits 16 false (in_64_bits (number_in operand)))

-- Outputs.

abbrev told_of : List Text → MadeValue
told_of bad = record { output = []; bad = bad }

longer_by : (made : MadeValue) (t : Text) (told : MadeValue) → ◌≡◌ {A = Measure} (record { bytes = length (made.output ++ t); told = told }) (record { bytes = length made.output + length t; told = told })
longer_by made t told = ap (λ (n : ℕ). record { bytes = n; told = told }) (length-append made.output t)

noted_alike : (b : Bool) (operand : Option Text) (t : Text) (made : MadeValue) → ◌≡◌ {A = Measure} (measure_of (with_text t (if b then with_bad_in operand made else made))) (record { bytes = length made.output + length t; told = if b then with_bad_in operand (told_of made.bad) else told_of made.bad })
noted_alike false operand t made = longer_by made t (told_of made.bad)
noted_alike true None t made = longer_by made t (told_of made.bad)
noted_alike true (Some word) t made = elim (is_none (number word)) as (λ (b : Bool). ◌≡◌ {A = Measure} (measure_of (with_text t (if b then record made { bad = made.bad ++ word ∷ [] } else made))) (record { bytes = length made.output + length t; told = if b then told_of (made.bad ++ word ∷ []) else told_of made.bad })) [
  | true ↦ longer_by made t (told_of (made.bad ++ word ∷ []))
  | false ↦ longer_by made t (told_of made.bad)
]

converts_alike : (c : Conversion) (operand : Option Text) (made : MadeValue) → measure_of (converts c operand made) ≡ counted c operand (measure_of made)
converts_alike c operand made = noted_alike (is_numeric c.specifier) operand (converted c.specifier c operand) made

pass_alike : (ps : List Piece) (operands : List Text) (made : MadeValue) → measure_of (pass ps operands made) ≡ measured ps operands (measure_of made)
pass_alike [] operands made = refl
pass_alike (Literal b ∷ ps) operands made = pass_alike ps operands (with_text (b ∷ []) made) ∙ ap (measured ps operands) (longer_by made (b ∷ []) (told_of made.bad))
pass_alike (Converted c ∷ ps) operands made = elim (specifier_takes c.specifier) as (λ (b : Bool). measure_of (if b then pass ps (drop 1 operands) (converts c (slice_get operands 0) made) else pass ps operands (converts c None made)) ≡ (if b then measured ps (drop 1 operands) (counted c (slice_get operands 0) (measure_of made)) else measured ps operands (counted c None (measure_of made)))) [
  | true ↦ pass_alike ps (drop 1 operands) (converts c (slice_get operands 0) made) ∙ ap (measured ps (drop 1 operands)) (converts_alike c (slice_get operands 0) made)
  | false ↦ pass_alike ps operands (converts c None made) ∙ ap (measured ps operands) (converts_alike c None made)
]

-- the output of so many passes is as long as they were measured
pub measures_of : (i n : ℕ) (ps : List Piece) (operands : List Text) → measure_of (passes i n ps operands) ≡ measures i n ps operands
measures_of zero n ps operands = refl
measures_of (suc i) n ps operands = pass_alike ps (drop (i * n) operands) (passes i n ps operands) ∙ ap (measured ps (drop (i * n) operands)) (measures_of i n ps operands)
