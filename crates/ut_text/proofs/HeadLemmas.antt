-- How long the output of `head` is.
use Rattle.std.proofs.Common.{◌≡◌, ℕ, suc, ◌+◌, List, [], ◌∷◌, ◌++◌, length, Bool, true, false, Ok, Err, Result, inl, inr, refl, ap, ◌∙◌, arith, length-append}
use Rattle.std.proofs.lemmas.Bool.Decides.{eqb_tells}
use Rattle.std.specs.Prelude.{◌==◌, codes, if◌then◌else◌}
use Rattle.rk_base.specs.Text.{Text}
use Rattle.rk_base.specs.declared.errno.Errno.{Errno}
use Rattle.ut_filter.specs.declared.made.Input.{Input}
use Rattle.ut_text.specs.declared.head.Head.{Head}
use Rattle.ut_text.specs.Heads.{first_lines, header, header_length, part_brought, parts, length_brought, lengths}

one-line : (n : ℕ) → ◌≡◌ {A = ℕ} (if suc n == 0 then 0 else 1) 1
one-line n = elim (eqb_tells (suc n) 0) [ inl e ↦ absurd (omega (arith, e.1)) | inr e ↦ ap {B = ℕ} (λ (t : Bool). if t then 0 else 1) e.0 ]

length-header : (name before : Text) → length (header name before) ≡ header_length name (length before)
length-header name [] =
    let e : length (name ++ codes " <==\n") ≡ length name + 5 = length-append name (codes " <==\n") in
    omega (arith, e)
length-header name (b ∷ bs) =
    let e : length (name ++ codes " <==\n") ≡ length name + 5 = length-append name (codes " <==\n") in
    let t : ◌≡◌ {A = ℕ} (if length (b ∷ bs) == 0 then 0 else 1) 1 = one-line (length bs) in
    omega (arith, e, t)

length-headed : (headed : Bool) (name before lines : Text) → length ((if headed then before ++ header name before else before) ++ lines) ≡ (if headed then length before + header_length name (length before) else length before) + length lines
length-headed true name before lines = omega (arith, length-append (before ++ header name before) lines, length-append before (header name before), length-header name before)
length-headed false name before lines = length-append before lines

length-part : (h : Head) (before operand : Text) (r : Result Text Errno) → length (part_brought h before operand r) ≡ length_brought h (length before) operand r
length-part h before operand (Err errno) = refl
length-part h before operand (Ok bytes) = length-headed h.headed operand before (first_lines h.number bytes)

pub length_parts : (h : Head) (before : Text) (inputs : List Input) → length (parts h before inputs) ≡ lengths h (length before) inputs
length_parts h before [] = refl
length_parts h before (input ∷ inputs) = length_parts h (part_brought h before input.operand input.brought) inputs ∙ ap (λ (n : ℕ). lengths h n inputs) (length-part h before input.operand input.brought)
