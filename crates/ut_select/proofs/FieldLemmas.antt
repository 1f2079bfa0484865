-- The fields of a text, one by one.
use Rattle.std.proofs.Common.{◌≡◌, ℕ, ◌+◌, ◌<◌, ◌≤◌, [], ◌∷◌, length, get_or, Bool, true, false, refl, sym, ap, ◌∙◌, arith}
use Rattle.std.proofs.lemmas.List.Sums.{position_or_len_is}
use Rattle.std.proofs.lemmas.List.Splits.{slice_split_first, slice_split-cons_no}
use Rattle.std.specs.Prelude.{◌==◌, Option, Some, None}
use Rattle.std.specs.List.{position_or_len, before_first, after_first, slice_split, onto_first}
use Rattle.rk_base.specs.Text.{Text}
use Rattle.ut_select.specs.Fields.{fields}

pub not_true : (b : Bool) → (b ≡ true → ⊥) → b ≡ false
not_true b h = elim b as (λ v. (v ≡ true → ⊥) → v ≡ false) [ true ↦ (λ k. absurd (k refl)) | false ↦ (λ k. refl) ] h

abbrev pub left_length : Option Text → ℕ
left_length None = 0
left_length (Some text) = length text + 1

pub place_none : (at : ℕ) (text : Text) → ((k : ℕ) → 0 ≤ k → k < length text → (get_or text k 0 == at) ≡ true → ⊥) → length text ≡ position_or_len (λ b. b == at) text
place_none at text h =
    sym (position_or_len_is (λ b. b == at) text (length text) 0 (omega arith) (λ k lt. not_true _ (h k (omega arith) lt)) (λ lt. absurd (omega arith)))

pub place_some : (at : ℕ) (text : Text) (i : ℕ) → i < length text → ((k : ℕ) → 0 ≤ k → k < i → (get_or text k 0 == at) ≡ true → ⊥) → (get_or text i 0 == at) ≡ true → i ≡ position_or_len (λ b. b == at) text
place_some at text i lt h e =
    sym (position_or_len_is (λ b. b == at) text i 0 (omega arith) (λ k below. not_true _ (h k (omega arith) below)) (λ _. e))

-- the first field, and what is left
pub fields_more : (at : ℕ) (text before after : Text) → position_or_len (λ b. b == at) text < length text → before ≡ before_first (λ b. b == at) text → after ≡ after_first (λ b. b == at) text → fields at text ≡ before ∷ fields at after
fields_more at text before after lt e f =
    slice_split_first (λ b. b == at) text 0 lt ∙ (ap (λ z. z ∷ fields at (after_first (λ b. b == at) text)) (sym e) ∙ ap (λ z. before ∷ fields at z) (sym f))

split_by : (p : ℕ → Bool) (b : ℕ) (bs : Text) (v : Bool) → p b ≡ v → length (b ∷ bs) ≤ position_or_len p (b ∷ bs) → (length bs ≤ position_or_len p bs → slice_split p bs ≡ bs ∷ []) → slice_split p (b ∷ bs) ≡ (b ∷ bs) ∷ []
split_by p b bs true e h on = let k : position_or_len p (b ∷ bs) ≡ 0 = rw e refl in absurd (omega (arith, k, h))
split_by p b bs false e h on =
    let k : position_or_len p (b ∷ bs) ≡ 1 + position_or_len p bs = rw e refl in
    slice_split-cons_no p b bs e ∙ ap (onto_first b) (on (omega (arith, k, h)))

position_or_len_split : (p : ℕ → Bool) (text : Text) → length text ≤ position_or_len p text → slice_split p text ≡ text ∷ []
position_or_len_split p [] h = refl
position_or_len_split p (b ∷ bs) h = split_by p b bs (p b) refl h (position_or_len_split p bs)

-- the last one
pub fields_last : (at : ℕ) (text : Text) → length text ≤ position_or_len (λ b. b == at) text → fields at text ≡ text ∷ []
fields_last at text h = position_or_len_split (λ b. b == at) text h
