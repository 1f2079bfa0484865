-- An empty text has no more fields.
use Rattle.std.proofs.Common.{◌≡◌, ℕ, zero, suc, ◌≤◌, [], ◌∷◌, length, refl, ap, ◌∙◌, arith}
use Rattle.std.specs.Prelude.{Option, Some, None}
use Rattle.rk_base.specs.Text.{Text}
use Rattle.ut_sort.specs.Fields.{after_field, after_fields}

no_field : (delimiter : Option ℕ) → after_field delimiter [] ≡ []
no_field None = refl
no_field (Some c) = refl

no_fields : (delimiter : Option ℕ) (n : ℕ) → after_fields delimiter n [] ≡ []
no_fields delimiter zero = refl
no_fields delimiter (suc n) = ap (after_fields delimiter n) (no_field delimiter) ∙ no_fields delimiter n

pub after_none : (delimiter : Option ℕ) (n : ℕ) (text : Text) → length text ≤ 0 → after_fields delimiter n text ≡ text
after_none delimiter n [] h = no_fields delimiter n
after_none delimiter n (b ∷ bs) h = absurd (omega arith)
