-- `tr` without deletion and squeezing.
use Rattle.std.proofs.Common.{◌≡◌, ℕ, List, [], ◌∷◌, map, true, false, refl, sym, ap, ◌∙◌}
use Rattle.std.specs.Prelude.{Option, Some, None, not, ◌==◌, ◌&&◌, if◌then◌else◌}
use Rattle.std.specs.List.{filter}
use Rattle.rk_base.specs.Canonical.{is_empty}
use Rattle.rk_base.specs.Text.{Text}
use Rattle.ut_select.specs.Sets.{is_member}
use Rattle.ut_select.specs.Trs.{TrValue, image, squeeze, tr_text}

-- nothing is squeezed
unsqueezed : (last : Option ℕ) (text : Text) → squeeze [] last text ≡ text
unsqueezed last [] = refl
unsqueezed None (c ∷ cs) = ap (λ z. c ∷ z) (unsqueezed (Some c) cs)
unsqueezed (Some b) (c ∷ cs) =
    elim (c == b) as (λ k. (if k && false then squeeze [] (Some b) cs else c ∷ squeeze [] (Some c) cs) ≡ c ∷ cs) [
      | true ↦ ap (λ z. c ∷ z) (unsqueezed (Some c) cs)
      | false ↦ ap (λ z. c ∷ z) (unsqueezed (Some c) cs)
    ]

-- nothing is deleted
undeleted : (text : Text) → filter (λ c. not (is_member [] c)) text ≡ text
undeleted [] = refl
undeleted (c ∷ cs) = ap (λ z. c ∷ z) (undeleted cs)

mapped : (deleted squeezed : List ℕ) (f : ℕ → ℕ) (text : Text) → (is_empty deleted && is_empty squeezed) ≡ true → squeeze squeezed None (map f (filter (λ c. not (is_member deleted c)) text)) ≡ map f text
mapped [] [] f text h = unsqueezed None (map f (filter (λ c. not (is_member [] c)) text)) ∙ ap (map f) (undeleted text)
mapped [] (b ∷ bs) f text h = cc
mapped (b ∷ bs) squeezed f text h = cc

-- where nothing is deleted or squeezed, each byte becomes its image
pub translated : (t : TrValue) (text output : Text) → output ≡ map (image t.from t.to) text → (is_empty t.deleted && is_empty t.squeezed) ≡ true → output ≡ tr_text t text
translated t text output e h = e ∙ sym (mapped t.deleted t.squeezed (image t.from t.to) text h)
