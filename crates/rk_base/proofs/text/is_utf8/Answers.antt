use Rattle.std.proofs.Common.{◌≡◌, ◌∙◌, sym, ℕ, List, Bool, true, false, Result, Ok, Err, MatchResult, is_ok, refl}
use Rattle.std.specs.Str.{IsUtf8, is_utf8}
use Rattle.std.proofs.lemmas.Str.{IsUtf8-from_is_utf8, is_utf8-from_IsUtf8}
use Rattle.rk_base.proofs.text.is_utf8.Goals as goal

told : {S E : Type 0} (r : Result S E) (P : S → Type 0) (Q : E → Type 0) (bs : List ℕ) → MatchResult r (λ s. P s × IsUtf8 bs) (λ e. ¬ (IsUtf8 bs) × Q e) → is_ok r ≡ is_utf8 bs
told (Ok s) P Q bs h = sym (is_utf8-from_IsUtf8 bs h.1)
told (Err e) P Q bs h = (elim (is_utf8 bs) as (λ (b : Bool). is_utf8 bs ≡ b → false ≡ b) [ true ↦ λ k. absurd (h.0 (IsUtf8-from_is_utf8 bs k)) | false ↦ λ k. refl ]) refl

pub returns : goal.returns
returns c = c.is_ok.ensures.value ∙ told c.from_utf8.result _ _ _ c.from_utf8.ensures.cases
