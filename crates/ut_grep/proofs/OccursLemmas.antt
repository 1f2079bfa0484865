-- A pattern occurs in a text exactly where it stands at some place.
use Rattle.std.proofs.Common.{◌≡◌, ℕ, zero, suc, ◌+◌, ◌-◌, ◌≤◌, ◌<◌, [], ◌∷◌, length, drop, take, Bool, true, false, refl, ap, ◌∙◌, arith, min, length-drop}
use Rattle.std.proofs.lemmas.List.{length-take}
use Rattle.std.proofs.lemmas.Slice.Eq.{bytes_eq-Decides}
use Rattle.std.specs.Prelude.{◌||◌}
use Rattle.rk_base.specs.Text.{Text, begins_with}
use Rattle.memchr.specs.Find.{OccursAt, Nowhere}
use Rattle.memchr.proofs.lemmas.MatchLemmas.{OccursAt-part, OccursAt-from_part}
use Rattle.ut_grep.specs.Greps.{occurs}

not_true : (b : Bool) → (b ≡ true → ⊥) → b ≡ false
not_true b h = elim b as (λ v. (v ≡ true → ⊥) → v ≡ false) [ true ↦ (λ k. absurd (k refl)) | false ↦ (λ k. refl) ] h

or_right : (a b : Bool) → b ≡ true → a || b ≡ true
or_right a b h = elim a as (λ v. v || b ≡ true) [ true ↦ refl | false ↦ h ]

or_left : (a b : Bool) → a ≡ true → a || b ≡ true
or_left a b h = ap (λ v. v || b) h

begins_occurs : (pattern text : Text) → begins_with text pattern ≡ true → occurs pattern text ≡ true
begins_occurs pattern [] h = h
begins_occurs pattern (b ∷ bs) h = or_left _ _ h

pub occurs_below : (pattern text : Text) (k : ℕ) → k ≤ length text → begins_with (drop k text) pattern ≡ true → occurs pattern text ≡ true
occurs_below pattern text zero le h = begins_occurs pattern text h
occurs_below pattern [] (suc k) le h = absurd (omega arith)
occurs_below pattern (b ∷ bs) (suc k) le h = or_right (begins_with (b ∷ bs) pattern) _ (occurs_below pattern bs k (omega arith) h)

pub occurs_nowhere : (pattern text : Text) → ((k : ℕ) → k ≤ length text → begins_with (drop k text) pattern ≡ false) → occurs pattern text ≡ false
occurs_nowhere pattern [] h = h 0 (omega arith)
occurs_nowhere pattern (b ∷ bs) h = ap (λ v. v || occurs pattern bs) (h 0 (omega arith)) ∙ occurs_nowhere pattern bs (λ k le. h (suc k) (omega arith))

fits : (pattern text : Text) (k : ℕ) → k ≤ length text → take (length pattern) (drop k text) ≡ pattern → k + length pattern ≤ length text
fits pattern text k le e =
    let l : length (take (length pattern) (drop k text)) ≡ length pattern = ap length e in
    let m : length (take (length pattern) (drop k text)) ≡ min (length pattern) (length (drop k text)) = length-take (length pattern) (drop k text) in
    let n : length (drop k text) ≡ length text - k = length-drop k text in
    omega (arith, l, m, n)

pub begins-occurs_at : (pattern text : Text) (k : ℕ) → k ≤ length text → begins_with (drop k text) pattern ≡ true → OccursAt text pattern k
begins-occurs_at pattern text k le h =
    let e = (bytes_eq-Decides (take (length pattern) (drop k text)) pattern).0 h in
    OccursAt-from_part text pattern k (fits pattern text k le e) e

pub occurs_at-begins : (pattern text : Text) (k : ℕ) → OccursAt text pattern k → begins_with (drop k text) pattern ≡ true
occurs_at-begins pattern text k h = (bytes_eq-Decides (take (length pattern) (drop k text)) pattern).1 (OccursAt-part text pattern k h)

pub nowhere : (pattern text : Text) → Nowhere (OccursAt text pattern) 0 (length text + 1) → occurs pattern text ≡ false
nowhere pattern text h = occurs_nowhere pattern text (λ k le. not_true _ (λ b. h k (omega arith) (omega arith) (begins-occurs_at pattern text k le b)))

pub somewhere : (pattern text : Text) (k : ℕ) → k < length text + 1 → OccursAt text pattern k → occurs pattern text ≡ true
somewhere pattern text k lt h = occurs_below pattern text k (omega arith) (occurs_at-begins pattern text k h)
