-- Contents by their numbers.
use Rattle.std.specs.Prelude.{◌≡◌, ℕ, List, [], ◌∷◌, ◌++◌, Option, Some, slice_get, if◌then◌else◌}
use Rattle.std.specs.List.{list_any}
use Rattle.rk_base.specs.Text.{Text, same_text}
use Rattle.rk_calls.specs.declared.answer.Answer.{Answer}
use Rattle.rk_calls.specs.declared.answer.Answer.TheVariants as answer

-- a number that stood for bytes stands for the same
abbrev pub Keeps : List Text → List Text → Type 0
Keeps old new = (n : ℕ) (text : Text) → slice_get old n ≡ Some text → slice_get new n ≡ Some text

-- with a content more, unless it is there
abbrev pub with_text : List Text → Text → List Text
with_text texts text = if list_any (same_text text) texts then texts else texts ++ text ∷ []

-- where a number is known for a place of other texts, the same text stands under both
abbrev pub AreKnown : List Text → List (Option ℕ) → List Text → Type 0
AreKnown texts known others = (n m : ℕ) → slice_get known n ≡ Some (Some m) → (text : Text) × (slice_get texts m ≡ Some text) × (slice_get others n ≡ Some text)

-- an answer is the content of this number
abbrev pub IsContent : List Text → ℕ → Answer → Type 0
IsContent texts id it = (text : Text) × (it ≡ answer.Content text) × (slice_get texts id ≡ Some text)
