-- Matches without their groups, and where groups aren't asked for.
use Rattle.std.proofs.Common.{◌≡◌, ℕ, ◌+◌, List, [], ◌∷◌, ◌++◌, Bool, true, false, Option, Some, None, refl, ap, sym, ◌∙◌}
use Rattle.std.specs.Prelude.{◌==◌, IfSome, if◌then◌else◌}
use Rattle.rk_base.specs.Text.{Text}
use Rattle.ut_bre.specs.declared.group.Found.{Found}
use Rattle.ut_bre.specs.declared.group.Span.{Span}
use Rattle.ut_bre.specs.Found.{span_found, with_groups, found_at, found}
use Rattle.ut_bre.specs.Matching.{Matches, Finds}
use Rattle.ut_bre.specs.Trees.{Expression}
use Rattle.ut_bre.proofs.Existing.{found-at}
use Rattle.ut_sed.specs.declared.command.Part.{Part}
use Rattle.ut_sed.specs.declared.command.Part.TheVariants.{Byte, Whole, Group}
use Rattle.ut_sed.specs.Substituting.{part_text, parts_text, name_groups, not_empty_at, next_found}

-- a text that asks for no group is the same, whatever the groups took
pub parts-of_span : (text : Text) (f g : Found) (parts : List Part) → f.start ≡ g.start → f.end ≡ g.end → name_groups parts ≡ false → parts_text text f parts ≡ parts_text text g parts
parts-of_span text f g [] s e n = refl
parts-of_span text f g (Byte b ∷ parts) s e n = ap (λ (t : Text). (b ∷ []) ++ t) (parts-of_span text f g parts s e n)
parts-of_span text f g (Whole ∷ parts) s e n =
    let here : part_text text f Whole ≡ part_text text g Whole = cc in
    let more = parts-of_span text f g parts s e n in
    ap (λ (t : Text). t ++ parts_text text f parts) here ∙ ap (λ (t : Text). part_text text g Whole ++ t) more
parts-of_span text f g (Group k ∷ parts) s e n = absurd (cc)

pub found-span : (e : Expression) (text : Text) (at : ℕ) (span : Option Span) → span ≡ span_found e text at → found_at e text span ≡ found e text at
found-span e text at span h = ap (λ (s : Option Span). found_at e text s) h ∙ sym (found-at e text at)

pub next-none : (e : Expression) (text : Text) (at : ℕ) → None ≡ span_found e text at → found_at e text None ≡ next_found e text at
next-none e text at h = ap (λ (f : Option Found). not_empty_at e text at f) (found-span e text at None h)

pub next-there : (e : Expression) (text : Text) (at : ℕ) (span : Span) → Some span ≡ span_found e text at → (span.end == at) ≡ false → found_at e text (Some span) ≡ next_found e text at
next-there e text at span h n =
    sym (ap (λ (b : Bool). if b then found e text (at + 1) else Some (with_groups e text span)) n) ∙ ap (λ (f : Option Found). not_empty_at e text at f) (found-span e text at (Some span) h)

pub next-behind : (e : Expression) (text : Text) (at : ℕ) (span : Span) (next : Option Span) → Some span ≡ span_found e text at → (span.end == at) ≡ true → next ≡ span_found e text (at + 1) → found_at e text next ≡ next_found e text at
next-behind e text at span next h y k =
    found-span e text (at + 1) next k ∙ (sym (ap (λ (b : Bool). if b then found e text (at + 1) else Some (with_groups e text span)) y) ∙ ap (λ (f : Option Found). not_empty_at e text at f) (found-span e text at (Some span) h))

pub finds-matches : (e : Expression) (text : Text) (from : ℕ) (span : Option Span) → Finds e text from span → IfSome span (λ m. Matches e text m.start m.end)
finds-matches e text from None f = tt
finds-matches e text from (Some span) f = f.matches
