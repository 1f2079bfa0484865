-- Fields in which nothing may make a pattern.
use Rattle.std.proofs.Common.{◌≡◌, ℕ, [], ◌∷◌, ◌++◌, Bool, true, false, not, ◌&&◌, ◌||◌, if◌then◌else◌, refl, ap, ◌∙◌}
use Rattle.std.specs.Prelude.{◌==◌}
use Rattle.std.specs.List.{list_all}
use Rattle.std.proofs.lemmas.List.Folds.{list_all-append}
use Rattle.rk_base.specs.Text.{Text}
use Rattle.sh_pattern.specs.Special.{has_special, unquoted}
use Rattle.sh_split.specs.declared.mark.Mark.TheVariants as mark
use Rattle.sh_split.specs.Cutting.{Marks}
use Rattle.sh_split.specs.Marked.{pattern_of}
use Rattle.sh_expand.specs.declared.glob.Component.TheVariants.{Literal, Pattern}
use Rattle.sh_expand.specs.Fields.{component_of, is_slash_mark, components_from, components, is_pattern, has_pattern, is_plain_byte, is_plain}

both : (a b : Bool) → (a && b) ≡ true → (a ≡ true) × (b ≡ true)
both true b h = (refl, h)
both false b h = cc

none : (w x y z : Bool) → not (w || x || y || z) ≡ true → (w ≡ false) × (x ≡ false) × (y ≡ false) × (z ≡ false)
none false false false false h = (refl, refl, refl, refl)
none true x y z h = cc
none false true y z h = cc
none false false true z h = cc
none false false false true h = cc

passed : (b : ℕ) (bs : Text) → is_plain_byte b ≡ true → has_special (b ∷ bs) ≡ has_special bs
passed b [] h = let f = none (b == 42) (b == 63) (b == 91) (b == 92) h in rw (f.0, f.1, f.2) refl
passed b (c ∷ cs) h = let f = none (b == 42) (b == 63) (b == 91) (b == 92) h in rw (f.3, f.0, f.1, f.2) refl

not_special : (ms : Marks) → list_all is_plain ms ≡ true → has_special (pattern_of ms) ≡ false
not_special [] h = refl
not_special (mark.Literal b ∷ ms) h = let e = both _ _ h in passed b (pattern_of ms) e.0 ∙ not_special ms e.1
not_special (mark.Quoted b ∷ ms) h = not_special ms (both _ _ h).1
not_special (mark.Given b ∷ ms) h = let e = both _ _ h in passed b (pattern_of ms) e.0 ∙ not_special ms e.1
not_special (mark.Quote ∷ ms) h = not_special ms h
not_special (mark.Break ∷ ms) h = not_special ms h

no_component : (ms : Marks) → list_all is_plain ms ≡ true → is_pattern (component_of (pattern_of ms)) ≡ false
no_component ms h = ap (λ (b : Bool). is_pattern (if b then Pattern (pattern_of ms) else Literal (unquoted (pattern_of ms)))) (not_special ms h)

none_from : (piece ms : Marks) → list_all is_plain piece ≡ true → list_all is_plain ms ≡ true → has_pattern (components_from piece ms) ≡ false
none_from piece [] h k = ap (λ (b : Bool). b || false) (no_component piece h)
none_from piece (m ∷ ms) h k =
    let e = both (is_plain m) (list_all is_plain ms) k in
    let more : list_all is_plain (piece ++ m ∷ []) ≡ true = list_all-append is_plain piece (m ∷ []) ∙ ap (λ (b : Bool). b && (is_plain m && true)) h ∙ ap (λ (b : Bool). b && true) e.0 in
    elim (is_slash_mark m) as (λ (b : Bool). has_pattern (if b then component_of (pattern_of piece) ∷ components_from [] ms else components_from (piece ++ m ∷ []) ms) ≡ false) [
      | true ↦ ap (λ (b : Bool). b || has_pattern (components_from [] ms)) (no_component piece h) ∙ none_from [] ms refl e.1
      | false ↦ none_from (piece ++ m ∷ []) ms more e.1
    ]

pub no_pattern : (field : Marks) → list_all is_plain field ≡ true → has_pattern (components field) ≡ false
no_pattern field h = none_from [] field refl h
