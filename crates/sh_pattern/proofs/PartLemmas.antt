-- The parts of a pattern, one after another.
use Rattle.std.proofs.Common.{◌≡◌, ℕ, zero, suc, [], ◌∷◌, drop, refl, ap, ◌∙◌}
use Rattle.rk_base.specs.Text.{Text}
use Rattle.sh_pattern.specs.declared.part.First.{First as FirstOf}
use Rattle.sh_pattern.specs.Parts.{parts, parts_from, first_of, AsFirst, Begins}

parts-skip : (skip : ℕ) (text : Text) → parts_from skip text ≡ parts_from 0 (drop skip text)
parts-skip zero text = refl
parts-skip (suc skip) [] = refl
parts-skip (suc skip) (b ∷ bs) = parts-skip skip bs

pub begins : (rest : Text) (c : ℕ) (text : Text) (b : ℕ) (told : FirstOf) → rest ≡ c ∷ text → AsFirst b (first_of c text) told → Begins b (parts rest) told.part (parts (drop told.more text))
begins rest c text b told e h =
    ((first_of c text).part, h.part, ap (parts_from 0) e ∙ ap (λ ps. (first_of c text).part ∷ ps) (parts-skip (first_of c text).more text ∙ moved))
  where
    moved : parts_from 0 (drop (first_of c text).more text) ≡ parts_from 0 (drop told.more text)
    moved = rw h.more refl
