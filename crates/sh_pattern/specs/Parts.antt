-- The parts of a pattern.
use Rattle.std.specs.Prelude.{◌≡◌, ℕ, zero, suc, ◌+◌, ◌==◌, List, [], ◌∷◌, Option, Some, None, Bool, true, false, not, if◌then◌else◌}
use Rattle.rk_base.specs.Text.{Text}
use Rattle.sh_pattern.specs.declared.part.Part.{Part as PartOf}
use Rattle.sh_pattern.specs.declared.part.Part.TheVariants.{Star as Run, One as Single}
use Rattle.sh_pattern.specs.declared.part.First.{First as FirstOf}
use Rattle.sh_pattern.specs.Sets.{Set, set_of, in_items, value, extra}

-- any bytes, or one byte that meets a test
pub data Part : Type 0 where
  Star : Part
  One : (meets : ℕ → Bool) → Part

abbrev pub any_byte : Part
any_byte = One (λ b. true)

abbrev pub byte : ℕ → Part
byte c = One (λ b. b == c)

abbrev pub in_set : Bool → Set → Part
in_set true set = One (λ b. not (in_items set.items b))
in_set false set = One (in_items set.items)

-- A part that begins a pattern, and how many bytes it takes beyond the first.
pub record First : Type 0 where
  pub part : Part
  pub more : ℕ

-- where no `]` closes it, the `[` is an ordinary byte, and what comes after it is read by itself
abbrev pub bracket_or : Bool → ℕ → Option Set → First
bracket_or negated before (Some set) = record { part = in_set negated set; more = before + set.close + 1 }
bracket_or negated before None = record { part = byte 91; more = 0 }

abbrev pub bracket : Text → First
bracket [] = record { part = byte 91; more = 0 }
bracket (b ∷ bs) = if b == 33 then bracket_or true 1 (set_of bs) else bracket_or false 0 (set_of (b ∷ bs))

-- the part that begins with this byte and this text
unfoldable pub first_of : ℕ → Text → First
first_of b bs =
    if b == 42 then record { part = Star; more = 0 } else (if b == 63 then record { part = any_byte; more = 0 } else (if b == 91 then bracket bs else record { part = byte (value b bs); more = extra b bs }))

-- the parts of what is left of a pattern, where some bytes belong to the part before
abbrev pub parts_from : ℕ → Text → List Part
parts_from skip [] = []
parts_from (suc skip) (b ∷ bs) = parts_from skip bs
parts_from zero (b ∷ bs) = (first_of b bs).part ∷ parts_from (first_of b bs).more bs

abbrev pub parts : Text → List Part
parts = parts_from 0

-- A part as the code tells it of a byte b.
abbrev pub AsPart : ℕ → Part → PartOf → Type 0
AsPart b Star Run = Unit {0}
AsPart b Star (Single met) = ⊥
AsPart b (One meets) Run = ⊥
AsPart b (One meets) (Single met) = met ≡ meets b

pub record AsFirst (b : ℕ) (first : First) (told : FirstOf) : Type 0 where
  pub part : AsPart b first.part told.part
  pub more : told.more ≡ first.more

-- these parts begin with what is told, and are these after it
abbrev pub Begins : ℕ → List Part → PartOf → List Part → Type 0
Begins b ps told rest = (part : Part) × AsPart b part told × (ps ≡ part ∷ rest)
