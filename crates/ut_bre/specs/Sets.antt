-- What a bracket expression reads as (XBD 9.3.5).
use Rattle.std.specs.Prelude.{ℕ, zero, suc, ◌+◌, ◌-◌, ◌==◌, ◌&&◌, ◌||◌, not, nat_lt, drop, List, [], ◌∷◌, ◌++◌, Bool, true, false, Option, Some, None, Result, Ok, Err, if◌then◌else◌}
use Rattle.rk_base.specs.Text.{Text}
use Rattle.sh_pattern.specs.declared.class.Class.{Class}
use Rattle.ut_bre.specs.declared.fault.Fault.{Fault}
use Rattle.ut_bre.specs.declared.fault.Fault.TheVariants.{Wrong, Unclosed}
use Rattle.ut_bre.specs.declared.set.Listed.{Listed}
use Rattle.ut_bre.specs.declared.set.Listed.TheVariants.{Named, Range}
use Rattle.ut_bre.specs.Brackets.{Listing}
use Rattle.sh_pattern.specs.Classes.{class_at}

-- a part that was read, and how many bytes it takes; or what is wrong
abbrev pub Part : Type 0 → Type 0
Part A = Result (A × ℕ) Fault

-- whether a text begins with these two bytes
abbrev pub begins : ℕ → ℕ → Text → Bool
begins a b [] = false
begins a b (c ∷ []) = false
begins a b (c ∷ d ∷ rest) = (c == a) && (d == b)

-- whether a `-` and a high end stand at the front of this text: a `]` is none
abbrev pub starts_range : Text → Bool
starts_range [] = false
starts_range (d ∷ []) = false
starts_range (d ∷ c ∷ rest) = (d == 45) && not (c == 93)

-- `start` is where the bracket stands, `at` where this text does.

-- a class, behind its `[`: it ends no range and begins none
abbrev pub class_part : ℕ → Text → Option (Class × ℕ) → Part Listed
class_part start rest None = Err (Wrong start)
class_part start rest (Some class) = if starts_range (drop class.1 rest) then Err (Wrong start) else Ok (Named class.0, class.1 + 1)

-- the high end of a range, at this place
abbrev pub high_part : ℕ → ℕ → ℕ → Text → Part Listed
high_part start at low [] = Err (Unclosed start)
high_part start at low (high ∷ rest) =
    if begins 91 46 (high ∷ rest) || begins 91 61 (high ∷ rest) then Err (Wrong at) else (if begins 91 58 (high ∷ rest) || nat_lt high low then Err (Wrong start) else Ok (Range low high, 3))

-- what a bracket expression lists next, of which this is the first byte: `[.` and `[=` are not taken
abbrev pub listed_part : ℕ → ℕ → ℕ → Text → Part Listed
listed_part start at b rest =
    if begins 91 46 (b ∷ rest) || begins 91 61 (b ∷ rest) then Err (Wrong at) else (if begins 91 58 (b ∷ rest) then class_part start rest (class_at rest) else (if starts_range rest then high_part start (at + 2) b (drop 1 rest) else Ok (Range b b, 1)))

-- a `]` that comes first is listed
abbrev pub closes : ℕ → List Listed → Bool
closes b [] = false
closes b (l ∷ ls) = b == 93

abbrev pub listing : Bool → List Listed → Listing
listing negated listed = record { negated = negated; listed = listed; folded = false }

-- The bracket that lists these so far; the first bytes of the text belong to what was listed last. The size counts from the
-- place `from`.
abbrev pub bracket_from : Bool → ℕ → ℕ → ℕ → List Listed → ℕ → Text → Part Listing
bracket_from negated start from at listed skip [] = Err (Unclosed start)
bracket_from negated start from at listed (suc skip) (b ∷ rest) = bracket_from negated start from (at + 1) listed skip rest
bracket_from negated start from at listed zero (b ∷ rest) = if closes b listed then Ok (listing negated listed, at + 1 - from) else elim (listed_part start at b rest) as (λ p. Part Listing) [ Ok part ↦ bracket_from negated start from (at + 1) (listed ++ part.0 ∷ []) (part.1 - 1) rest | Err fault ↦ Err fault ]

-- what stands behind a `[` at this place, and how many bytes the whole takes
abbrev pub bracket_at : ℕ → Text → Part Listing
bracket_at start [] = Err (Unclosed start)
bracket_at start (b ∷ rest) = if b == 94 then bracket_from true start start (start + 2) [] 0 rest else bracket_from false start start (start + 1) [] 0 (b ∷ rest)
