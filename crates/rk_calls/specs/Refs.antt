-- Descriptors of a command: 0 to 9 as they were passed, and from 10 on those that it opened. Each is the number of an open description.
use Rattle.std.specs.Prelude.{ℕ, ◌-◌, List, [], ◌∷◌, ◌++◌, map, nat_lt, if◌then◌else◌, Option, Some, None, slice_get}
use Rattle.rk_calls.specs.RefMaps.{number_of}

pub record RefsHeld : Type 0 where
  pub passed : List (Option ℕ)
  pub opened : List ℕ

abbrev pub flat : Option (Option ℕ) → Option ℕ
flat None = None
flat (Some o) = o

-- the description that a number of the command stands for
unfoldable pub ref_at : RefsHeld → ℕ → Option ℕ
ref_at refs r = if nat_lt r 10 then flat (slice_get refs.passed r) else slice_get refs.opened (r - 10)

-- the command's next number stands for this description
abbrev pub with_opened : RefsHeld → ℕ → RefsHeld
with_opened refs d = record refs { opened = refs.opened ++ d ∷ [] }

-- the empty input, the output and the error text
abbrev pub top_refs : RefsHeld
top_refs = record { passed = Some 0 ∷ Some 1 ∷ Some 2 ∷ []; opened = [] }

abbrev pub at_number : RefsHeld → Option ℕ → Option ℕ
at_number refs None = None
at_number refs (Some r) = ref_at refs r

abbrev pub ten : List ℕ
ten = 0 ∷ 1 ∷ 2 ∷ 3 ∷ 4 ∷ 5 ∷ 6 ∷ 7 ∷ 8 ∷ 9 ∷ []

-- the descriptors of a command that is launched with this map; a number that isn't there is left out
unfoldable pub passed_refs : RefsHeld → List (ℕ × ℕ) → RefsHeld
passed_refs refs pairs = record { passed = map (λ d. at_number refs (number_of d pairs)) ten; opened = [] }
