-- What is open at a place, for the law on what isn't closed (`unclosed_is_outermost`).
use Rattle.std.specs.Prelude.{◌≡◌, ◌≤◌, ◌⊎◌, ℕ, List, [], ◌∷◌, ◌++◌}
use Rattle.sh_token.specs.HereDocuments.{Awaited}
use Rattle.sh_token.specs.Places.{Place}
use Rattle.sh_token.specs.Faults.{or_operator}

-- where the operators of the here-documents stand that are awaited
abbrev pub operators_at : List Awaited → List ℕ
operators_at [] = []
operators_at (a ∷ more) = a.at ∷ operators_at more

-- where all of it was opened: quotes, substitutions and braces, here-documents, and what has begun last: a here-document whose
-- delimiter is due, or else what stands at the place
abbrev pub openings : Place → List ℕ
openings p = p.opened ++ (operators_at p.awaited ++ (or_operator p.due p.operator p.at ∷ []))

-- one of them, and none of them before it
abbrev pub IsOneOf : ℕ → List ℕ → Type 0
IsOneOf n [] = ⊥
IsOneOf n (x ∷ xs) = (n ≡ x) ⊎ IsOneOf n xs

abbrev pub AllFrom : ℕ → List ℕ → Type 0
AllFrom n [] = Unit {0}
AllFrom n (x ∷ xs) = (n ≤ x) × AllFrom n xs
