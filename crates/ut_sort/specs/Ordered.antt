-- A list in order.
use Rattle.std.specs.Prelude.{List, [], ◌∷◌, Bool, if◌then◌else◌}

-- before the first that doesn't come before it
abbrev pub inserted : {X : Type 0} → (X → X → Bool) → X → List X → List X
inserted is_before x [] = x ∷ []
inserted is_before x (y ∷ ys) = if is_before y x then y ∷ inserted is_before x ys else x ∷ y ∷ ys

-- in order; of two that don't come before one another the earlier one stays first
abbrev pub ordered : {X : Type 0} → (X → X → Bool) → List X → List X
ordered is_before [] = []
ordered is_before (x ∷ xs) = inserted is_before x (ordered is_before xs)
