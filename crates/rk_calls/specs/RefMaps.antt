-- What a launched command's descriptors stand for.
use Rattle.std.specs.Prelude.{ℕ, List, [], ◌∷◌, Bool, true, ◌&&◌, ◌==◌, nat_lt, if◌then◌else◌, Option, Some, None}

abbrev pub rise_from : ℕ → List (ℕ × ℕ) → Bool
rise_from last [] = true
rise_from last (p ∷ ps) = nat_lt last p.0 && nat_lt p.0 10 && rise_from p.0 ps

-- descriptors 0 to 9, strictly ascending, each with a number
unfoldable pub is_refmap : List (ℕ × ℕ) → Bool
is_refmap [] = true
is_refmap (p ∷ ps) = nat_lt p.0 10 && rise_from p.0 ps

-- the number that a descriptor stands for
abbrev pub number_of : ℕ → List (ℕ × ℕ) → Option ℕ
number_of d [] = None
number_of d (p ∷ ps) = if p.0 == d then Some p.1 else number_of d ps
