-- What `cmp` makes.
use Rattle.std.specs.Prelude.{ℕ, ◌+◌, List, [], ◌∷◌, ◌++◌, codes, length, count_by, None, Result, Ok, Err, ◌==◌, if◌then◌else◌}
use Rattle.std.specs.Fmt.{decimal}
use Rattle.rk_base.specs.Text.{Text}
use Rattle.rk_base.specs.declared.errno.Errno.{Errno}
use Rattle.ut_filter.specs.declared.made.Input.{Input}
use Rattle.ut_filter.specs.declared.made.Made.{Made}
use Rattle.ut_filter.specs.Filters.{Job}
use Rattle.ut_filter.specs.Refusals.{refusals}
use Rattle.ut_text.specs.declared.cmp.Cmp.{Cmp}

-- the beginning that two texts have in common
abbrev pub common : Text → Text → Text
common [] bs = []
common (a ∷ as') [] = []
common (a ∷ as') (b ∷ bs) = if a == b then a ∷ common as' bs else []

-- ` differ: char N, line M`
abbrev pub place_line : ℕ → ℕ → Text
place_line char line = codes " differ: char " ++ decimal char ++ codes ", line " ++ decimal line ++ 10 ∷ []

-- `A B differ: char N, line M`, where this much is common
abbrev pub difference : Text → Text → Text → Text
difference a b same = (a ++ 32 ∷ []) ++ b ++ place_line (length same + 1) (count_by (λ c. c == 10) same + 1)

-- `cmp: EOF on F`, where a text is the beginning of the other
abbrev pub end_line : Text → Text
end_line file = codes "cmp: EOF on " ++ file ++ 10 ∷ []

-- `-s` is silent
abbrev pub unless : Cmp → Text → Text
unless c text = if c.silent then [] else text

abbrev pub differing : Cmp → Text → Text → Made
differing c output errors = record { output = unless c output; errors = unless c errors; status = 1 }

-- the texts of two operands, of which this is common
abbrev pub verdict : Cmp → Text → Text → Text → Text → Text → Made
verdict c a b x y same =
    if length same == length x
    then (if length same == length y then record { output = []; errors = []; status = 0 } else differing c [] (end_line a))
    else (if length same == length y then differing c [] (end_line b) else differing c (difference a b same) [])

-- nothing is compared where one was refused
abbrev pub compared : Cmp → List Input → Text → Text → Result Text Errno → Result Text Errno → Made
compared c inputs a b (Ok x) (Ok y) = verdict c a b x y (common x y)
compared c inputs a b (Ok x) (Err errno) = record { output = []; errors = refusals (codes "cmp") inputs; status = 2 }
compared c inputs a b (Err errno) r = record { output = []; errors = refusals (codes "cmp") inputs; status = 2 }

-- it has two inputs
abbrev pub cmp_makes : Cmp → List Input → Made
cmp_makes c [] = record { output = []; errors = []; status = 2 }
cmp_makes c (a ∷ []) = record { output = []; errors = []; status = 2 }
cmp_makes c (a ∷ b ∷ more) = compared c (a ∷ b ∷ more) a.operand b.operand a.brought b.brought

abbrev pub cmp_job : Cmp → Job
cmp_job c = record { name = codes "cmp"; failed = 2; out = None; makes = cmp_makes c }
