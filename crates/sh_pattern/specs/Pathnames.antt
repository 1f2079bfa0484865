-- The paths of components and of names that fit a pattern (XCU 2.13.3).
use Rattle.std.specs.Prelude.{List, [], ◌∷◌, ◌++◌, Bool, true, false, ◌==◌, ◌&&◌, take, length, ◌-◌, if◌then◌else◌}
use Rattle.rk_base.specs.Text.{Text}
use Rattle.sh_pattern.specs.Decided.{is_matched}

-- a prefix ends with the slash that joins it to the next component; the last component has none
abbrev pub joined : Bool → Text → Text → Text
joined last prefix name = if last then prefix ++ name else (prefix ++ name) ++ 47 ∷ []

abbrev pub begins_period : Text → Bool
begins_period [] = false
begins_period (b ∷ []) = b == 46
begins_period (b ∷ c ∷ cs) = if b == 92 then c == 46 else b == 46

abbrev pub is_hidden : Text → Bool
is_hidden [] = false
is_hidden (b ∷ bs) = b == 46

-- a leading period is matched by a literal one alone
abbrev pub fits_name : Text → Text → Bool
fits_name pattern name = (if is_hidden name then begins_period pattern else true) && is_matched pattern name

-- the paths of the names that fit
abbrev pub matching : Bool → Text → Text → List Text → List Text
matching last pattern prefix [] = []
matching last pattern prefix (name ∷ names) = if fits_name pattern name then joined last prefix name ∷ matching last pattern prefix names else matching last pattern prefix names

-- a prefix as a directory: without the slash that joins it; the empty one is the working directory
abbrev pub without_last : Text → Text
without_last [] = []
without_last (b ∷ []) = b ∷ []
without_last (b ∷ c ∷ cs) = take (length (b ∷ c ∷ cs) - 1) (b ∷ c ∷ cs)

-- a literal component is added to each prefix without a call
abbrev pub put_all : Bool → Text → List Text → List Text
put_all last value [] = []
put_all last value (prefix ∷ more) = joined last prefix value ∷ put_all last value more
