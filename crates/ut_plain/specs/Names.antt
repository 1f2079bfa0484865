-- What `basename` and `dirname` make of a text.
use Rattle.std.specs.Prelude.{ℕ, ◌+◌, ◌-◌, List, [], ◌∷◌, ◌++◌, codes, take, drop, length, None, Bool, true, false, ◌&&◌, not, if◌then◌else◌}
use Rattle.rk_base.specs.Text.{Text, same_text, is_slash}
use Rattle.rk_base.specs.Canonical.{is_empty}
use Rattle.ut_filter.specs.declared.made.Input.{Input}
use Rattle.ut_filter.specs.declared.made.Made.{Made}
use Rattle.ut_filter.specs.Filters.{Job}
use Rattle.ut_plain.specs.declared.names.Line.{Line}

-- the place after the last byte, from place i on, that is a slash or that is none; or else this place
abbrev pub after_last : Bool → ℕ → ℕ → Text → ℕ
after_last slashes found i [] = found
after_last slashes found i (b ∷ bs) = after_last slashes (if (if slashes then is_slash b else not (is_slash b)) then i + 1 else found) (i + 1) bs

-- without its last slashes
abbrev pub trimmed : Text → Text
trimmed text = take (after_last false 0 0 text) text

-- up to its last slash, and what stands after that
abbrev pub before_name : Text → Text
before_name text = take (after_last true 0 0 text) text

abbrev pub last_name : Text → Text
last_name text = drop (after_last true 0 0 text) text

-- a text that is empty without its last slashes is empty, or slashes alone
abbrev pub slash_of : Text → Text
slash_of text = if is_empty text then [] else 47 ∷ []

-- the last name, without the slashes after it
abbrev pub base : Text → Text
base text = if is_empty (trimmed text) then slash_of text else last_name (trimmed text)

-- where a suffix of this text would begin
abbrev pub before_suffix : Text → Text → ℕ
before_suffix suffix name = length name - length suffix

-- a suffix is taken off that isn't the whole name
abbrev pub without_suffix : Text → Text → Text
without_suffix suffix name =
    if same_text (drop (before_suffix suffix name) name) suffix && not (same_text name suffix) then take (before_suffix suffix name) name else name

-- what stands before the last name; `/` where only slashes do, and `.` where nothing does
abbrev pub or_slash : Text → Text
or_slash text = if is_empty text then 47 ∷ [] else text

abbrev pub dir : Text → Text
dir text =
    if is_empty (trimmed text)
    then (if is_empty text then 46 ∷ [] else 47 ∷ [])
    else (if is_empty (before_name (trimmed text)) then 46 ∷ [] else or_slash (trimmed (before_name (trimmed text))))

-- a line is written, and nothing read
abbrev pub line_makes : Line → List Input → Made
line_makes line inputs = record { output = line.text ++ 10 ∷ []; errors = []; status = 0 }

abbrev pub line_job : Line → Job
line_job line = record { name = if line.is_dir then codes "dirname" else codes "basename"; failed = 1; out = None; makes = line_makes line }
