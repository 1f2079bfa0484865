-- What `grep -F` makes.
use Rattle.std.specs.Prelude.{ℕ, ◌+◌, List, [], ◌∷◌, ◌++◌, map, codes, count_by, None, Result, Ok, Err, Bool, true, false, nat_le, nat_lt, ◌&&◌, ◌||◌, not, if◌then◌else◌, ◌==◌, is_some, Option, Some, length}
use Rattle.std.specs.Fmt.{decimal}
use Rattle.std.specs.List.{list_any}
use Rattle.rk_base.specs.Text.{Text, same_text, begins_with}
use Rattle.rk_base.specs.Canonical.{is_empty}
use Rattle.rk_base.specs.declared.errno.Errno.{Errno}
use Rattle.ut_bre.specs.declared.group.Span.{Span}
use Rattle.ut_bre.specs.Found.{span_found}
use Rattle.ut_bre.specs.Trees.{Expression}
use Rattle.ut_filter.specs.declared.made.Input.{Input}
use Rattle.ut_filter.specs.declared.made.Made.{Made}
use Rattle.ut_filter.specs.Filters.{Job, dash}
use Rattle.ut_filter.specs.Lines.{lines_of}
use Rattle.ut_filter.specs.Parts.{part_of}
use Rattle.ut_filter.specs.Refusals.{refusals}

-- a pattern: with `-F` a text, in small letters where case doesn't count, else a basic regular expression
pub data PatternValue : Type 0 where
  fixed : (text : Text) → PatternValue
  basic : (e : Expression) → PatternValue

-- How `grep` selects and tells: the patterns; whether letters count in either case (`-i`), lines that hold no pattern are
-- selected (`-v`), a pattern must be the whole line (`-x`); whether it tells numbers of lines (`-n`), counts (`-c`), names
-- (`-l`) or nothing (`-q`); and whether there are several inputs.
pub record GrepValue : Type 0 where
  pub patterns : List PatternValue
  pub folded : Bool
  pub inverted : Bool
  pub whole : Bool
  pub numbered : Bool
  pub counted : Bool
  pub listed : Bool
  pub quiet : Bool
  pub many : Bool

abbrev pub lower : ℕ → ℕ
lower b = if nat_le 65 b && nat_le b 90 then b + 32 else b

-- in small letters where case doesn't count
abbrev pub folded : Bool → Text → Text
folded false text = text
folded true text = map lower text

-- whether a pattern stands at some place of a text
abbrev pub occurs : Text → Text → Bool
occurs pattern [] = begins_with [] pattern
occurs pattern (b ∷ bs) = begins_with (b ∷ bs) pattern || occurs pattern bs

-- the leftmost longest match is the whole line, where any match is
abbrev pub is_whole : Text → Option Span → Bool
is_whole line None = false
is_whole line (Some span) = (span.start == 0) && (span.end == length line)

-- whether a line holds a pattern, or is one
abbrev pub holds : GrepValue → Text → PatternValue → Bool
holds g line (fixed text) = if g.whole then same_text (folded g.folded line) text else occurs text (folded g.folded line)
holds g line (basic e) = if g.whole then is_whole line (span_found e line 0) else is_some (span_found e line 0)

abbrev pub matches : GrepValue → Text → Bool
matches g line = list_any (holds g line) g.patterns

abbrev pub selects : GrepValue → Text → Bool
selects g line = if g.inverted then not (matches g line) else matches g line

-- `FILE:` where there are several inputs
abbrev pub prefix : GrepValue → Text → Text
prefix g name = if g.many then name ++ 58 ∷ [] else []

abbrev pub number_of : GrepValue → ℕ → Text
number_of g n = if g.numbered then decimal n ++ 58 ∷ [] else []

abbrev pub row : GrepValue → Text → ℕ → Text → Text
row g name n line = prefix g name ++ number_of g n ++ line ++ 10 ∷ []

-- the lines that are selected, of which the first of all has this number
abbrev pub rows : GrepValue → Text → ℕ → List Text → Text
rows g name n [] = []
rows g name n (line ∷ more) = (if selects g line then row g name n line else []) ++ rows g name (n + 1) more

abbrev pub selected : GrepValue → Text → ℕ
selected g text = count_by (selects g) (lines_of text)

abbrev pub count_line : GrepValue → Text → ℕ → Text
count_line g name n = prefix g name ++ decimal n ++ 10 ∷ []

-- what is told of a text: `-q` goes before `-l`, and that before `-c`
abbrev pub told : GrepValue → Text → Text → Text
told g name text =
    if g.quiet then [] else
    (if g.listed then (if nat_lt 0 (selected g text) then name ++ 10 ∷ [] else []) else
    (if g.counted then count_line g name (selected g text) else rows g name 1 (lines_of text)))

abbrev pub name_of : Text → Text
name_of operand = if same_text operand dash then codes "(standard input)" else operand

abbrev pub brought_told : GrepValue → Text → Result Text Errno → Text
brought_told g operand (Ok text) = told g (name_of operand) text
brought_told g operand (Err errno) = []

abbrev pub told_all : GrepValue → List Input → Text
told_all g [] = []
told_all g (input ∷ inputs) = brought_told g input.operand input.brought ++ told_all g inputs

-- whether a line of an input is selected
abbrev pub some_of : GrepValue → Input → Bool
some_of g input = nat_lt 0 (selected g (part_of input))

-- 0 where a line was selected, 1 where none was, and 2 where an input was refused, but for `-q` where a line was
abbrev pub status : GrepValue → Bool → Text → ℕ
status g some errors = if g.quiet && some then 0 else (if is_empty errors then (if some then 0 else 1) else 2)

-- this output, and a line for each input that was refused
abbrev pub made_of : GrepValue → List Input → Text → Bool → Made
made_of g inputs output some =
    record {
      output = output;
      errors = refusals (codes "grep") inputs;
      status = status g some (refusals (codes "grep") inputs);
    }

abbrev pub grep_makes : GrepValue → List Input → Made
grep_makes g inputs = made_of g inputs (told_all g inputs) (list_any (some_of g) inputs)

abbrev pub value_job : GrepValue → Job
value_job g = record { name = codes "grep"; failed = 2; out = None; makes = grep_makes g }
