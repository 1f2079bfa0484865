-- What `head` makes.
use Rattle.std.specs.Prelude.{ℕ, ◌+◌, length, None, zero, suc, List, [], ◌∷◌, ◌++◌, codes, Result, Ok, Err, ◌==◌, if◌then◌else◌}
use Rattle.rk_base.specs.Text.{Text}
use Rattle.rk_base.specs.Canonical.{is_empty}
use Rattle.rk_base.specs.declared.errno.Errno.{Errno}
use Rattle.ut_filter.specs.declared.made.Input.{Input}
use Rattle.ut_filter.specs.declared.made.Made.{Made}
use Rattle.ut_filter.specs.Filters.{Job}
use Rattle.ut_filter.specs.Refusals.{refusals}
use Rattle.ut_filter.specs.Statuses.{status_of}
use Rattle.ut_text.specs.declared.head.Head.{Head}

-- so many lines of a text, each with its newline
abbrev pub first_lines : ℕ → Text → Text
first_lines n [] = []
first_lines zero (b ∷ bs) = []
first_lines (suc n) (b ∷ bs) = b ∷ (if b == 10 then first_lines n bs else first_lines (suc n) bs)

-- an empty line before each header but the first
abbrev pub header : Text → Text → Text
header name before = (if is_empty before then [] else 10 ∷ []) ++ codes "==> " ++ name ++ codes " <==\n"

abbrev pub part_brought : Head → Text → Text → Result Text Errno → Text
part_brought h before operand (Err errno) = before
part_brought h before operand (Ok bytes) = (if h.headed then before ++ header operand before else before) ++ first_lines h.number bytes

-- an input that was read, after the output so far
abbrev pub part_of : Head → Text → Input → Text
part_of h before input = part_brought h before input.operand input.brought

abbrev pub parts : Head → Text → List Input → Text
parts h before [] = before
parts h before (input ∷ inputs) = parts h (part_of h before input) inputs

-- How long they are: a header behind so many bytes.
abbrev pub header_length : Text → ℕ → ℕ
header_length name before = (if before == 0 then 0 else 1) + length name + 9

abbrev pub length_brought : Head → ℕ → Text → Result Text Errno → ℕ
length_brought h before operand (Err errno) = before
length_brought h before operand (Ok bytes) = (if h.headed then before + header_length operand before else before) + length (first_lines h.number bytes)

-- the inputs, behind so many bytes
abbrev pub lengths : Head → ℕ → List Input → ℕ
lengths h before [] = before
lengths h before (input ∷ inputs) = lengths h (length_brought h before input.operand input.brought) inputs

abbrev pub head_makes : Head → List Input → Made
head_makes h inputs =
    record {
      output = parts h [] inputs;
      errors = refusals (codes "head") inputs;
      status = status_of 1 (refusals (codes "head") inputs);
    }

abbrev pub head_job : Head → Job
head_job h = record { name = codes "head"; failed = 1; out = None; makes = head_makes h }
