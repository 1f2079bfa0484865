-- The fields of a line, and its keys (XCU sort, OPTIONS -k and -t).
use Rattle.std.specs.Prelude.{ℕ, zero, suc, ◌+◌, ◌-◌, [], length, take, drop, nat_lt, Option, Some, None, if◌then◌else◌}
use Rattle.rk_base.specs.Text.{Text}
use Rattle.ut_sort.specs.declared.key.Key.{Key}
use Rattle.ut_sort.specs.declared.runs.ByteClass.TheVariants.{Blank, Solid, Other}
use Rattle.ut_sort.specs.Runs.{run, rest}

-- The length of the first field: up to the delimiter, or without one the blanks and what stands up to the next blank.
abbrev pub field_length : Option ℕ → Text → ℕ
field_length (Some c) text = run (Other c) text
field_length None text = run Blank text + run Solid (rest Blank text)

-- what stands after the first field, and after its delimiter
abbrev pub after_field : Option ℕ → Text → Text
after_field (Some c) text = drop 1 (rest (Other c) text)
after_field None text = rest Solid (rest Blank text)

-- what stands after so many fields
abbrev pub after_fields : Option ℕ → ℕ → Text → Text
after_fields delimiter zero text = text
after_fields delimiter (suc n) text = after_fields delimiter n (after_field delimiter text)

-- a text up to the end of the first field of its end
abbrev pub up_to : Option ℕ → Text → Text → Text
up_to delimiter text end = take ((length text - length end) + field_length delimiter end) text

-- from the field of a number on, to the end of the line or of a last field; empty where that stands before it
abbrev pub key_from : Option ℕ → ℕ → Option ℕ → Text → Text
key_from delimiter from None text = text
key_from delimiter from (Some last) text = if nat_lt last from then [] else up_to delimiter text (after_fields delimiter (last - from) text)

-- the key of a line; the first field has the number 1, and a missing one is empty
abbrev pub key_text : Option ℕ → Key → Text → Text
key_text delimiter k line = key_from delimiter k.from k.last (after_fields delimiter (k.from - 1) line)
