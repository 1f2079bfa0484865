-- Refused inputs.
use Rattle.std.specs.Prelude.{List, [], ◌∷◌, ◌++◌, Result, Ok, Err}
use Rattle.rk_base.specs.Text.{Text}
use Rattle.rk_base.specs.Errno.{word}
use Rattle.rk_base.specs.declared.errno.Errno.{Errno}
use Rattle.ut_filter.specs.declared.made.Input.{Input}
use Rattle.rk_calls.specs.Lines.{error_line}

abbrev pub refused : Text → Text → Result Text Errno → Text
refused name operand (Ok bytes) = []
refused name operand (Err errno) = error_line name operand (word errno)

-- a line where it was refused
abbrev pub refusal : Text → Input → Text
refusal name input = refused name input.operand input.brought

abbrev pub refusals : Text → List Input → Text
refusals name [] = []
refusals name (input ∷ inputs) = refusal name input ++ refusals name inputs
