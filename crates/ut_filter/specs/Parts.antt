-- What inputs gave.
use Rattle.std.specs.Prelude.{List, [], ◌∷◌, ◌++◌, Result, Ok, Err}
use Rattle.rk_base.specs.Text.{Text}
use Rattle.rk_base.specs.declared.errno.Errno.{Errno}
use Rattle.ut_filter.specs.declared.made.Input.{Input}
use Rattle.ut_filter.specs.Lines.{lines_of}

abbrev pub brought_part : Result Text Errno → Text
brought_part (Ok bytes) = bytes
brought_part (Err errno) = []

-- its bytes; none where it was refused
abbrev pub part_of : Input → Text
part_of input = brought_part input.brought

-- the inputs that were read, joined
abbrev pub joined : List Input → Text
joined [] = []
joined (input ∷ inputs) = part_of input ++ joined inputs

-- the lines of each input, one input after another
abbrev pub all_lines : List Input → List Text
all_lines [] = []
all_lines (input ∷ inputs) = lines_of (part_of input) ++ all_lines inputs
