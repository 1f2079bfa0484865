-- A builtin without options (XCU 1.4).
use Rattle.std.specs.Prelude.{List, [], ◌∷◌, codes, if◌then◌else◌}
use Rattle.rk_base.specs.Text.{Text, same_text}

-- a first `--` ends the options, of which there are none
abbrev pub operands_of : List Text → List Text
operands_of [] = []
operands_of (word ∷ words) = if same_text word (codes "--") then words else word ∷ words
