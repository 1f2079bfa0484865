-- Laws of `read`.
use Rattle.std.specs.Prelude.{◌≡◌, List, Bool}
use Rattle.rk_base.specs.Text.{Text}
use Rattle.sh_builtin.specs.declared.marks.Marked.{Marked}
use Rattle.sh_builtin.specs.Fields.{values}
use Rattle.sh_builtin.specs.Lines.{line_of}
use Rattle.sh_builtin.specs.ReadLines.{Line, IsReadLine}
use Rattle.sh_builtin.specs.ReadValues.{AreReadValues}

-- the line that a text is scanned for is the line at its front, and there is no other
abbrev pub OneLine : Type 0
OneLine = (raw : Bool) (text : Text) → IsReadLine raw text (line_of raw text) × ((other : Line) → IsReadLine raw text other → other ≡ line_of raw text)

-- the values that variables take are theirs by the fields of the line, and no others are
abbrev pub OneValueEach : Type 0
OneValueEach =
    (ifs : Text) (names : List Text) (line : List Marked) → AreReadValues ifs names line (values ifs names line) × ((others : List Text) → AreReadValues ifs names line others → others ≡ values ifs names line)
