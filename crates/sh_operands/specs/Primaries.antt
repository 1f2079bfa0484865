-- The primaries of `test` (XCU 4, `test`).
use Rattle.std.specs.Prelude.{ℕ, List, [], ◌∷◌, codes, Bool, true, false, not, ◌&&◌, ◌||◌, Option, Some, None, if◌then◌else◌}
use Rattle.rk_base.specs.Text.{Text, same_text}
use Rattle.rk_base.specs.declared.file_type.FileType.{FileType}
use Rattle.rk_base.specs.declared.file_type.FileType.TheVariants.{File, Dir, Link}
use Rattle.sh_operands.specs.declared.number.Number.{Number}
use Rattle.sh_operands.specs.declared.primary.Primary.{Primary}
use Rattle.sh_operands.specs.declared.primary.Primary.TheVariants as primary
use Rattle.sh_operands.specs.declared.primary.Operator.{Operator}
use Rattle.sh_operands.specs.declared.primary.Operator.TheVariants as operator
use Rattle.sh_operands.specs.Modes.{has_r, has_w, has_x}
use Rattle.sh_operands.specs.Numbers.{is_less}

abbrev pub found : {A : Type 0} → Text → List (Text × A) → Option A
found word [] = None
found word (row ∷ rows) = if same_text word row.0 then Some row.1 else found word rows

abbrev pub primaries : List (Text × Primary)
primaries =
    (codes "-n", primary.HasBytes) ∷ (codes "-z", primary.Empty) ∷ (codes "-e", primary.Exists) ∷ (codes "-f", primary.IsFile) ∷ (codes "-d", primary.IsDir)
    ∷ (codes "-L", primary.IsLink)
    ∷ (codes "-h", primary.IsLink)
    ∷ (codes "-r", primary.Readable)
    ∷ (codes "-w", primary.Writable)
    ∷ (codes "-x", primary.Executable)
    ∷ (codes "-s", primary.HasSize)
    ∷ []

abbrev pub primary_of : Text → Option Primary
primary_of word = found word primaries

abbrev pub operators : List (Text × Operator)
operators =
    (codes "=", operator.Same) ∷ (codes "!=", operator.Differs) ∷ (codes "-eq", operator.Equal) ∷ (codes "-ne", operator.NotEqual) ∷ (codes "-gt", operator.Greater)
    ∷ (codes "-ge", operator.GreaterOrEqual)
    ∷ (codes "-lt", operator.Less)
    ∷ (codes "-le", operator.LessOrEqual)
    ∷ []

abbrev pub operator_of : Text → Option Operator
operator_of word = found word operators

-- a link that the path ends with is followed, but where links are asked for
abbrev pub follows : Primary → Bool
follows primary.IsLink = false
follows p = true

abbrev pub is_file : FileType → Bool
is_file File = true
is_file Dir = false
is_file Link = false

abbrev pub is_dir : FileType → Bool
is_dir File = false
is_dir Dir = true
is_dir Link = false

abbrev pub is_link : FileType → Bool
is_link File = false
is_link Dir = false
is_link Link = true

-- of what stands there: its kind, its mode, and whether it is a file without bytes
abbrev pub holds_of : Primary → FileType → ℕ → Bool → Bool
holds_of primary.IsFile kind mode empty = is_file kind
holds_of primary.IsDir kind mode empty = is_dir kind
holds_of primary.IsLink kind mode empty = is_link kind
holds_of primary.Readable kind mode empty = has_r mode
holds_of primary.Writable kind mode empty = has_w mode
holds_of primary.Executable kind mode empty = has_x mode
holds_of primary.HasSize kind mode empty = not empty
holds_of p kind mode empty = true

-- two numbers
abbrev pub relates : Operator → Number → Number → Bool
relates operator.Equal m n = not (is_less m n) && not (is_less n m)
relates operator.NotEqual m n = is_less m n || is_less n m
relates operator.Greater m n = is_less n m
relates operator.GreaterOrEqual m n = not (is_less m n)
relates operator.Less m n = is_less m n
relates operator.LessOrEqual m n = not (is_less n m)
relates op m n = false
