-- Names for arithmetic, as the code keeps them.
use Rattle.std.specs.Prelude.{◌==◌, [], ◌∷◌, Bool, false}
use Rattle.std.specs.FinMap.{FinMap, get, insert}
use Rattle.rk_base.specs.Text.{Text, text_cmp}
use Rattle.sh_arith.specs.Environment.{Environment}

abbrev pub NameValues : Type 0
NameValues = FinMap text_cmp Text

abbrev pub is_fixed : Text → Bool
is_fixed [] = false
is_fixed (b ∷ bs) = b == 82

abbrev pub known_of : NameValues → Environment NameValues
known_of values = record { state = values; value = λ map x. get map x; readonly = λ map x. is_fixed x; with_value = λ x text map. insert map x text }
