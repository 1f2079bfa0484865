-- Lists of names.
use Rattle.std.specs.Prelude.{List, [], ◌∷◌, Bool, true, ◌&&◌}
use Rattle.std.specs.List.{list_all}
use Rattle.std.specs.Ordering.{is_lt}
use Rattle.rk_base.specs.Text.{Text, text_cmp}
use Rattle.rk_base.specs.Canonical.{is_name}

-- each text is above the one before, the first above this one
abbrev pub ascend_from : Text → List Text → Bool
ascend_from last [] = true
ascend_from last (name ∷ names) = is_lt (text_cmp last name) && ascend_from name names

abbrev pub ascend : List Text → Bool
ascend [] = true
ascend (name ∷ names) = ascend_from name names

-- names, strictly ascending by their bytes
unfoldable pub are_names : List Text → Bool
are_names names = list_all is_name names && ascend names
