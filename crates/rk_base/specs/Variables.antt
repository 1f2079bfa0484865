-- Names of variables, and lists of variables.
use Rattle.std.specs.Prelude.{ℕ, List, [], ◌∷◌, map, Bool, false, ◌&&◌, ◌||◌, ◌==◌, nat_le}
use Rattle.std.specs.List.{list_all}
use Rattle.rk_base.specs.Names.{ascend}
use Rattle.rk_base.specs.Text.{Text}
use Rattle.rk_base.specs.declared.vars.Var.{Var}

abbrev pub is_between : ℕ → ℕ → ℕ → Bool
is_between low high b = nat_le low b && nat_le b high

-- a letter or `_`
abbrev pub is_start : ℕ → Bool
is_start b = is_between 65 90 b || is_between 97 122 b || (b == 95)

-- a letter, a digit or `_`
abbrev pub is_more : ℕ → Bool
is_more b = is_start b || is_between 48 57 b

-- a letter or `_`, then letters, digits and `_`
abbrev pub is_variable : Text → Bool
is_variable [] = false
is_variable (b ∷ bs) = is_start b && list_all is_more bs

abbrev pub names_of : List Var → List Text
names_of = map (λ (v : Var). v.name)

-- names of variables, strictly ascending
unfoldable pub are_variables : List Var → Bool
are_variables vars = list_all (λ v. is_variable v.name) vars && ascend (names_of vars)
