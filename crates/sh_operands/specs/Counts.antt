-- Operands that are counts: decimal digits alone.
use Rattle.std.specs.Prelude.{ℕ, min, not, ◌&&◌, Option, Some, None, if◌then◌else◌}
use Rattle.std.specs.List.{list_all}
use Rattle.rk_base.specs.Canonical.{is_empty}
use Rattle.rk_base.specs.Text.{Text}
use Rattle.sh_operands.specs.Numbers.{is_digit, value_on}

-- a count above the largest of 64 bits is as good as that
abbrev pub capped : ℕ → ℕ
capped n = min n 18446744073709551615

-- None where it isn't digits alone
abbrev pub count : Text → Option ℕ
count word = if not (is_empty word) && list_all is_digit word then Some (capped (value_on 0 word)) else None
