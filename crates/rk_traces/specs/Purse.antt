-- A purse: what is left of a budget.
use Rattle.std.specs.Prelude.{ℕ, ◌-◌}
use Rattle.rk_base.specs.Paid.{Paid}

abbrev pub left : Paid → ℕ
left b = b.limit - b.used
