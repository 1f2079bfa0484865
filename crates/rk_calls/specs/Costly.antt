-- Which turns cost something.
use Rattle.std.specs.Prelude.{◌≤◌}
use Rattle.rk_calls.specs.declared.turn.Turn.{Turn}
use Rattle.rk_calls.specs.declared.turn.Turn.TheVariants.{Ask, More, Exit}

-- a turn that is no exit costs something
abbrev pub IsCostly : Turn → Type 0
IsCostly (Ask call cost) = 1 ≤ cost
IsCostly (More cost) = 1 ≤ cost
IsCostly (Exit status cost) = Unit {0}
