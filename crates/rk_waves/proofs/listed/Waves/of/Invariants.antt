use Rattle.std.proofs.Common.{map, take}
use Rattle.rk_waves.specs.Listed.{IsPlan, members_by}
use Rattle.rk_waves.proofs.listed.Waves.of.Given as goal

abbrev pub invariant-pieces : goal.invariant-pieces
invariant-pieces l = record { plan : IsPlan (take l.i (members_by l.pieces l.waves)) (map (λ s. s.keys) l.lists.items) }
