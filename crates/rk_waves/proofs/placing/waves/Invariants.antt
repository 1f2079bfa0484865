use Rattle.std.proofs.Common.{◌≡◌, ◌++◌, drop, vec_len}
use Rattle.rk_waves.specs.Table.{waves_by}
use Rattle.rk_waves.proofs.placing.waves.Given as goal

abbrev pub invariant-pieces : goal.invariant-pieces
invariant-pieces l = record {
  told : l.waves.items ++ waves_by l.table (drop l.piece-index l.pieces) ≡ waves_by l.initial.table l.pieces;
  count : vec_len l.waves ≡ l.piece-index;
}
