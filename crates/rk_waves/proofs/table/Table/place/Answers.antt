use Rattle.std.proofs.Common.{rules}
use Rattle.rk_waves.proofs.NotedLemmas.{told-wave, told-after, noted-lengths}
use Rattle.rk_waves.specs.Table.{least}
use Rattle.rk_waves.proofs.table.Table.place.Goals as goal

pub returns-clause-wave : goal.returns-clause-wave
returns-clause-wave c = λ gathers earlier room. told-wave gathers earlier c.args.self.now room.tells c.args.piece.now room.fits c.least-wave.result
    (search rules)

pub returns-clause-tells : goal.returns-clause-tells
returns-clause-tells c = λ gathers earlier room. told-after gathers earlier c.args.self.now room.tells c.args.piece.now room.fits _ (search rules)

pub returns-clause-same_size : goal.returns-clause-same_size
returns-clause-same_size c =
    noted-lengths c.args.self.now c.args.piece.now (least c.args.self.now c.args.piece.now)
    (record { cells = c.note_writes.new.cells.items; commands = c.note_wave.new.commands.items }) (search rules)
