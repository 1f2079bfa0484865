use Rattle.std.proofs.Common.{rules}
use Rattle.rk_waves.proofs.NotedLemmas.{fresh-told}
use Rattle.rk_waves.proofs.table.Table.new.Goals as goal

pub returns-clause-tells : goal.returns-clause-tells
returns-clause-tells c = fresh-told c.args.gathers.now c.args.commands c.in_ok-cells.cells.items c.in_ok-commands.commands.items (search rules) (search rules)
