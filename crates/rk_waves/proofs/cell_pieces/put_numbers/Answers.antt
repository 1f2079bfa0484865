use Rattle.rk_waves.proofs.CellLemmas.{put-more}
use Rattle.rk_waves.proofs.cell_pieces.put_numbers.Goals as goal

pub cells-preserved : goal.cells-preserved
cells-preserved g c =
    let it =
    put-more g.C.PartialEq.eq g.met.C.Eq.laws c.args.cells.now c.cells.cells c.number.new.self c.args.numbers.now.items c.cells.numbers.items c.push.new.self.items
    c.cells.yielded c.in-Some.cell c.in_ok-number.number
    (record { grown = c.cells.invariant.grown; numbers = c.cells.invariant.numbers; stand = c.cells.invariant.stand }) c.in_ok-number.ensures.number
    c.in_ok-number.ensures.all c.in_ok-push.ensures.items in
    record { grown = it.grown; numbers = it.numbers; stand = it.stand }
