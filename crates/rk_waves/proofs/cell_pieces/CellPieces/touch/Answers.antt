use Rattle.std.proofs.Common.{refl, subst, sym}
use Rattle.rk_waves.specs.CellPieces.{AreBy}
use Rattle.rk_waves.proofs.PieceLemmas.{touched-so}
use Rattle.rk_waves.proofs.cell_pieces.CellPieces.touch.Goals as goal

pub returns : goal.returns
returns g c = record {
  touched = λ p a.
      touched-so g.C.PartialEq.eq p _ _ c.put_numbers.new.cells (record { reads = c.args.reads.items; writes = c.args.writes.items })
      (subst (λ n. AreBy g.C.PartialEq.eq p n) (sym c.self.view_is) a) c.in_ok-put_numbers.ensures.grown c.in_ok-put_numbers-2.ensures.grown
      c.in_ok-put_numbers.ensures.stand c.in_ok-put_numbers-2.ensures.stand
      (refl, c.in_ok-put_numbers.ensures.numbers, c.in_ok-put_numbers-2.ensures.numbers, refl);
}
