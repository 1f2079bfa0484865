use Rattle.std.proofs.Common.{rules, refl, subst, sym}
use Rattle.rk_waves.specs.CellPieces.{AreBy}
use Rattle.rk_waves.proofs.PieceLemmas.{closed-so}
use Rattle.rk_waves.proofs.cell_pieces.CellPieces.close.Goals as goal

pub returns : goal.returns
returns g c = record {
  closed = λ p a.
      closed-so g.C.PartialEq.eq p _ _ c.args.owner (subst (λ n. AreBy g.C.PartialEq.eq p n) (sym c.self.view_is) a)
      (refl, search rules, search rules, search rules, refl);
}
