use Rattle.std.proofs.Common.{◌≡◌, ◌∙◌, ap₂, map, rules, subst, sym, IfOk}
use Rattle.rk_waves.specs.CellPieces.{AreBy}
use Rattle.rk_waves.specs.Listed.{IsPlan, members_by}
use Rattle.rk_waves.proofs.PieceLemmas.{plan-so}
use Rattle.rk_waves.proofs.cell_pieces.CellPieces.plan.Goals as goal

pub returns : goal.returns
returns g c = record {
  plan = λ p told so a eg.
      let is =
      plan-so g.C.PartialEq.eq g.met.C.Eq.laws p _ told c.args.gathers.now c.in-Some.commands c.in_ok-waves.waves.items so
      (subst (λ n. AreBy g.C.PartialEq.eq p n) (sym c.self.view_is) a) (subst (λ n. c.args.gathers.now ≡ map told n.cells) (sym c.self.view_is) eg)
      (search rules) (search rules) in
      subst (λ ms. IfOk c.of.result (IsPlan ms)) (ap₂ members_by c.as_slice-pieces.ensures.value c.as_slice.ensures.value ∙ is) c.of.ensures;
}
