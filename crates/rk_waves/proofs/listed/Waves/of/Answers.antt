use Rattle.std.proofs.Common.{arith, ap, sym, subst, map}
use Rattle.rk_waves.specs.Listed.{IsPlan}
use Rattle.rk_waves.specs.Pieces.{Piece}
use Rattle.rk_waves.proofs.ListedLemmas.{plan-more, members-next, members-all}
use Rattle.rk_waves.proofs.listed.Waves.of.Goals as goal

pub pieces-preserved : goal.pieces-preserved
pieces-preserved c = record {
  plan =
      subst (λ ms. IsPlan ms (map (λ s. s.keys) c.put.new.waves.items))
      (sym
      (members-next c.args.pieces.now c.args.waves.now c.pieces.i c.piece.inside.owner c.index-pieces-i.result c.requires (omega arith) c.index-pieces-i.is
      (ap (λ (q : Piece). q.owner) c.piece.view_is)))
      (plan-more _ _ (map (λ s. s.keys) c.pieces.lists.items) (map (λ s. s.keys) c.put.new.waves.items) c.pieces.invariant.plan c.in_ok-put.ensures);
}

pub returns : goal.returns
returns c =
    subst (λ ms. IsPlan ms (map (λ s. s.keys) c.pieces.lists.items)) (members-all c.args.pieces.now c.args.waves.now c.pieces.i c.requires (omega arith))
    c.pieces.invariant.plan
