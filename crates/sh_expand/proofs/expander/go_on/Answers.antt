use Rattle.std.proofs.Common.{sym, ap, subst}
use Rattle.sh_expand.proofs.Bodies.{costly_paces}
use Rattle.sh_expand.specs.declared.expander.Phase.{Phase}
use Rattle.sh_expand.specs.Turns.{Paces, bodies_behind}
use Rattle.sh_expand.proofs.expander.go_on.Goals as goal

pub returns-in_ok-turn-in-Parts-clause-costly : goal.returns-in_ok-turn-in-Parts-clause-costly
returns-in_ok-turn-in-Parts-clause-costly c =
    subst (λ (s : Phase). Paces (bodies_behind s) c.in_ok-turn-in-Parts.turn.1 (bodies_behind c.in_ok-turn-in-Parts.turn.0)) (sym c.in-Parts.is) c.in_ok-turn-in-Parts.ensures.costly

pub returns-in_ok-turn-in-Looks-clause-costly : goal.returns-in_ok-turn-in-Looks-clause-costly
returns-in_ok-turn-in-Looks-clause-costly c = costly_paces c.in_ok-turn-in-Looks.turn.1 _ _ c.in_ok-turn-in-Looks.ensures.costly
