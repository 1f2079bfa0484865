use Rattle.sh_expand.proofs.Bodies.{costly_paces}
use Rattle.sh_expand.proofs.expander.on_parts.Goals as goal

pub returns-in_ok-turn-in-Done-clause-costly : goal.returns-in_ok-turn-in-Done-clause-costly
returns-in_ok-turn-in-Done-clause-costly c = costly_paces c.in_ok-turn-in-Done.turn.1 _ _ c.in_ok-turn-in-Done.ensures.costly
