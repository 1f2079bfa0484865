use Rattle.std.proofs.lemmas.Bool.{eq-eqb, eqb-true}
use Rattle.sh_pattern.specs.Parts.{parts}
use Rattle.sh_pattern.proofs.MatchLemmas.{none_whole, best_whole}
use Rattle.sh_pattern.proofs.matching.matches_all.Goals as goal

pub returns-in-None : goal.returns-in-None
returns-in-None c = (λ t. absurd (cc), λ m. absurd (none_whole (parts c.args.pattern.now) c.args.bytes.now c.in-None.ensures m))

pub returns-in-Some : goal.returns-in-Some
returns-in-Some c =
    let b = best_whole (parts c.args.pattern.now) c.args.bytes.now c.in-Some.left c.in-Some.ensures in
    (λ t. b.0 (eqb-true c.in-Some.left 0 t), λ m. eq-eqb c.in-Some.left 0 (b.1 m))
