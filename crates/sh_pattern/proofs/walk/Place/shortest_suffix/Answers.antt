use Rattle.sh_pattern.specs.Parts.{parts}
use Rattle.sh_pattern.proofs.SuffixLemmas.{no_suffix, none_from}
use Rattle.sh_pattern.proofs.walk.Place.shortest_suffix.Goals as goal

pub returns-then-n-eq0 : goal.returns-then-n-eq0
returns-then-n-eq0 c =
    no_suffix (parts c.args.self.now.pattern) c.args.self.now.text.now (none_from (parts c.args.self.now.pattern) c.args.self.now.text.now c.places.n c.if-n-eq0.true c.places.invariant.1 (λ m. let f = c.is_matched_at.ensures.1 m in let g = c.if-is_matched_at.false in absurd (cc (f, g))))
