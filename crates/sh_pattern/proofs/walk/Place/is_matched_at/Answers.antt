use Rattle.std.proofs.Common.{ap, sym, ◌∙◌, ◌∷◌, [], length, subst}
use Rattle.std.proofs.lemmas.Bool.{eq-eqb, eqb-true, le-leb, leb-true}
use Rattle.std.proofs.lemmas.List.{nil_from_length}
use Rattle.sh_pattern.specs.Parts.{Star, parts}
use Rattle.sh_pattern.specs.Walking.{Settles}
use Rattle.sh_pattern.proofs.SuffixLemmas.{at_fails, walked_as, end_matches, ended_at, settled_none, settled_some}
use Rattle.sh_pattern.proofs.walk.Place.is_matched_at.Goals as goal

pub returns-in-Fails : goal.returns-in-Fails
returns-in-Fails c =
    (λ t. absurd (cc), λ m. absurd (at_fails c.args.self.now.pattern c.copy.result _ _ c.copy.ensures c.split_at.ensures.back c.in-Fails.ensures m))

pub returns-in-End : goal.returns-in-End
returns-in-End c =
    let w = walked_as c.args.self.now.pattern c.copy.result _ _ [] _ c.copy.ensures c.split_at.ensures.back c.in-End.ensures in
    (λ t. end_matches (parts c.args.self.now.pattern) _ _ w (nil_from_length c.segment.new.self.text.now (eqb-true (length c.segment.new.self.text.now) 0 (sym c.is_empty.ensures ∙ t))), λ m. c.is_empty.ensures ∙ eq-eqb (length c.segment.new.self.text.now) 0 (ap length (ended_at (parts c.args.self.now.pattern) _ _ w m)))

pub returns-in-None : goal.returns-in-None
returns-in-None c =
    (λ t. absurd (cc), λ m. absurd (settled_none (parts c.args.self.now.pattern) (parts c.segment.new.self.pattern) c.args.self.now.text.now c.args.n _ (walked_as c.args.self.now.pattern c.copy.result _ _ (Star ∷ parts c.segment.new.self.pattern) _ c.copy.ensures c.split_at.ensures.back c.in-Star.ensures) (subst (Settles (parts c.args.self.now.pattern) c.args.self.now.text.now) c.in-None.is c.requires.settles) m))

pub returns-in-Some : goal.returns-in-Some
returns-in-Some c =
    let s = settled_some (parts c.args.self.now.pattern) (parts c.segment.new.self.pattern) c.args.self.now.text.now c.args.n c.in-Some.least _ c.requires.within (walked_as c.args.self.now.pattern c.copy.result _ _ (Star ∷ parts c.segment.new.self.pattern) _ c.copy.ensures c.split_at.ensures.back c.in-Star.ensures) (subst (Settles (parts c.args.self.now.pattern) c.args.self.now.text.now) c.in-Some.is c.requires.settles) in
    (λ t. s.0 (leb-true c.in-Some.least (length c.segment.new.self.text.now) t), λ m. le-leb c.in-Some.least (length c.segment.new.self.text.now) (s.1 m))
