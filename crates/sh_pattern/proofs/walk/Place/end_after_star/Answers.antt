use Rattle.std.proofs.Common.{ℕ, drop, ◌∷◌, sym, subst, length, Bool}
use Rattle.std.specs.Prelude.{None, Some}
use Rattle.rk_base.specs.Text.{Text}
use Rattle.sh_pattern.specs.Parts.{Star, parts}
use Rattle.sh_pattern.specs.Walking.{TellsEnd, Best, NoEnd}
use Rattle.sh_pattern.proofs.EndLemmas.{found_as, found-fails, found-star, found-shortest, found-shorter, alike-tells, alike-trans}
use Rattle.sh_pattern.proofs.walk.Place.end_after_star.Goals as goal

pub returns-in-Fails : goal.returns-in-Fails
returns-in-Fails c =
    alike-tells c.args.longest (Star ∷ parts c.args.self.now.pattern) _ (Star ∷ parts c.stars.place.pattern) c.stars.place.text.now None c.stars.invariant (found-fails (parts c.stars.place.pattern) c.stars.place.text.now (subst (λ (t : Text). (n : ℕ) → NoEnd (parts c.stars.place.pattern) (drop n t)) c.copy-here.ensures.text (subst (λ (x : Text). (n : ℕ) → NoEnd (parts x) (drop n c.copy-here.result.text.now)) c.copy-here.ensures.pattern c.in-Fails.ensures)))

pub returns-then-longest : goal.returns-then-longest
returns-then-longest c =
    alike-tells c.args.longest (Star ∷ parts c.args.self.now.pattern) _ (Star ∷ parts c.stars.place.pattern) _ c.latest.result c.stars.invariant (subst (λ (b : Bool). TellsEnd b (Star ∷ parts c.stars.place.pattern) c.stars.place.text.now c.latest.result) (sym c.if-longest.true) c.latest.ensures)

pub returns-else-longest : goal.returns-else-longest
returns-else-longest c =
    alike-tells c.args.longest (Star ∷ parts c.args.self.now.pattern) _ (Star ∷ parts c.stars.place.pattern) _ (Some (length c.earliest.new.self.text.now)) c.stars.invariant (subst (λ (b : Bool). Best b (Star ∷ parts c.stars.place.pattern) c.stars.place.text.now (length c.earliest.new.self.text.now)) (sym c.if-longest.false) (found-shortest (parts c.stars.place.pattern) _ _ (found_as c.stars.place.pattern c.copy-here.result.pattern _ _ _ _ c.copy-here.ensures.pattern c.copy-here.ensures.text c.in-End.ensures)))

pub stars-smaller : goal.stars-smaller
stars-smaller c = found-shorter (parts c.stars.place.pattern) _ (parts c.earliest.new.self.pattern) _ (found_as c.stars.place.pattern c.copy-here.result.pattern _ _ (Star ∷ parts c.earliest.new.self.pattern) _ c.copy-here.ensures.pattern c.copy-here.ensures.text c.in-Star.ensures)

pub stars-preserved : goal.stars-preserved
stars-preserved c =
    alike-trans (Star ∷ parts c.args.self.now.pattern) _ (Star ∷ parts c.stars.place.pattern) _ (Star ∷ parts c.earliest.new.self.pattern) _ c.stars.invariant (found-star (parts c.stars.place.pattern) _ (parts c.earliest.new.self.pattern) _ (found_as c.stars.place.pattern c.copy-here.result.pattern _ _ (Star ∷ parts c.earliest.new.self.pattern) _ c.copy-here.ensures.pattern c.copy-here.ensures.text c.in-Star.ensures))
