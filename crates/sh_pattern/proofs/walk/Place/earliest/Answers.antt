use Rattle.std.proofs.Common.{sym, ◌∙◌, ◌+◌, subst}
use Rattle.rk_base.specs.Text.{Text}
use Rattle.sh_pattern.specs.Parts.{parts}
use Rattle.sh_pattern.specs.Walking.{WalksTo}
use Rattle.sh_pattern.proofs.WalkLemmas.{search-fails, next_place}
use Rattle.sh_pattern.proofs.walk.Place.earliest.Goals as goal

pub places-preserved : goal.places-preserved
places-preserved c =
    let inv = c.places.invariant in
    (inv.0 + 1, inv.1, next_place _ _ _ inv.0 _ inv.2 c.in-Some.ensures.cut, search-fails (parts c.args.self.now.pattern) _ _ inv.0 c.segment-stop.result _ _ (c.copy-here.ensures.text ∙ inv.2) inv.3 (sym c.is_stop.ensures ∙ c.if-is_stop.false) (subst (λ (x : Text). WalksTo (parts x) c.copy-here.result.text.now c.segment-stop.result (parts c.segment-stop.new.self.pattern) c.segment-stop.new.self.text.now) (c.copy-here.ensures.pattern ∙ inv.1) c.segment-stop.ensures))
