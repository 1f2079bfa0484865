use Rattle.std.proofs.Common.{◌∙◌, sym, arith}
use Rattle.sh_pattern.specs.Parts.{parts}
use Rattle.sh_pattern.proofs.EndLemmas.{latest-stops, latest-fails, latest-none, walks_as}
use Rattle.sh_pattern.proofs.walk.Place.latest.Goals as goal

pub returns-then-is_stop : goal.returns-then-is_stop
returns-then-is_stop c =
    latest-stops c.requires.0 (parts c.args.self.now.pattern) _ _ c.places.n c.segment-stop.result _ _ c.requires.1 c.split_at.ensures.back c.places.invariant.1 (sym c.is_stop.ensures ∙ c.if-is_stop.true) (walks_as c.args.self.now.pattern c.copy.result _ c.segment-stop.result _ _ c.copy.ensures c.segment-stop.ensures)

pub returns-then-n-eq0 : goal.returns-then-n-eq0
returns-then-n-eq0 c =
    latest-none (parts c.args.self.now.pattern) c.args.self.now.text.now
    (λ j h. latest-fails (parts c.args.self.now.pattern) c.args.self.now.text.now _ c.places.n c.segment-stop.result _ _ c.split_at.ensures.back c.places.invariant.1 (sym c.is_stop.ensures ∙ c.if-is_stop.false) (walks_as c.args.self.now.pattern c.copy.result _ c.segment-stop.result _ _ c.copy.ensures c.segment-stop.ensures) j (omega arith))
