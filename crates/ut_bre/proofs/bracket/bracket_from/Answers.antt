use Rattle.std.proofs.Common.{◌≡◌, false, drop, sym, ap, ◌∙◌}
use Rattle.ut_bre.specs.Sets.{closes}
use Rattle.ut_bre.proofs.ReadLemmas.{listed-on}
use Rattle.ut_bre.proofs.bracket.bracket_from.Goals as goal

pub listed-preserved : goal.listed-preserved
listed-preserved c =
    let a = c.args in
    let open_ : closes c.in-Some.b c.listed.listed.items ≡ false = cc (c.closes.ensures, c.as_slice.ensures.value, c.if-closes.false) in
    listed-on a.negated a.start a.from c.in-Some.b c.in-Ok.size a.text.now c.listed.left.now c.in-Some.rest.now c.behind-left.result.now c.listed.listed.items c.push.new.self.items c.in-Ok.part c.in-Some.ensures open_ (sym c.in-Ok.ensures) c.in_ok-push-in-Ok.ensures.items (c.behind-left.ensures ∙ ap (λ k. drop k c.in-Some.rest.now) c.saturating_sub.ensures) c.listed.invariant
