use Rattle.std.proofs.Common.{rules, refl, ℕ}
use Rattle.rk_gen.specs.Draws.{drawn_all}
use Rattle.rk_gen.specs.Lines.{source_line}
use Rattle.rk_gen.proofs.DrawLemmas.{more-made, more-after}
use Rattle.rk_gen.proofs.lines.source.Goals as goal

pub loop-number-init : goal.loop-number-init
unfolding drawn_all
loop-number-init c = record { made = search rules; after = refl }

pub loop-number-preserved : goal.loop-number-preserved
loop-number-preserved c = record {
  made = more-made (λ (number : ℕ). source_line) _ _ _ _ _ _ c.loop-number.invariant.made c.loop-number.invariant.after c.in_ok-line.ensures.line c.in_ok-push.ensures.items;
  after = more-after (λ (number : ℕ). source_line) _ _ _ _ c.loop-number.invariant.after c.in_ok-line.ensures.after;
}
