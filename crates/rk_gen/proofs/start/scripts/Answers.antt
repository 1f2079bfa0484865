use Rattle.std.proofs.Common.{rules, refl, arith}
use Rattle.std.proofs.lemmas.Grind.{common_steps}
use Rattle.rk_gen.specs.Draws.{drawn_all}
use Rattle.rk_gen.specs.Scripts.{script}
use Rattle.rk_gen.proofs.DrawLemmas.{more-made, more-after}
use Rattle.rk_gen.proofs.start.scripts.Goals as goal

pub loop-j-init : goal.loop-j-init
unfolding drawn_all
loop-j-init c = record { made = search rules; after = refl; count = search rules }

pub loop-j-preserved : goal.loop-j-preserved
loop-j-preserved c = record {
  made = more-made (script c.args.sources) _ _ _ _ _ _ c.loop-j.invariant.made c.loop-j.invariant.after c.in_ok-it.ensures.script c.in_ok-push.ensures.items;
  after = more-after (script c.args.sources) _ _ _ _ c.loop-j.invariant.after c.in_ok-it.ensures.after;
  count = grind (arith, common_steps);
}
