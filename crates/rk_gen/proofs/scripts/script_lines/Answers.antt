use Rattle.std.proofs.Common.{rules, refl}
use Rattle.rk_gen.specs.Draws.{drawn_all}
use Rattle.rk_gen.specs.Scripts.{script_line}
use Rattle.rk_gen.proofs.DrawLemmas.{more-made, more-after}
use Rattle.rk_gen.proofs.scripts.script_lines.Goals as goal

pub loop-i-init : goal.loop-i-init
unfolding drawn_all
loop-i-init c = record { made = search rules; after = refl }

pub loop-i-preserved : goal.loop-i-preserved
loop-i-preserved c = record {
  made = more-made (script_line c.args.sources c.args.j) _ _ _ _ _ _ c.loop-i.invariant.made c.loop-i.invariant.after c.in_ok-line.ensures.line c.in_ok-push.ensures.items;
  after = more-after (script_line c.args.sources c.args.j) _ _ _ _ c.loop-i.invariant.after c.in_ok-line.ensures.after;
}
