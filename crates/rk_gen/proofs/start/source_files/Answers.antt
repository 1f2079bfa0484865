use Rattle.std.proofs.Common.{rules, refl}
use Rattle.rk_gen.specs.Draws.{drawn_all}
use Rattle.rk_gen.specs.Lines.{source_file}
use Rattle.rk_gen.proofs.DrawLemmas.{more-made, more-after}
use Rattle.rk_gen.proofs.start.source_files.Goals as goal

pub loop-k-init : goal.loop-k-init
unfolding drawn_all
loop-k-init c = record { made = search rules; after = refl }

pub loop-k-preserved : goal.loop-k-preserved
loop-k-preserved c = record {
  made = more-made source_file _ _ _ _ _ _ c.loop-k.invariant.made c.loop-k.invariant.after c.in_ok-file.ensures.file c.in_ok-push.ensures.items;
  after = more-after source_file _ _ _ _ c.loop-k.invariant.after c.in_ok-file.ensures.after;
}
