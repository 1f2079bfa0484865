use Rattle.std.proofs.Common.{◌∙◌}
use Rattle.rk_folder.specs.Memory.{held_by}
use Rattle.rk_gen.proofs.FileLemmas.{put-more}
use Rattle.rk_gen.proofs.changing.put_files.Goals as goal

pub loop-file-preserved : goal.loop-file-preserved
loop-file-preserved c = record {
  held = put-more c.args.files.now c.loop-file.file-index c.file-item.result (held_by c.loop-file.folder) _ _ c.loop-file-test.true c.file-item.is c.in_ok-put_file.ensures.held c.loop-file.invariant.held;
  steady = c.put_file.ensures.steady ∙ c.loop-file.invariant.steady;
}
