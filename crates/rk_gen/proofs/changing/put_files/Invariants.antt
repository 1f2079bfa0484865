use Rattle.std.proofs.Common.{◌≡◌, drop}
use Rattle.rk_folder.specs.Memory.{held_by, is_steady}
use Rattle.rk_gen.specs.Changed.{with_files}
use Rattle.rk_gen.proofs.changing.put_files.Given as goal

abbrev pub invariant-loop-file : goal.invariant-loop-file
invariant-loop-file l = record {
  held : with_files (drop l.file-index l.files) (held_by l.folder) ≡ with_files l.files (held_by l.fn.folder);
  steady : is_steady l.folder ≡ is_steady l.fn.folder;
}
