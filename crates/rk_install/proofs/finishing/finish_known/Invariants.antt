use Rattle.std.proofs.Common.{◌≡◌, Option, drop, option_map}
use Rattle.rk_folder.specs.Told.{Held}
use Rattle.rk_install.specs.Halfway.{IsCut, finished}
use Rattle.rk_install.specs.Known.{KnowsTold}
use Rattle.rk_install.specs.Recovery.{AreBelowRoot}
use Rattle.rk_install.proofs.finishing.finish_known.Given as goal

abbrev pub invariant-loop-op : goal.invariant-loop-op
invariant-loop-op g l =
    let told = g.F.Folder.told in
    record {
      known : KnowsTold (told l.folder) l.known;
      below : AreBelowRoot (drop l.op-index l.ops);
      rest : option_map (finished (drop l.op-index l.ops)) (told l.folder) ≡ option_map (finished l.ops) (told l.fn.folder);
      cut : (new : Option Held) → IsCut (drop l.op-index l.ops) (told l.folder) new → IsCut l.ops (told l.fn.folder) new;
      memory : g.F.Folder.memory_failures l.folder ≡ g.F.Folder.memory_failures l.fn.folder;
      writes : g.F.Folder.write_faults l.folder ≡ g.F.Folder.write_faults l.fn.folder;
      steady : g.F.Folder.steady l.folder ≡ g.F.Folder.steady l.fn.folder;
      reads : g.F.Folder.read_faults l.folder ≡ g.F.Folder.read_faults l.fn.folder;
    }
