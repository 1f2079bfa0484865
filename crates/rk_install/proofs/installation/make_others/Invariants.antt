use Rattle.std.proofs.Common.{◌≡◌, Option, IfSome, drop, option_map}
use Rattle.rk_folder.specs.Schedule.{Schedule}
use Rattle.rk_folder.specs.Told.{Held}
use Rattle.rk_install.specs.Asked.{StopsAt, asked_all, calls_of}
use Rattle.rk_install.specs.Calls.{AllowsAll, after_all}
use Rattle.rk_install.specs.Halfway.{IsFront, IsStopped}
use Rattle.rk_install.specs.Install.{others}
use Rattle.rk_install.specs.declared.calling.InstallErr.{InstallErr}
use Rattle.rk_install.proofs.installation.make_others.Given as goal

abbrev pub invariant-loop-op : goal.invariant-loop-op
invariant-loop-op g l =
    let told = g.F.Folder.told in
    record {
      may : IfSome (told l.folder) (AllowsAll (others (drop l.op-index l.ops)));
      rest : option_map (after_all (others (drop l.op-index l.ops))) (told l.folder) ≡ option_map (after_all (others l.ops)) (told l.fn.folder);
      stop : (new : Option Held) → IsStopped (others (drop l.op-index l.ops)) (told l.folder) new → IsStopped (others l.ops) (told l.fn.folder) new;
      front : (new : Option Held) → IsFront (others (drop l.op-index l.ops)) (told l.folder) new → IsFront (others l.ops) (told l.fn.folder) new;
      asked : option_map (asked_all (calls_of (others (drop l.op-index l.ops)))) (g.F.Folder.schedule l.folder) ≡ option_map (asked_all (calls_of (others l.ops))) (g.F.Folder.schedule l.fn.folder);
      stops : (err : InstallErr) (now : Option Schedule) → StopsAt err (calls_of (others (drop l.op-index l.ops))) (g.F.Folder.schedule l.folder) now → StopsAt err (calls_of (others l.ops)) (g.F.Folder.schedule l.fn.folder) now;
      memory : g.F.Folder.memory_failures l.folder ≡ g.F.Folder.memory_failures l.fn.folder;
      writes : g.F.Folder.write_faults l.folder ≡ g.F.Folder.write_faults l.fn.folder;
      steady : g.F.Folder.steady l.folder ≡ g.F.Folder.steady l.fn.folder;
      reads : g.F.Folder.read_faults l.folder ≡ g.F.Folder.read_faults l.fn.folder;
    }
