use Rattle.std.proofs.Common.{◌≡◌, Option, IfSome, drop, length, true}
use Rattle.std.specs.List.{list_all}
use Rattle.rk_base.specs.Text.{components, root}
use Rattle.rk_base.specs.Canonical.{is_canonical, is_name}
use Rattle.rk_folder.specs.Told.{is_dir, standing}
use Rattle.rk_folder.specs.Schedule.{MakesCalls, Schedule}
use Rattle.rk_install.specs.Known.{KnowsTold}
use Rattle.rk_install.specs.Looks.{lists_down, place_at, place_below}
use Rattle.rk_install.proofs.places.place_at.Given as goal

abbrev pub invariant-names : goal.invariant-names
invariant-names g l = record {
  held : g.F.Folder.told l.folder ≡ g.F.Folder.told l.fn.folder;
  reads : g.F.Folder.read_faults l.folder ≡ g.F.Folder.read_faults l.fn.folder;
  memory : g.F.Folder.memory_failures l.folder ≡ g.F.Folder.memory_failures l.fn.folder;
  steady : g.F.Folder.steady l.folder ≡ g.F.Folder.steady l.fn.folder;
  writes : g.F.Folder.write_faults l.folder ≡ g.F.Folder.write_faults l.fn.folder;
  known : KnowsTold (g.F.Folder.told l.folder) l.known;
  canonical : is_canonical l.dir ≡ true;
  named : list_all is_name (components l.names) ≡ true;
  dir_stands : IfSome (g.F.Folder.told l.fn.folder) (λ held. is_dir (standing held l.dir) ≡ true);
  calls : (now : Option Schedule) → MakesCalls (lists_down l.dir (components l.names)) (g.F.Folder.schedule l.folder) now → MakesCalls (lists_down root (components (drop 1 l.path))) (g.F.Folder.schedule l.fn.folder) now;
  place : IfSome (g.F.Folder.told l.fn.folder) (λ held. place_below held l.dir (components l.names) ≡ place_at held l.path);
}

abbrev pub decreases-names : goal.decreases-names
decreases-names g l = length l.names
