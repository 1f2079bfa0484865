use Rattle.std.proofs.Common.{◌≡◌, ◌+◌, ◌-◌, ◌*◌, drop, IfSome, true}
use Rattle.std.specs.List.{list_all}
use Rattle.std.specs.FinMap.{get}
use Rattle.rk_base.specs.Text.{depth}
use Rattle.rk_tree.specs.Entries.{IsWholeSnapshot, is_dir}
use Rattle.rk_folder.specs.Looks.{item_looks, looks_within}
use Rattle.rk_folder.proofs.LooksLemmas.{LooksSoFar}
use Rattle.rk_folder.specs.Steps.{MayCall, agrees, first_fault, special_in, with_items}
use Rattle.rk_folder.proofs.importing.+descent.Given as goal

-- the names that a path may still get
abbrev pub decreases-take_items : goal.decreases-take_items
decreases-take_items g l = 4 * (g.F.Folder.reach l.folder.now - depth l.dir.now) + 3

abbrev pub decreases-take_all : goal.decreases-take_all
decreases-take_all g l = 4 * (g.F.Folder.reach l.folder.now + 1 - depth l.dir.now)

abbrev pub decreases-take_item : goal.decreases-take_item
decreases-take_item g l = 4 * (g.F.Folder.reach l.folder.now - depth l.dir.now) + 2

abbrev pub decreases-take_dir : goal.decreases-take_dir
decreases-take_dir g l = 4 * (g.F.Folder.reach l.folder.now - depth l.dir.now) + 1

abbrev pub invariant-take_items-loop-item : goal.invariant-take_items-loop-item
invariant-take_items-loop-item g l = record {
  held : g.F.Folder.told l.folder ≡ g.F.Folder.told l.fn.folder;
  reads : g.F.Folder.read_faults l.folder ≡ g.F.Folder.read_faults l.fn.folder;
  memory : g.F.Folder.memory_failures l.folder ≡ g.F.Folder.memory_failures l.fn.folder;
  steady : g.F.Folder.steady l.folder ≡ g.F.Folder.steady l.fn.folder;
  writes : g.F.Folder.write_faults l.folder ≡ g.F.Folder.write_faults l.fn.folder;
  reach : g.F.Folder.reach l.folder ≡ g.F.Folder.reach l.fn.folder;
  agree : MayCall (g.F.Folder.told l.fn.folder) (λ held. list_all (agrees held l.dir) (drop l.item-index l.items));
  fault : IfSome (g.F.Folder.told l.fn.folder) (λ held. first_fault (special_in held l.dir) (drop l.item-index l.items) ≡ first_fault (special_in held l.dir) l.items);
  whole : IsWholeSnapshot l.snapshot;
  placed : is_dir (get l.snapshot l.dir) ≡ true;
  looks : IfSome (g.F.Folder.told l.fn.folder) (λ held. LooksSoFar (item_looks (looks_within (g.F.Folder.reach l.fn.folder - depth l.dir) held) l.dir) (drop l.item-index l.items) l.items (g.F.Folder.schedule l.fn.folder) (g.F.Folder.schedule l.folder));
  same : IfSome (g.F.Folder.told l.fn.folder) (λ held. with_items held l.dir l.snapshot (drop l.item-index l.items) ≡ with_items held l.dir l.fn.snapshot l.items);
}
