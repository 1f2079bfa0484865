use Rattle.std.proofs.Common.{◌≡◌, ◌-◌, None, drop, IfSome, true}
use Rattle.std.specs.List.{list_all}
use Rattle.std.specs.FinMap.{get}
use Rattle.rk_base.specs.Text.{depth}
use Rattle.rk_tree.specs.Entries.{IsWholeSnapshot, is_dir}
use Rattle.rk_folder.specs.Looks.{item_looks, looks_within}
use Rattle.rk_folder.proofs.LooksLemmas.{LooksSoFar}
use Rattle.rk_folder.specs.Steps.{MayCall, agrees, first_fault, listed_by, special_in, with_items}
use Rattle.rk_folder.proofs.entries.take_root.Given as goal

abbrev pub invariant-loop-item : goal.invariant-loop-item
invariant-loop-item g l = record {
  held : g.F.Folder.told l.folder ≡ g.F.Folder.told l.fn.folder;
  reads : g.F.Folder.read_faults l.folder ≡ g.F.Folder.read_faults l.fn.folder;
  memory : g.F.Folder.memory_failures l.folder ≡ g.F.Folder.memory_failures l.fn.folder;
  steady : g.F.Folder.steady l.folder ≡ g.F.Folder.steady l.fn.folder;
  writes : g.F.Folder.write_faults l.folder ≡ g.F.Folder.write_faults l.fn.folder;
  reach : g.F.Folder.reach l.folder ≡ g.F.Folder.reach l.fn.folder;
  agree : MayCall (g.F.Folder.told l.fn.folder) (λ held. list_all (agrees held l.root) (drop l.item-index l.items));
  fault : IfSome (g.F.Folder.told l.fn.folder) (λ held. first_fault (special_in held l.root) (drop l.item-index l.items) ≡ first_fault (special_in held l.root) l.items);
  whole : IsWholeSnapshot l.snapshot;
  placed : is_dir (get l.snapshot l.root) ≡ true;
  looks : IfSome (g.F.Folder.told l.fn.folder) (λ held. LooksSoFar (item_looks (looks_within (g.F.Folder.reach l.fn.folder - depth l.root) held) l.root) (drop l.item-index l.items) l.items (g.F.Folder.schedule l.fn.folder) (g.F.Folder.schedule l.folder));
  same : IfSome (g.F.Folder.told l.fn.folder) (λ held. with_items held l.root l.snapshot (drop l.item-index l.items) ≡ with_items held l.root l.fn.snapshot l.items);
  found : IfSome (g.F.Folder.told l.fn.folder) (λ held. listed_by held l.listed (drop l.item-index l.items) ≡ listed_by held None l.items);
}
