use Rattle.std.proofs.Common.{◌≡◌, ◌++◌, ◌-◌, true}
use Rattle.rk_tree.specs.Entries.{is_dir}
use Rattle.rk_tree.specs.Hierarchy.{node}
use Rattle.rk_kernel.specs.Foot.{upwards, upwards_by}
use Rattle.rk_kernel.proofs.world.World.upwards.Given as goal

abbrev pub invariant-up : goal.invariant-up
invariant-up l = record {
  dir : is_dir (node l.self.tree l.at) ≡ true;
  same : upwards l.self.tree l.fn.dir ≡ l.cells.items ++ upwards_by (l.levels - l.counter) l.self.tree l.at;
}
