use Rattle.std.proofs.Common.{◌≤◌, ◌-◌, length}
use Rattle.rk_kernel.proofs.world.World.first_free.Given as goal

abbrev pub invariant-between : goal.invariant-between
invariant-between l = record { low : l.low ≤ length l.self.tree.nodes; high : length l.self.tree.nodes ≤ l.high }

abbrev pub decreases-between : goal.decreases-between
decreases-between l = l.high - l.low
