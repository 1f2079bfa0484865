use Rattle.std.proofs.Common.{◌≤◌, ◌-◌, length}
use Rattle.rk_kernel.proofs.world.World.past_nodes.Given as goal

abbrev pub invariant-past : goal.invariant-past
invariant-past l = 1 ≤ l.past

abbrev pub decreases-past : goal.decreases-past
decreases-past l = length l.self.tree.nodes - l.past
