use Rattle.rk_kernel.proofs.NumberLemmas.{more_numbered}
use Rattle.rk_kernel.proofs.numbered.NumberedWorld.intern.Goals as goal

pub invariant_of-self-2 : goal.invariant_of-self-2
invariant_of-self-2 c = more_numbered c.self.inside.contents c.put.new.self c.self.inside.numbers.items c.self.inside.world.tree c.self.invariant c.put.ensures.kept
