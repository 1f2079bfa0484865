-- What is left of steps on a walk, as it is kept.
use Rattle.std.specs.Prelude.{◌≤◌, List, length}
use Rattle.tr_record.specs.Pool.{steps_under}
use Rattle.tr_record.specs.declared.steps.Step.{Step}
use Rattle.tr_record.specs.declared.walk.Left.{Left}
use Rattle.tr_record.specs.declared.walk.Left.TheVariants as left

abbrev pub steps_of : Left → List Step
steps_of (left.Own steps) = steps.now
steps_of (left.Shared pool head) = steps_under pool.now.nodes head

-- the number is 0 or that of a node
abbrev pub IsWithin : Left → Type 0
IsWithin (left.Own steps) = Unit {0}
IsWithin (left.Shared pool head) = head ≤ length pool.now.nodes
