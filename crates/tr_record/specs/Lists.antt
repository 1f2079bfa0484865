-- Lists of steps, and what is left of them on a walk, as they are kept.
use Rattle.std.specs.Prelude.{◌≤◌, List, length}
use Rattle.tr_record.specs.Pool.{steps_under}
use Rattle.tr_record.specs.declared.steps.Step.{Step}
use Rattle.tr_record.specs.declared.list.Storage.{Storage}
use Rattle.tr_record.specs.declared.list.Storage.TheVariants as storage

abbrev pub steps_of : Storage → List Step
steps_of (storage.Own steps) = steps.items
steps_of (storage.Shared pool head) = steps_under pool.value.nodes head

-- the number is 0 or that of a node
abbrev pub IsWithin : Storage → Type 0
IsWithin (storage.Own steps) = Unit {0}
IsWithin (storage.Shared pool head) = head ≤ length pool.value.nodes
