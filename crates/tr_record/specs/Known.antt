-- Numbers of steps, as far as they are known.
use Rattle.std.specs.Prelude.{◌≡◌, ℕ, ◌≤◌, List, Option, Some, length, slice_get}
use Rattle.tr_nodes.specs.Nodes.{Node}
use Rattle.tr_record.specs.Pool.{steps_under}
use Rattle.tr_record.specs.declared.records.Record.{Record}
use Rattle.tr_record.specs.declared.steps.Step.{Step}

-- nodes, and for each record the number of its steps, where it is known
pub record Known : Type 0 where
  pub nodes : List (Node Step)
  pub heads : List (Option ℕ)

-- each number that is known of a record leads to its steps
abbrev pub AreKnown : Known → List Record → Type 0
AreKnown it table = (i head : ℕ) (rec : Record) → slice_get it.heads i ≡ Some (Some head) → slice_get table i ≡ Some rec → (head ≤ length it.nodes) × (steps_under it.nodes head ≡ rec.steps)
