-- Contents of recorded answers, and the nodes of a table's steps, by numbers.
use Rattle.std.specs.Prelude.{◌≡◌, ℕ, ◌≤◌, List, [], Option, Some, length, slice_get}
use Rattle.rk_base.specs.Text.{Text}
use Rattle.rk_calls.specs.declared.answer.Answer.{Answer}
use Rattle.rk_calls.specs.declared.answer.Answer.TheVariants as answer
use Rattle.tr_nodes.specs.Nodes.{Node}
use Rattle.tr_record.specs.Pool.{steps_under}
use Rattle.tr_record.specs.declared.records.Record.{Record}
use Rattle.tr_record.specs.declared.steps.Step.{Step}

-- contents, the nodes of steps and for each the number of the content that its answer is, and for each record the number of its
-- first node
pub record Recorded : Type 0 where
  pub texts : List Text
  pub nodes : List (Node Step)
  pub contents : List (Option ℕ)
  pub heads : List ℕ

abbrev pub no_contents : Recorded
no_contents = record { texts = []; nodes = []; contents = []; heads = [] }

-- an answer is the content of this number
abbrev pub IsContent : List Text → ℕ → Answer → Type 0
IsContent texts n it = (text : Text) × (it ≡ answer.Content text) × (slice_get texts n ≡ Some text)

-- each record's number leads to its steps, and each node's number of a content is that of its answer
pub record AreContents (it : Recorded) (table : List Record) : Type 0 where
  pub many : length it.heads ≡ length table
  pub within : (i head : ℕ) → slice_get it.heads i ≡ Some head → head ≤ length it.nodes
  pub steps : (i head : ℕ) (rec : Record) → slice_get it.heads i ≡ Some head → slice_get table i ≡ Some rec → steps_under it.nodes head ≡ rec.steps
  pub numbers : (k n : ℕ) (node : Node Step) → slice_get it.contents k ≡ Some (Some n) → slice_get it.nodes k ≡ Some node → IsContent it.texts n node.step.answer
