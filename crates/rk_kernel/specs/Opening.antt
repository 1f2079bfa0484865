-- Open, at the place that its path leads to.
use Rattle.std.specs.Prelude.{◌≡◌, ℕ, [], ◌∷◌, length, Bool, true, false, not, Some, None, Result, Ok, Err}
use Rattle.rk_base.specs.Text.{Text}
use Rattle.rk_base.specs.declared.errno.Errno.{Errno}
use Rattle.rk_base.specs.declared.errno.Errno.TheVariants.{NoEntry, IsDir, Denied}
use Rattle.rk_calls.specs.declared.call.How.{How}
use Rattle.rk_calls.specs.declared.call.How.TheVariants as how
use Rattle.rk_calls.specs.declared.answer.Answer.TheVariants as answer
use Rattle.rk_calls.specs.Given.{Given}
use Rattle.rk_calls.specs.Refs.{RefsHeld, with_opened}
use Rattle.rk_tree.specs.Entries.{is_dir}
use Rattle.rk_tree.specs.Hierarchy.{Hierarchy, node, mode_of, has_r, has_w, added, set_bytes}
use Rattle.rk_tree.specs.Refusals.{add_refusal, lacks_w}
use Rattle.rk_tree.specs.declared.content.Content.TheVariants.{Own}
use Rattle.rk_tree.specs.Node.{File}
use Rattle.rk_walk.specs.declared.place.Place.{Place}
use Rattle.rk_walk.specs.declared.place.Place.TheVariants.{Found, Absent}
use Rattle.rk_kernel.specs.World.{World, with_tree, with_open}
use Rattle.rk_kernel.specs.Rows.{unless}
use Rattle.rk_kernel.specs.declared.description.Description.{Description}
use Rattle.rk_kernel.specs.declared.description.Source.TheVariants as source

abbrev pub description : How → ℕ → Description
description how.Read n = record { source = source.Node n; offset = 0; read = true; write = false; append = false }
description how.Make n = record { source = source.Node n; offset = 0; read = false; write = true; append = false }
description how.Append n = record { source = source.Node n; offset = 0; read = false; write = true; append = true }

-- a description more in the world of this tree, under the command's next number
abbrev pub opened : World → RefsHeld → Hierarchy → How → ℕ → Given World
opened world refs tree how n = record { answer = answer.Opened; refs = with_opened refs (length world.opens); world = with_open (with_tree world tree) (description how n) }

abbrev pub is_read : How → Bool
is_read how.Read = true
is_read _ = false

-- the file's mode denies it
abbrev pub lacks : How → ℕ → Bool
lacks how.Read mode = not (has_r mode)
lacks _ mode = not (has_w mode)

-- Make empties what is there
abbrev pub emptied : How → Hierarchy → ℕ → Hierarchy
emptied how.Make tree n = set_bytes tree n []
emptied _ tree n = tree

-- an empty file of mode 0644 was made in a directory, or why not
abbrev pub MakesFile : World → ℕ → Text → World → Result ℕ Errno → Type 0
MakesFile world dir name now (Ok n) = (add_refusal world.tree dir name (File 420 (Own [])) ≡ None) × (n ≡ length world.tree.nodes) × (now ≡ with_tree world (added world.tree dir name (File 420 (Own []))))
MakesFile world dir name now (Err e) = (add_refusal world.tree dir name (File 420 (Own [])) ≡ Some e) × (now ≡ world)

-- an empty file of mode 0644 is made under an absent name
abbrev pub open_at : World → RefsHeld → How → Place → Given World
open_at world refs how (Absent dir name slash) =
    unless world refs ((is_read how, NoEntry) ∷ (lacks_w world.tree dir, Denied) ∷ [])
    (opened world refs (added world.tree dir name (File 420 (Own []))) how (length world.tree.nodes))
open_at world refs how (Found at) =
    unless world refs ((is_dir (node world.tree at.node), IsDir) ∷ (lacks how (mode_of (node world.tree at.node)), Denied) ∷ [])
    (opened world refs (emptied how world.tree at.node) how at.node)
