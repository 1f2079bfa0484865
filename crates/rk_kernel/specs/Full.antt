-- A world in full, and what a call looks at.
use Rattle.std.specs.Prelude.{◌≡◌, Bool, true, if◌then◌else◌, Option, Some, None, Ok, Err, ℕ}
use Rattle.rk_base.specs.Text.{Text}
use Rattle.rk_base.specs.Canonical.{is_empty}
use Rattle.rk_calls.specs.Given.{Given}
use Rattle.rk_calls.specs.Refs.{RefsHeld, ref_at}
use Rattle.rk_calls.specs.declared.call.Call.{Call}
use Rattle.rk_calls.specs.declared.call.Call.TheVariants as call
use Rattle.rk_tree.specs.Fetched.{Gives}
use Rattle.rk_tree.specs.Hierarchy.{node, path_in}
use Rattle.rk_tree.specs.Node.{Node}
use Rattle.rk_walk.specs.Walk.{Spot, resolve}
use Rattle.rk_walk.specs.declared.place.Place.TheVariants.{Found, Absent}
use Rattle.rk_kernel.specs.World.{World}
use Rattle.rk_kernel.specs.Numbers.{file_opened}
use Rattle.rk_kernel.specs.Do.{answered}
use Rattle.rk_tree.specs.Full.{Told, full, is_known}

unfoldable pub full_world : Told → World → World
full_world told world = record world { tree = full told world.tree }

abbrev pub full_given : Told → Given World → Given World
full_given told it = record { answer = it.answer; refs = it.refs; world = full_world told it.world }

-- The file whose bytes a call looks at. A call that is refused looks at none, nor does a write of no bytes.

abbrev pub file_at : Spot → Option ℕ
file_at (Err e) = None
file_at (Ok (Found at)) = Some at.node
file_at (Ok (Absent dir name slash)) = None

abbrev pub file_written : World → Option ℕ → Bool → Option ℕ
file_written world k nothing = if nothing then None else file_opened world (λ d. d.write) k

abbrev pub file_seen : World → RefsHeld → Call → Option ℕ
file_seen world refs (call.Read r) = file_opened world (λ d. d.read) (ref_at refs r)
file_seen world refs (call.ReadLine r) = file_opened world (λ d. d.read) (ref_at refs r)
file_seen world refs (call.Write r bytes) = file_written world (ref_at refs r) (is_empty bytes)
file_seen world refs (call.Stat path follow) = file_at (resolve world.tree path follow)
file_seen world refs _ = None

abbrev pub is_seen : World → Option ℕ → Bool
is_seen world None = true
is_seen world (Some n) = is_known (node world.tree n)

-- whether the bytes are known that a call looks at
abbrev pub sees : World → RefsHeld → Call → Bool
sees world refs c = is_seen world (file_seen world refs c)

-- a call that sees what it looks at is answered as in Full
abbrev pub AnswersAlike : Type 0
AnswersAlike = (told : Told) (world : World) (refs : RefsHeld) (c : Call) → sees world refs c ≡ true → answered (full_world told world) refs c ≡ full_given told (answered world refs c)

-- bytes that were fetched of a file: those at its import path
abbrev pub IsFetched : Option Told → Option Node → Text → Type 0
IsFetched told it bytes = (path : Text) × (path_in it ≡ Some path) × Gives told path bytes
