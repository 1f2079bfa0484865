-- The numbers of contents, beside a world.
use Rattle.std.specs.Prelude.{◌≡◌, ◌≢◌, ℕ, List, Bool, true, ◌&&◌, ◌==◌, if◌then◌else◌, Option, Some, None, Ok, Err, slice_get, slice_set, refl}
use Rattle.std.specs.Coded.{Coded, code_by, coded×, coded_ℕ, coded_list}
use Rattle.rk_base.specs.Text.{Text}
use Rattle.rk_calls.specs.Refs.{RefsHeld, ref_at}
use Rattle.rk_calls.specs.declared.answer.Answer.{Answer}
use Rattle.rk_calls.specs.declared.answer.Answer.TheVariants as answer
use Rattle.rk_calls.specs.declared.call.Call.{Call}
use Rattle.rk_calls.specs.declared.call.Call.TheVariants as call
use Rattle.rk_calls.specs.declared.call.How.{How}
use Rattle.rk_calls.specs.declared.call.How.TheVariants as how
use Rattle.rk_tree.specs.Hierarchy.{Hierarchy, file_bytes, held_in, node}
use Rattle.rk_walk.specs.Walk.{Spot, resolve}
use Rattle.rk_walk.specs.declared.place.Place.TheVariants.{Found, Absent}
use Rattle.rk_kernel.specs.World.{World}
use Rattle.rk_kernel.specs.declared.description.Description.{Description}
use Rattle.rk_kernel.specs.declared.description.Source.{Source}
use Rattle.rk_kernel.specs.declared.description.Source.TheVariants as source

-- a world, and the contents that have numbers, each at the place of its own
pub record Numbered : Type 0 where
  pub world : World
  pub contents : List Text

-- by which a proof tells two of them apart
abbrev pub numbered_code : Coded World → Coded Numbered
numbered_code world = code_by (World × List Text) (coded× world (coded_list (coded_list coded_ℕ))) (λ w. (w.world, w.contents)) (λ p. record { world = p.0; contents = p.1 }) (λ _. refl)

-- a number that stands beside a file is that of its bytes
abbrev pub AreNumbered : List Text → List (Option ℕ) → Hierarchy → Type 0
AreNumbered contents numbers tree = (n id : ℕ) → slice_get numbers n ≡ Some (Some id) → slice_get contents id ≡ Some (file_bytes (node tree n))

-- an answer is all that a file has
abbrev pub IsFileContent : Hierarchy → ℕ → Answer → Type 0
IsFileContent tree n it = it ≡ answer.Content (file_bytes (node tree n))

-- The files that calls read and change.

-- the file that is read or written, if it is one
abbrev pub file_of : Source → Option ℕ
file_of (source.Node n) = Some n
file_of (source.Pipe p) = None
file_of source.Output = None
file_of source.ErrorText = None
file_of source.Nothing = None

-- that of a description of which this holds
abbrev pub file_by : (Description → Bool) → Option Description → Option ℕ
file_by holds None = None
file_by holds (Some d) = if holds d then file_of d.source else None

abbrev pub file_opened : World → (Description → Bool) → Option ℕ → Option ℕ
file_opened world holds None = None
file_opened world holds (Some k) = file_by holds (slice_get world.opens k)

-- it may be read, and its first byte is the next
abbrev pub is_at_start : Description → Bool
is_at_start d = d.read && (d.offset == 0)

-- the file that a read reads whole
abbrev pub file_read : World → RefsHeld → Call → Option ℕ
file_read world refs (call.Read r) = file_opened world is_at_start (ref_at refs r)
file_read world refs _ = None

-- the file that is found where it is to be made anew
abbrev pub file_made : How → Spot → Option ℕ
file_made how.Read spot = None
file_made how.Append spot = None
file_made how.Make (Err e) = None
file_made how.Make (Ok (Found at)) = Some at.node
file_made how.Make (Ok (Absent dir name slash)) = None

-- the one file whose bytes a call may change
abbrev pub file_changed : World → RefsHeld → Call → Option ℕ
file_changed world refs (call.Open path how) = file_made how (resolve world.tree path true)
file_changed world refs (call.Write r bytes) = file_opened world (λ d. true) (ref_at refs r)
file_changed world refs _ = None

-- another file than this one, if it is one
abbrev pub IsOther : Option ℕ → ℕ → Type 0
IsOther None n = Unit {0}
IsOther (Some m) n = m ≢ n

-- each file holds what it held, but perhaps this one
abbrev pub Stays : Option ℕ → Hierarchy → Hierarchy → Type 0
Stays but old new = (n : ℕ) → IsOther but n → held_in (node new n) ≡ held_in (node old n)

-- a file that has lost its number
abbrev pub without_number : Option ℕ → List (Option ℕ) → List (Option ℕ)
without_number None numbers = numbers
without_number (Some n) numbers = slice_set numbers n None
