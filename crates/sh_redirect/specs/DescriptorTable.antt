-- The shell's map of descriptors (XCU 2.7).
use Rattle.std.specs.Prelude.{ℕ, ◌+◌, ◌==◌, ◌-◌, List, [], ◌∷◌, Bool, ◌&&◌, Option, Some, None, if◌then◌else◌, nat_lt, nat_le, slice_get, slice_set, replicate}
use Rattle.rk_base.specs.Text.{Text}
use Rattle.rk_calls.specs.Refs.{flat}
use Rattle.sh_redirect.specs.declared.descriptors.DescriptorTable.{DescriptorTable}

-- the local number that a descriptor stands for
abbrev pub slot : DescriptorTable → ℕ → Option ℕ
slot ds d = flat (slice_get ds.slots d)

-- from now on it stands for this
abbrev pub set_slot : ℕ → Option ℕ → DescriptorTable → DescriptorTable
set_slot d n ds = if nat_lt d 10 then record ds { slots = slice_set ds.slots d n } else ds

-- at first each stands for the command's own
abbrev pub own : DescriptorTable
own = record { slots = Some 0 ∷ Some 1 ∷ Some 2 ∷ Some 3 ∷ Some 4 ∷ Some 5 ∷ Some 6 ∷ Some 7 ∷ Some 8 ∷ Some 9 ∷ [] }

-- each of these is as it was before, and the others stay
abbrev pub put_back : List ℕ → DescriptorTable → DescriptorTable → DescriptorTable
put_back [] before now = now
put_back (d ∷ ds) before now = put_back ds before (set_slot d (slot before d) now)

-- from d on, as pairs
abbrev pub numbered : ℕ → List (Option ℕ) → List (ℕ × ℕ)
numbered d [] = []
numbered d (None ∷ ns) = numbered (d + 1) ns
numbered d (Some n ∷ ns) = (d, n) ∷ numbered (d + 1) ns

-- what a launched command's descriptors stand for
abbrev pub refmap_of : DescriptorTable → List (ℕ × ℕ)
refmap_of ds = numbered 0 ds.slots

-- a text of one digit
abbrev pub digit : Text → Option ℕ
digit [] = None
digit (b ∷ []) = if nat_le 48 b && nat_le b 57 then Some (b - 48) else None
digit (b ∷ c ∷ bs) = None
