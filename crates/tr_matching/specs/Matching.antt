-- What the records that are left have next.
use Rattle.std.specs.Prelude.{◌≡◌, ℕ, ◌≤◌, ◌<◌, List, length, slice_index}
use Rattle.std.specs.List.{AllByRecursion as Each}
use Rattle.rk_calls.specs.declared.drive.Spoke.{Spoke}
use Rattle.rk_calls.specs.declared.drive.Spoke.TheVariants.{Call as Calls, Exit as Exits, Short}
use Rattle.tr_record.specs.declared.records.Record.{Record}
use Rattle.tr_record.specs.Rec.{rec_at}
use Rattle.tr_matching.specs.Left.{next_at}

-- each of them has this next
abbrev pub AllSay : List Record → ℕ → Spoke → List ℕ → Type 0
AllSay old at s now = Each (λ i. next_at at (rec_at i old) ≡ s) now

-- a call costs something
abbrev pub IsDear : Spoke → Type 0
IsDear (Calls call cost) = 1 ≤ cost
IsDear (Exits status cost) = Unit {0}
IsDear Short = ⊥

-- they have this one next
abbrev pub HaveOne : List Record → ℕ → List ℕ → Spoke → Type 0
HaveOne old at now s = AllSay old at s now × IsDear s

-- they have no one next: they disagree, or ask at no cost
abbrev pub AreTorn : List Record → ℕ → List ℕ → Type 0
AreTorn old at now = (s : Spoke) → ¬ HaveOne old at now s

-- they are numbers of records, which have so many steps
abbrev pub AreIn : List Record → ℕ → List ℕ → Type 0
AreIn old at now = Each (λ i. (i < length old) × (at ≤ length (rec_at i old).steps)) now

-- the first of them
abbrev pub head_of : List ℕ → ℕ
head_of now = slice_index now 0
