-- Records that count once.
use Rattle.std.specs.Prelude.{◌≡◌, ◌≢◌, ◌⊎◌, ℕ, List, [], ◌∷◌, slice_index}
use Rattle.std.specs.List.{AllByRecursion as Each}
use Rattle.tr_record.specs.declared.records.Record.{Record}
use Rattle.tr_record.specs.Rec.{rec_at}
use Rattle.tr_matching.specs.declared.distinct.TalkId.{TalkId}
use Rattle.tr_matching.specs.Earlier.{EarlierRecords}
use Rattle.tr_matching.specs.Left.{AreTalkAlike}

-- one of these did what this record did
abbrev pub Did : List Record → List ℕ → ℕ → Type 0
Did old [] i = ⊥
Did old (j ∷ numbers) i = AreTalkAlike (rec_at j old) (rec_at i old) ⊎ Did old numbers i

-- of these records, in their order, each is kept, or one before it that was kept did the same
abbrev pub IsOnce : List Record → List ℕ → List ℕ → List ℕ → Type 0
IsOnce old before [] kept = kept ≡ []
IsOnce old before (i ∷ numbers) kept =
    ((rest : List ℕ) × (kept ≡ i ∷ rest) × IsOnce old (i ∷ before) numbers rest)
    ⊎ (Did old before i × IsOnce old before numbers kept)

-- what the command of a record did, by numbers: that of all its steps, and how it exits
abbrev pub talk_of : EarlierRecords → ℕ → TalkId
talk_of e i = record { head = slice_index e.contents.heads i; exit = (rec_at i e.records).exit; cost = (rec_at i e.records).exit_cost }

-- no two of these did the same, by numbers
abbrev pub AreApart : EarlierRecords → List ℕ → Type 0
AreApart e [] = Unit {0}
AreApart e (i ∷ numbers) = Each (λ j. talk_of e i ≢ talk_of e j) numbers × AreApart e numbers
