-- The tables of earlier builds that are kept.
use Rattle.std.specs.Prelude.{◌≡◌, ◌≢◌, ◌⊎◌, ℕ, ◌≤◌, ◌<◌, List, [], ◌∷◌, ◌++◌, length, take, filter, slice_index_or, remove}
use Rattle.rk_calls.specs.Keys.{KeyValue, same_key}
use Rattle.tr_record.specs.declared.records.Record.{Record}

-- the table at a place, the newest first
abbrev pub table_at : ℕ → List (List Record) → List Record
table_at i kept = slice_index_or kept i []

-- all their records, each at its number: those of the newest table first, each table's in launch order
abbrev pub records : List (List Record) → List Record
records [] = []
records (table ∷ kept) = table ++ records kept

-- the records of a key
abbrev pub of_key : KeyValue → List Record → List Record
of_key key table = filter (λ rec. same_key rec.key key) table

-- the records of a key in all tables, in the order of their numbers
abbrev pub candidates : KeyValue → List (List Record) → List Record
candidates key kept = of_key key (records kept)

-- at most eight tables; none is empty, and no two are equal
pub record AreGenerations (kept : List (List Record)) : Type 0 where
  pub few : length kept ≤ 8
  pub full : (i : ℕ) → i < length kept → table_at i kept ≢ []
  pub distinct : (i j : ℕ) → i < j → j < length kept → table_at i kept ≢ table_at j kept

-- no table at all is this one
abbrev pub IsNew : List Record → List (List Record) → Type 0
IsNew table kept = (i : ℕ) → i < length kept → table_at i kept ≢ table

-- an equal table moves to the front; else this one goes first, and a ninth is dropped
abbrev pub IsPushed : List Record → List (List Record) → List (List Record) → Type 0
IsPushed table old new =
    ((i : ℕ) × (i < length old) × (table_at i old ≡ table) × (new ≡ table ∷ remove old i))
    ⊎ (IsNew table old × (new ≡ take 8 (table ∷ old)))
