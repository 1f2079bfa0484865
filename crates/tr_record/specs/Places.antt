-- Records that are put whole, and the numbers of the records of a key.
use Rattle.std.specs.Prelude.{◌≡◌, ℕ, suc, List, [], ◌∷◌, ◌++◌, if◌then◌else◌, unwrap_or}
use Rattle.std.specs.Map.{lookup}
use Rattle.rk_calls.specs.Keys.{KeyValue, same_key}
use Rattle.tr_record.specs.declared.steps.Step.{Step}
use Rattle.tr_record.specs.declared.records.Record.{Record}
use Rattle.tr_record.specs.Rec.{count_of, AreNumbered}

-- a whole record is put at the end; its ordinal is the number of earlier records of its key
abbrev pub pushed : KeyValue → List Step → ℕ → ℕ → List Record → List Record
pushed key steps exit exit_cost table = table ++ record { key = key; ordinal = count_of key table; steps = steps; exit = exit; exit_cost = exit_cost } ∷ []

-- the numbers of the records of a key, where the first record has this one
abbrev pub places_from : ℕ → KeyValue → List Record → List ℕ
places_from i key [] = []
places_from i key (rec ∷ table) = if same_key rec.key key then i ∷ places_from (suc i) key table else places_from (suc i) key table

unfoldable pub places_of : KeyValue → List Record → List ℕ
places_of key table = places_from 0 key table

-- what stands under a key
abbrev pub places_at : List (KeyValue × List ℕ) → KeyValue → List ℕ
places_at entries key = unwrap_or (lookup (same_key key) entries) []

-- one more number under a key, and no other change
abbrev pub Adds : List (KeyValue × List ℕ) → List (KeyValue × List ℕ) → KeyValue → ℕ → Type 0
Adds old new key n = (q : KeyValue) → places_at new q ≡ (if same_key key q then places_at old key ++ n ∷ [] else places_at old q)

-- the same numbers under each key
abbrev pub Stays : List (KeyValue × List ℕ) → List (KeyValue × List ℕ) → Type 0
Stays old new = (q : KeyValue) → places_at new q ≡ places_at old q

-- under each key stand the numbers of its records, and the records are numbered
pub record IsIndexed (entries : List (KeyValue × List ℕ)) (table : List Record) : Type 0 where
  pub numbered : AreNumbered table
  pub places : (q : KeyValue) → places_at entries q ≡ places_of q table
