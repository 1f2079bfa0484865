-- Records of commands, in launch order.
use Rattle.std.specs.Prelude.{◌≡◌, ℕ, ◌<◌, List, [], ◌∷◌, ◌++◌, length, take, slice_set, slice_index_or, count_by, Option, find, ◌&&◌, ◌==◌}
use Rattle.rk_calls.specs.Keys.{KeyValue, same_key}
use Rattle.tr_record.specs.declared.records.Record.{Record}
use Rattle.tr_record.specs.declared.steps.Step.{Step}

-- how many records of a key there are
abbrev pub count_of : KeyValue → List Record → ℕ
count_of key table = count_by (λ rec. same_key rec.key key) table

-- a command that was launched and has asked nothing
abbrev pub fresh_rec : KeyValue → ℕ → Record
fresh_rec key ordinal = record { key = key; ordinal = ordinal; steps = []; exit = 0; exit_cost = 0 }

abbrev pub with_step : Record → Step → Record
with_step rec step = record rec { steps = rec.steps ++ step ∷ [] }

abbrev pub with_exit : Record → ℕ → ℕ → Record
with_exit rec status cost = record rec { exit = status; exit_cost = cost }

abbrev pub no_key : KeyValue
no_key = record { argv = []; wd = []; vars = [] }

-- the record at a place
abbrev pub rec_at : ℕ → List Record → Record
rec_at i table = slice_index_or table i (fresh_rec no_key 0)

-- the first record under a key and an ordinal
unfoldable pub found : List Record → KeyValue → ℕ → Option Record
found table key ordinal = find (λ rec. same_key rec.key key && (rec.ordinal == ordinal)) table

-- a command of this key is launched
unfoldable pub begun : KeyValue → List Record → List Record
begun key table = table ++ fresh_rec key (count_of key table) ∷ []

-- the command at a place has taken a step
unfoldable pub stepped : ℕ → Step → List Record → List Record
stepped i step table = slice_set table i (with_step (rec_at i table) step)

-- the command at a place has exited
unfoldable pub ended : ℕ → ℕ → ℕ → List Record → List Record
ended i status cost table = slice_set table i (with_exit (rec_at i table) status cost)

-- each ordinal is the number of earlier records of the same key
abbrev pub AreNumbered : List Record → Type 0
AreNumbered table = (i : ℕ) → i < length table → (rec_at i table).ordinal ≡ count_of (rec_at i table).key (take i table)
