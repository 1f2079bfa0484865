-- What a fresh run leaves.
use Rattle.std.specs.Prelude.{◌≡◌, ℕ, ◌+◌, List}
use Rattle.rk_calls.specs.Keys.{KeyValue}
use Rattle.rk_calls.specs.Refs.{RefsHeld}
use Rattle.tr_record.specs.declared.records.Record.{Record}
use Rattle.rk_traces.specs.Own.{total}
use Rattle.rk_traces.specs.Run.{Environment, Done, fresh}
use Rattle.rk_traces.specs.Spoken.{AreSpoken}

-- each of its records is spoken
abbrev pub LeavesSpoken : {W : Type 0} → Environment W → Type 0
LeavesSpoken {W} g =
    (p : ℕ) (key : KeyValue) (refs : RefsHeld) (before now : W) (status left : ℕ) (table : List Record) → fresh g p key refs before ≡ Done now status left table
    → AreSpoken g.first table

-- its records paid what is gone from the purse
abbrev pub PaysItsRecords : {W : Type 0} → Environment W → Type 0
PaysItsRecords {W} g =
    (p : ℕ) (key : KeyValue) (refs : RefsHeld) (before now : W) (status left : ℕ) (table : List Record) → fresh g p key refs before ≡ Done now status left table
    → total table + left ≡ p
