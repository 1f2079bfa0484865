use Rattle.std.proofs.Common.{◌≡◌, List, take}
use Rattle.tr_record.specs.declared.records.Record.{Record}
use Rattle.rk_replay.specs.Causes.{AreCauses}
use Rattle.rk_replay.specs.Ran.{ran_of}
use Rattle.rk_replay.proofs.causes.ran_of.Given as goal

abbrev pub invariant-records : goal.invariant-records
invariant-records l = (old : List Record) → AreCauses old l.table l.causes → l.ran ≡ ran_of old (take l.i l.records)
