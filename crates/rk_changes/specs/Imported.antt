-- What an imported folder holds.
use Rattle.std.specs.Prelude.{Bool}
use Rattle.rk_folder.specs.Told.{Held}
use Rattle.rk_folder.specs.Import.{hidden_read, listed_of, snapshot_of}
use Rattle.rk_changes.specs.declared.holding.Holding.{Holding}

-- its entries, whether the hidden directory stands, and its state files; of a build that begins afresh the database is
-- passed over
abbrev pub holding_of : Bool → Held → Holding
holding_of fresh held = record { entries = snapshot_of held; rkr = (hidden_read fresh held).rkr; state = (hidden_read fresh held).state }

-- what an import tells of it: each file with the path at which its bytes stand
abbrev pub listed_holding : Bool → Held → Holding
listed_holding fresh held = record { entries = listed_of held; rkr = (hidden_read fresh held).rkr; state = (hidden_read fresh held).state }
