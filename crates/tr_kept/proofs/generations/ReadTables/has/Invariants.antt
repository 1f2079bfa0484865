use Rattle.std.proofs.Common.{◌≡◌, false, List, take}
use Rattle.std.specs.List.{list_any}
use Rattle.tr_nodes.specs.Nodes.{Node}
use Rattle.tr_nodes.specs.Tails.{AreNodes}
use Rattle.tr_record.specs.declared.steps.Step.{Step}
use Rattle.tr_kept.specs.Generations.{heads_in, AreAllHeads}
use Rattle.tr_kept.specs.KeptReading.{same_table}
use Rattle.tr_codec.specs.Rows.{AreHeads}
use Rattle.tr_kept.proofs.generations.ReadTables.has.Given as goal

-- it is none of those that were looked at
abbrev pub invariant-tables : goal.invariant-tables
invariant-tables l = (nodes : List (Node Step)) → AreNodes nodes → AreAllHeads nodes (heads_in l.self) l.self.kept → AreHeads nodes l.records.heads.items l.records.table → list_any (same_table l.records.table) (take l.k l.self.kept) ≡ false
