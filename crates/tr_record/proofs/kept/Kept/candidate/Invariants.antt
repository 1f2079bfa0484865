use Rattle.std.proofs.Common.{◌≡◌, drop, slice_get}
use Rattle.tr_record.specs.Generations.{candidates}
use Rattle.tr_record.proofs.kept.Kept.candidate.Given as goal

-- it is so far on among those of the tables that are left
abbrev pub invariant-tables : goal.invariant-tables
invariant-tables l = slice_get (candidates l.key (drop l.k l.self)) l.rest ≡ slice_get (candidates l.key l.self) l.i
