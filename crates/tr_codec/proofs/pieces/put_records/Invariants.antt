use Rattle.std.proofs.Common.{◌≡◌, List, map, take}
use Rattle.std.specs.List.{AllByRecursion}
use Rattle.tr_nodes.specs.Tails.{Tail, head_in}
use Rattle.tr_parts.specs.Piece.{each}
use Rattle.tr_record.specs.declared.steps.Step.{Step}
use Rattle.tr_codec.specs.Puts.{Puts}
use Rattle.tr_codec.specs.Same.{same_step}
use Rattle.tr_codec.specs.Sound.{TypedEnds}
use Rattle.tr_codec.specs.Spelling.{record_piece, talks}
use Rattle.tr_codec.proofs.pieces.put_records.Given as goal

abbrev pub invariant-records : goal.invariant-records
invariant-records l = record {
  puts : (tails : List (Tail Step)) → l.heads ≡ map (head_in same_step tails) (talks l.records) → Puts (each (record_piece tails) (take l.i l.records)) l.initial.w l.w;
  typed : AllByRecursion TypedEnds (take l.i l.records);
}
