use Rattle.std.proofs.Common.{◌≡◌, List, length, map, take, drop}
use Rattle.std.specs.List.{AllByRecursion}
use Rattle.tr_nodes.specs.Tails.{Tail, head_in}
use Rattle.tr_parts.specs.Piece.{each, counted}
use Rattle.tr_record.specs.Generations.{records}
use Rattle.tr_record.specs.Rec.{AreNumbered}
use Rattle.tr_record.specs.declared.steps.Step.{Step}
use Rattle.tr_codec.specs.Puts.{Puts}
use Rattle.tr_codec.specs.Same.{same_step}
use Rattle.tr_codec.specs.Sound.{TypedEnds}
use Rattle.tr_codec.specs.Spelling.{record_piece, talks}
use Rattle.tr_kept.proofs.kept_writing.put_tables.Given as goal

abbrev pub invariant-tables : goal.invariant-tables
invariant-tables l = record {
  long : length l.left ≡ length (records (drop l.k l.kept));
  heads : (tails : List (Tail Step)) → l.heads ≡ map (head_in same_step tails) (talks (records l.kept)) → l.left ≡ map (head_in same_step tails) (talks (records (drop l.k l.kept)));
  puts : (tails : List (Tail Step)) → l.heads ≡ map (head_in same_step tails) (talks (records l.kept)) → Puts (each (counted (record_piece tails)) (take l.k l.kept)) l.initial.w l.w;
  typed : AllByRecursion (AllByRecursion TypedEnds) (take l.k l.kept);
  numbered : AllByRecursion AreNumbered (take l.k l.kept);
}
