use Rattle.std.proofs.Common.{◌≡◌, ◌-◌, [], length}
use Rattle.tr_nodes.specs.Tails.{tails_of}
use Rattle.tr_kept.specs.Generations.{TablesRead}
use Rattle.tr_kept.specs.KeptReading.{generation_at}
use Rattle.tr_codec.specs.Reading.{many_at}
use Rattle.tr_kept.proofs.generations.so_many_generations.Given as goal

abbrev pub invariant-generations : goal.invariant-generations
invariant-generations l = record {
  read : many_at (generation_at l.blobs (tails_of l.pool.value.nodes)) (l.count - l.counter) l.tables.kept l.rest ≡ many_at (generation_at l.blobs (tails_of l.pool.value.nodes)) l.count [] l.bytes;
  are : TablesRead l.blobs l.pool.value.nodes l.tables l.initial.used.blobs l.used;
  many : length l.tables.kept ≡ l.counter;
}
