use Rattle.std.proofs.Common.{◌≡◌, ◌-◌, []}
use Rattle.tr_codec.specs.Reading.{fresh_at, many_at}
use Rattle.tr_codec.proofs.parts.fresh_blobs.Given as goal

abbrev pub invariant-blobs : goal.invariant-blobs
invariant-blobs l = many_at fresh_at (l.count - l.counter) l.blobs l.rest ≡ many_at fresh_at l.count [] l.bytes
