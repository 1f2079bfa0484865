use Rattle.std.proofs.Common.{◌≡◌, ◌-◌, ℕ, List, []}
use Rattle.std.specs.Prelude.{fold}
use Rattle.tr_codec.specs.Reading.{blob_at, many_at}
use Rattle.tr_codec.specs.Used.{used_by}
use Rattle.tr_codec.proofs.parts.blobs_of.Given as goal

abbrev pub invariant-texts : goal.invariant-texts
invariant-texts l = record {
  read : many_at (λ (front : List (List ℕ)). blob_at l.blobs) (l.count - l.counter) l.texts.items l.rest ≡ many_at (λ (front : List (List ℕ)). blob_at l.blobs) l.count [] l.bytes;
  used : l.used ≡ fold (used_by l.blobs) l.initial.used l.texts.items;
}
