use Rattle.std.proofs.Common.{◌≡◌, ◌-◌, ℕ, List, [], length, take}
use Rattle.std.specs.Prelude.{fold}
use Rattle.tr_codec.specs.Reading.{blob_at, many_at}
use Rattle.tr_codec.specs.Used.{used_by}
use Rattle.tr_codec.proofs.recent.past_texts.Given as goal

abbrev pub invariant-texts : goal.invariant-texts
invariant-texts l = record {
  stand : many_at (λ (front : List (List ℕ)). blob_at l.blobs) (length l.texts - l.text-index) (take l.text-index l.texts) l.rest ≡ many_at (λ (front : List (List ℕ)). blob_at l.blobs) (length l.texts) [] l.bytes;
  used : l.used ≡ fold (used_by l.blobs) l.initial.used (take l.text-index l.texts);
}
