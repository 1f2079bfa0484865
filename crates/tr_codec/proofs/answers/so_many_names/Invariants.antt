use Rattle.std.proofs.Common.{◌≡◌, ◌-◌, ℕ, List, []}
use Rattle.std.specs.Prelude.{fold}
use Rattle.tr_codec.specs.Reading.{name_at, many_at}
use Rattle.tr_codec.specs.Used.{used_by}
use Rattle.tr_codec.proofs.answers.so_many_names.Given as goal

abbrev pub invariant-names : goal.invariant-names
invariant-names l = record {
  read : many_at (λ (front : List (List ℕ)). name_at l.blobs) (l.count - l.counter) l.names.items l.rest ≡ many_at (λ (front : List (List ℕ)). name_at l.blobs) l.count [] l.bytes;
  used : l.used ≡ fold (used_by l.blobs) l.initial.used l.names.items;
}
