use Rattle.std.proofs.Common.{◌≡◌, ℕ, ◌+◌, ◌≤◌, ◌<◌, length, slice_index}
use Rattle.std.specs.Prelude.{bit_or}
use Rattle.ut_places.proofs.places.unite.Given as goal

abbrev pub invariant-words : goal.invariant-words
invariant-words l = record {
  count : length l.words.items ≡ length l.initial.words.items;
  low : (i : ℕ) → i < l.from → slice_index l.words.items i ≡ slice_index l.initial.words.items i;
  done : (i : ℕ) → i < l.k → slice_index l.words.items (l.from + i) ≡ bit_or (slice_index l.initial.words.items (l.from + i)) (slice_index l.more i);
  high : (i : ℕ) → l.k ≤ i → slice_index l.words.items (l.from + i) ≡ slice_index l.initial.words.items (l.from + i);
}
