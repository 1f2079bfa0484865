use Rattle.std.proofs.Common.{◌≡◌, ℕ, ◌+◌, ◌≤◌, ◌<◌, length, slice_index}
use Rattle.std.specs.Prelude.{bit_and, bit_xor}
use Rattle.ut_places.specs.Places.{word_at}
use Rattle.ut_places.proofs.places.Places.remove.Given as goal

abbrev pub invariant-words : goal.invariant-words
invariant-words l = record {
  before : l.self.before ≡ l.initial.self.before;
  count : length l.self.words.items ≡ length l.initial.self.words.items;
  done : (i : ℕ) → i < l.k → slice_index l.self.words.items i ≡ bit_xor (slice_index l.initial.self.words.items i) (bit_and (slice_index l.initial.self.words.items i) (word_at l.other (l.initial.self.before + i)));
  same : (i : ℕ) → l.k ≤ i → slice_index l.self.words.items i ≡ slice_index l.initial.self.words.items i;
}
