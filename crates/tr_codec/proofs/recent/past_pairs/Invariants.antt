use Rattle.std.proofs.Common.{◌≡◌, ◌-◌, ℕ, List, [], length, take}
use Rattle.tr_codec.specs.Reading.{pair_at, many_at}
use Rattle.tr_codec.proofs.recent.past_pairs.Given as goal

abbrev pub invariant-pairs : goal.invariant-pairs
invariant-pairs l = many_at (λ (front : List (ℕ × ℕ)). pair_at) (length l.pairs - l.pair-index) (take l.pair-index l.pairs) l.rest ≡ many_at (λ (front : List (ℕ × ℕ)). pair_at) (length l.pairs) [] l.bytes
