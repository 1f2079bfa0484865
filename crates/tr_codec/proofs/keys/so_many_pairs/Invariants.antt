use Rattle.std.proofs.Common.{◌≡◌, ◌-◌, ℕ, List, []}
use Rattle.tr_codec.specs.Reading.{pair_at, many_at}
use Rattle.tr_codec.proofs.keys.so_many_pairs.Given as goal

abbrev pub invariant-pairs : goal.invariant-pairs
invariant-pairs l = many_at (λ (front : List (ℕ × ℕ)). pair_at) (l.count - l.counter) l.pairs.items l.rest ≡ many_at (λ (front : List (ℕ × ℕ)). pair_at) l.count [] l.bytes
