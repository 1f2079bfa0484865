use Rattle.std.proofs.Common.{ℕ, List, [], length, refl}
use Rattle.tr_parts.proofs.LoopLemmas.{starts}
use Rattle.tr_codec.specs.Reading.{pair_at, many_at}
use Rattle.tr_codec.proofs.RecentLemmas.{stands_next, stand}
use Rattle.tr_codec.proofs.recent.past_pairs.Goals as goal

pub pairs-init : goal.pairs-init
pairs-init c = starts (λ (front : List (ℕ × ℕ)). pair_at) (length c.args.pairs.now) c.args.bytes.now

pub pairs-preserved : goal.pairs-preserved
pairs-preserved c =
    let one = λ (front : List (ℕ × ℕ)). pair_at in
    stands_next one c.args.pairs.now c.pairs.pair-index c.pairs.rest.now _ _ c.in_ok-rest.rest.now (many_at one (length c.args.pairs.now) [] c.args.bytes.now) c.pairs-test.true refl c.in_ok-rest.ensures c.pairs.invariant

pub returns : goal.returns
returns c =
    let one = λ (front : List (ℕ × ℕ)). pair_at in
    stand one c.args.pairs.now c.pairs.pair-index c.pairs.rest.now (many_at one (length c.args.pairs.now) [] c.args.bytes.now) c.pairs-test.false c.pairs.invariant
