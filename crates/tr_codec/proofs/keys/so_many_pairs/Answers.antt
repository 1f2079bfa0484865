use Rattle.std.proofs.Common.{ℕ, List, []}
use Rattle.std.proofs.lemmas.Result.{err_from_is_err_and}
use Rattle.tr_codec.specs.Reading.{pair_at, many_at}
use Rattle.tr_parts.proofs.LoopLemmas.{goes_on, ends, is_done}
use Rattle.tr_codec.proofs.keys.so_many_pairs.Goals as goal

pub returns-in_err-pair : goal.returns-in_err-pair
returns-in_err-pair c =
    let p = err_from_is_err_and c.from_residual-in_err-pair.result c.from_residual-in_err-pair.ensures.1 in
    rw (p.1, p.2) (ends (λ (front : List (ℕ × ℕ)). pair_at) c.in_err-pair.field-0.0 c.pairs.pairs.items c.args.count c.pairs.counter c.pairs.rest.now (many_at (λ (front : List (ℕ × ℕ)). pair_at) c.args.count [] c.args.bytes.now) c.pairs-test.true c.in_err-pair.ensures c.pairs.invariant)

pub pairs-preserved : goal.pairs-preserved
pairs-preserved c =
    rw c.in_ok-push.ensures.items (goes_on (λ (front : List (ℕ × ℕ)). pair_at) c.pairs.pairs.items c.args.count c.pairs.counter c.pairs.rest.now c.in_ok-pair.pair c.in_ok-pair.after.now (many_at (λ (front : List (ℕ × ℕ)). pair_at) c.args.count [] c.args.bytes.now) c.pairs-test.true c.in_ok-pair.ensures c.pairs.invariant)

pub returns : goal.returns
returns c = is_done (λ (front : List (ℕ × ℕ)). pair_at) c.pairs.pairs.items c.args.count c.pairs.counter c.pairs.rest.now (many_at (λ (front : List (ℕ × ℕ)). pair_at) c.args.count [] c.args.bytes.now) c.pairs-test.false c.pairs.invariant
