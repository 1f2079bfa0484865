use Rattle.std.proofs.Common.{[]}
use Rattle.std.proofs.lemmas.Result.{err_from_is_err_and}
use Rattle.tr_codec.specs.Reading.{fresh_at, many_at}
use Rattle.tr_parts.proofs.LoopLemmas.{starts, goes_on, ends, is_done}
use Rattle.tr_codec.proofs.parts.fresh_blobs.Goals as goal

pub blobs-init : goal.blobs-init
blobs-init c = rw c.new-blobs.ensures (starts fresh_at c.args.count c.args.bytes.now)

pub returns-in_err-after : goal.returns-in_err-after
returns-in_err-after c =
    let p = err_from_is_err_and c.from_residual.result c.from_residual.ensures.1 in
    rw (p.1, p.2) (ends fresh_at c.in_err-after.field-0.0 c.blobs.blobs c.args.count c.blobs.counter c.blobs.rest.now (many_at fresh_at c.args.count [] c.args.bytes.now) c.blobs-test.true c.in_err-after.ensures.gives c.blobs.invariant)

pub blobs-preserved : goal.blobs-preserved
blobs-preserved c =
    rw c.in_ok-after.ensures.blobs (goes_on fresh_at c.blobs.blobs c.args.count c.blobs.counter c.blobs.rest.now _ c.in_ok-after.after.now (many_at fresh_at c.args.count [] c.args.bytes.now) c.blobs-test.true c.in_ok-after.ensures.gives c.blobs.invariant)

pub returns : goal.returns
returns c = is_done fresh_at c.blobs.blobs c.args.count c.blobs.counter c.blobs.rest.now (many_at fresh_at c.args.count [] c.args.bytes.now) c.blobs-test.false c.blobs.invariant
