use Rattle.std.proofs.Common.{◌≡◌, List, [], Some}
use Rattle.rk_seal.specs.declared.ops.Op.{Op}
use Rattle.tr_parts.specs.Reading.{many_at}
use Rattle.tr_parts.proofs.LoopLemmas.{goes_on, is_done}
use Rattle.rk_seal.specs.Reading.{op_at}
use Rattle.rk_seal.proofs.LoopLemmas.{ends}
use Rattle.rk_seal.proofs.reading.so_many_ops.Goals as goal

pub returns-in-None : goal.returns-in-None
returns-in-None c =
    ends (λ (front : List Op). op_at) c.ops.ops.items c.args.count c.ops.counter c.ops.rest.now (many_at (λ (front : List Op). op_at) c.args.count [] c.args.bytes.now) c.ops-test.true (rw c.in-None.is at c.in_ok-op_of.ensures) c.ops.invariant

pub ops-preserved : goal.ops-preserved
ops-preserved c =
    let found = rw c.in-Some.is at c.in_ok-op_of.ensures in
    let next : op_at c.ops.rest.now ≡ Some (c.in-Some.op, c.in-Some.after.now) = cc in
    rw c.in_ok-push-in-Some.ensures.items (goes_on (λ (front : List Op). op_at) c.ops.ops.items c.args.count c.ops.counter c.ops.rest.now c.in-Some.op c.in-Some.after.now (many_at (λ (front : List Op). op_at) c.args.count [] c.args.bytes.now) c.ops-test.true next c.ops.invariant)

pub returns : goal.returns
returns c = is_done (λ (front : List Op). op_at) c.ops.ops.items c.args.count c.ops.counter c.ops.rest.now (many_at (λ (front : List Op). op_at) c.args.count [] c.args.bytes.now) c.ops-test.false c.ops.invariant
