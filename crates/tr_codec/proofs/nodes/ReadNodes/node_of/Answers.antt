use Rattle.std.proofs.Common.{◌<◌, ◌^◌, List, length, ap, arith}
use Rattle.std.specs.List.{IsDistinct}
use Rattle.std.proofs.lemmas.Result.{err_from_is_err_and}
use Rattle.rk_base.specs.Text.{Text, same_text}
use Rattle.tr_codec.proofs.ExactLemmas.{are_bytes}
use Rattle.tr_codec.proofs.NodesReadLemmas.{NodeStands, too_large, fewer, refused, is_read}
use Rattle.tr_codec.proofs.nodes.ReadNodes.node_of.Goals as goal

pub returns-then-len-next-clause-fails : goal.returns-then-len-next-clause-fails
returns-then-len-next-clause-fails c = too_large c.args.blobs.now c.args.self.now c.args.bytes.now c.in_ok-next.next _ c.in_ok-next.ensures (let h = c.if-len-next.true in let n = c.len.ensures in omega arith)

pub front_of-requires : goal.front_of-requires
front_of-requires c =
    let texts = c.as_slice.ensures.value in
    let few : length c.args.blobs.now < 2 ^ 64 = let l = ap (λ (t : List Text). length t) texts in omega arith in
    let once : IsDistinct same_text c.args.blobs.now = c.as_slice.ensures.apart in
    let stands : NodeStands c.args.blobs.now c.args.bytes.now c.in_ok-next.next c.in_ok-step.step c.in_ok-step.end.now =
    record { once = once; few = few; small = are_bytes c.args.bytes.now (λ k. (c.type_inv.bytes k).fits); rest = c.in_ok-next.rest.now; number_is = c.in_ok-next.ensures; step_is = c.in_ok-step.ensures.gives }
    in
    fewer c.args.blobs.now c.args.self.now c.requires c.args.bytes.now (omega arith) c.in_ok-next.next c.in_ok-step.step c.in_ok-step.end.now stands

pub returns-in_err-add-clause-fails : goal.returns-in_err-add-clause-fails
returns-in_err-add-clause-fails c =
    let texts = c.as_slice.ensures.value in
    let few : length c.args.blobs.now < 2 ^ 64 = let l = ap (λ (t : List Text). length t) texts in omega arith in
    let once : IsDistinct same_text c.args.blobs.now = c.as_slice.ensures.apart in
    let stands : NodeStands c.args.blobs.now c.args.bytes.now c.in_ok-next.next c.in_ok-step.step c.in_ok-step.end.now =
    record { once = once; few = few; small = are_bytes c.args.bytes.now (λ k. (c.type_inv.bytes k).fits); rest = c.in_ok-next.rest.now; number_is = c.in_ok-next.ensures; step_is = c.in_ok-step.ensures.gives }
    in
    let p = err_from_is_err_and c.from_residual-in_err-add.result c.from_residual-in_err-add.ensures.1 in
    rw (p.1, p.2) (refused c.args.blobs.now c.args.self.now c.requires c.args.bytes.now (omega arith) c.in_ok-next.next c.in_ok-step.step c.in_ok-step.end.now stands c.front_of.result.now c.in_err-add.field-0.0 c.front_of.ensures (let h = c.if-len-next.false in let n = c.len.ensures in omega arith) c.in_err-add.ensures.err)

pub returns-clause-read : goal.returns-clause-read
returns-clause-read c =
    let texts = c.as_slice.ensures.value in
    let few : length c.args.blobs.now < 2 ^ 64 = let l = ap (λ (t : List Text). length t) texts in omega arith in
    let once : IsDistinct same_text c.args.blobs.now = c.as_slice.ensures.apart in
    let stands : NodeStands c.args.blobs.now c.args.bytes.now c.in_ok-next.next c.in_ok-step.step c.in_ok-step.end.now =
    record { once = once; few = few; small = are_bytes c.args.bytes.now (λ k. (c.type_inv.bytes k).fits); rest = c.in_ok-next.rest.now; number_is = c.in_ok-next.ensures; step_is = c.in_ok-step.ensures.gives }
    in
    is_read c.args.blobs.now c.args.self.now c.requires c.args.bytes.now (omega arith) c.in_ok-next.next c.in_ok-step.step c.in_ok-step.end.now stands c.front_of.result.now c.add.new.self c.in_ok-step.told c.args.used.now c.step_of.new.used c.front_of.ensures
    (let h = c.if-len-next.false in let n = c.len.ensures in omega arith) c.in_ok-add.ensures.ok c.in_ok-step.ensures.told c.in_ok-step.ensures.used
