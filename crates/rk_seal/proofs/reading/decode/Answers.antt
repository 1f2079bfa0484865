use Rattle.std.proofs.Common.{◌≤◌, length, ap, arith}
use Rattle.std.proofs.lemmas.List.{length-append}
use Rattle.sha2.specs.Sha256.{sha256}
use Rattle.sha2.proofs.Facts256.{length-sha256}
use Rattle.tr_parts.proofs.SealLemmas.{one_front, seal_right, unopened}
use Rattle.rk_seal.specs.Spelling.{list_body}
use Rattle.rk_seal.proofs.ListLemmas.{list_length}
use Rattle.rk_seal.proofs.reading.decode.Goals as goal

pub body_list-requires : goal.body_list-requires
body_list-requires c =
    let least : 44 ≤ length c.args.bytes.now = c.in_ok-front.ensures.0 in
    omega (arith, ap length c.in_ok-front.ensures.1, length-append c.in_ok-front.front.now (sha256 c.in_ok-front.front.now), length-sha256 c.in_ok-front.front.now)

pub returns-in_err-front-clause-only : goal.returns-in_err-front-clause-only
returns-in_err-front-clause-only c = λ calls are e.
    absurd (unopened 44 c.args.bytes.now (list_body calls) c.in_err-front.field-0.0 c.in_err-front.ensures (list_length c.args.bytes.now calls e) e)

pub returns-in-Ok-Some-clause-only : goal.returns-in-Ok-Some-clause-only
returns-in-Ok-Some-clause-only c = λ calls are e.
    let front = one_front c.args.bytes.now c.in_ok-front.front.now (list_body calls) c.in_ok-front.ensures.1 e in
    let read = c.in-Ok-Some.ensures.only calls are front in cc

pub returns-in-Ok-Some-clause-digest : goal.returns-in-Ok-Some-clause-digest
returns-in-Ok-Some-clause-digest c = λ le other. absurd (other (seal_right c.args.bytes.now c.in_ok-front.front.now c.in_ok-front.ensures.1))

pub returns-in-Ok-None-clause-only : goal.returns-in-Ok-None-clause-only
returns-in-Ok-None-clause-only c = λ calls are e.
    let front = one_front c.args.bytes.now c.in_ok-front.front.now (list_body calls) c.in_ok-front.ensures.1 e in
    let read = c.in-Ok-None.ensures.only calls are front in cc

pub returns-in-Ok-None-clause-damage : goal.returns-in-Ok-None-clause-damage
returns-in-Ok-None-clause-damage c = (c.in_ok-front.ensures.0, seal_right c.args.bytes.now c.in_ok-front.front.now c.in_ok-front.ensures.1)

pub returns-in-Ok-None-clause-digest : goal.returns-in-Ok-None-clause-digest
returns-in-Ok-None-clause-digest c = λ le other. absurd (other (seal_right c.args.bytes.now c.in_ok-front.front.now c.in_ok-front.ensures.1))

pub returns-in-Err-clause-digest : goal.returns-in-Err-clause-digest
returns-in-Err-clause-digest c = λ le other. absurd (other (seal_right c.args.bytes.now c.in_ok-front.front.now c.in_ok-front.ensures.1))
