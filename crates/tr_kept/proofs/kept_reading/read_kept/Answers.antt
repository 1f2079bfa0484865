use Rattle.std.proofs.Common.{◌∙◌, ◌≤◌, length, ap, Err, arith}
use Rattle.std.proofs.lemmas.List.{length-append}
use Rattle.std.proofs.lemmas.Result.{err_from_is_err_and}
use Rattle.sha2.specs.Sha256.{sha256}
use Rattle.sha2.proofs.Facts256.{length-sha256}
use Rattle.tr_kept.proofs.KeptSealLemmas.{is_body, is_spelling, has_front}
use Rattle.tr_codec.proofs.SealLemmas.{seal_right, unopened, whole_finds, whole_tells}
use Rattle.tr_kept.proofs.kept_reading.read_kept.Goals as goal

pub body_kept-requires : goal.body_kept-requires
body_kept-requires c =
    let least : 52 ≤ length c.args.bytes.now = c.in_ok-front.ensures.0 in
    omega (arith, ap length c.in_ok-front.ensures.1, length-append c.in_ok-front.front.now (sha256 c.in_ok-front.front.now), length-sha256 c.in_ok-front.front.now)

pub returns-in_err-front-clause-only : goal.returns-in_err-front-clause-only
returns-in_err-front-clause-only c = λ kept is.
    let front = has_front c.args.bytes.now kept is in
    absurd (unopened 52 c.args.bytes.now front.0 c.in_err-front.field-0.0 c.in_err-front.ensures front.2 front.1)

pub returns-in_err-kept-clause-only : goal.returns-in_err-kept-clause-only
returns-in_err-kept-clause-only c = λ kept is.
    let p = err_from_is_err_and c.from_residual-in_err-kept.result c.from_residual-in_err-kept.ensures.1 in
    rw (p.1, p.2) (whole_finds c.in_err-kept.field-0.0 kept (c.in_err-kept.ensures.only kept (is_body c.args.bytes.now c.in_ok-front.front.now kept c.in_ok-front.ensures.1 is)))

pub returns-in_err-kept-clause-damage : goal.returns-in_err-kept-clause-damage
returns-in_err-kept-clause-damage c =
    let p = err_from_is_err_and c.from_residual-in_err-kept.result c.from_residual-in_err-kept.ensures.1 in
    whole_tells 52 c.args.bytes.now c.in_ok-front.front.now c.in_err-kept.field-0.0 c.from_residual-in_err-kept.result (p.1 ∙ ap Err p.2) c.in_ok-front.ensures.0 c.in_ok-front.ensures.1

pub returns-in_err-kept-clause-digest : goal.returns-in_err-kept-clause-digest
returns-in_err-kept-clause-digest c = λ le other. absurd (other (seal_right c.args.bytes.now c.in_ok-front.front.now c.in_ok-front.ensures.1))

pub returns-clause-found : goal.returns-clause-found
returns-clause-found c = is_spelling c.args.bytes.now c.in_ok-front.front.now c.in_ok-kept.kept c.in_ok-front.ensures.1 c.in_ok-kept.ensures.found

pub returns-clause-only : goal.returns-clause-only
returns-clause-only c = λ kept is. c.in_ok-kept.ensures.only kept (is_body c.args.bytes.now c.in_ok-front.front.now kept c.in_ok-front.ensures.1 is)

pub returns-clause-digest : goal.returns-clause-digest
returns-clause-digest c = λ le other. absurd (other (seal_right c.args.bytes.now c.in_ok-front.front.now c.in_ok-front.ensures.1))
