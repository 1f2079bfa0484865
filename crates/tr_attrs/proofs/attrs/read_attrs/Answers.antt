use Rattle.std.proofs.Common.{◌∙◌, ◌≤◌, length, ap, Err, arith}
use Rattle.std.proofs.lemmas.List.{length-append}
use Rattle.std.proofs.lemmas.Result.{err_from_is_err_and}
use Rattle.sha2.specs.Sha256.{sha256}
use Rattle.sha2.proofs.Facts256.{length-sha256}
use Rattle.tr_attrs.specs.Attrs.{attrs_body}
use Rattle.tr_attrs.proofs.RowLemmas.{attrs_length}
use Rattle.tr_parts.proofs.SealLemmas.{one_front, seal_right, unopened, whole_finds, whole_tells}
use Rattle.tr_attrs.proofs.attrs.read_attrs.Goals as goal

pub body_rows-requires : goal.body_rows-requires
body_rows-requires c =
    let least : 44 ≤ length c.args.bytes.now = c.in_ok-front.ensures.0 in
    omega (arith, ap length c.in_ok-front.ensures.1, length-append c.in_ok-front.front.now (sha256 c.in_ok-front.front.now), length-sha256 c.in_ok-front.front.now)

pub returns-in_err-front-clause-only : goal.returns-in_err-front-clause-only
returns-in_err-front-clause-only c = λ rows are e.
    absurd (unopened 44 c.args.bytes.now (attrs_body rows) c.in_err-front.field-0.0 c.in_err-front.ensures (attrs_length c.args.bytes.now rows e) e)

pub returns-in_err-attrs-clause-only : goal.returns-in_err-attrs-clause-only
returns-in_err-attrs-clause-only c = λ rows are e.
    let p = err_from_is_err_and c.from_residual-in_err-attrs.result c.from_residual-in_err-attrs.ensures.1 in
    rw (p.1, p.2) (whole_finds c.in_err-attrs.field-0.0 rows (c.in_err-attrs.ensures.only rows are (one_front c.args.bytes.now c.in_ok-front.front.now (attrs_body rows) c.in_ok-front.ensures.1 e)))

pub returns-in_err-attrs-clause-damage : goal.returns-in_err-attrs-clause-damage
returns-in_err-attrs-clause-damage c =
    let p = err_from_is_err_and c.from_residual-in_err-attrs.result c.from_residual-in_err-attrs.ensures.1 in
    whole_tells 44 c.args.bytes.now c.in_ok-front.front.now c.in_err-attrs.field-0.0 c.from_residual-in_err-attrs.result (p.1 ∙ ap Err p.2) c.in_ok-front.ensures.0 c.in_ok-front.ensures.1

pub returns-in_err-attrs-clause-digest : goal.returns-in_err-attrs-clause-digest
returns-in_err-attrs-clause-digest c = λ le other. absurd (other (seal_right c.args.bytes.now c.in_ok-front.front.now c.in_ok-front.ensures.1))

pub returns-clause-only : goal.returns-clause-only
returns-clause-only c = λ rows are e. c.in_ok-attrs.ensures.only rows are (one_front c.args.bytes.now c.in_ok-front.front.now (attrs_body rows) c.in_ok-front.ensures.1 e)

pub returns-clause-digest : goal.returns-clause-digest
returns-clause-digest c = λ le other. absurd (other (seal_right c.args.bytes.now c.in_ok-front.front.now c.in_ok-front.ensures.1))
