use Rattle.std.proofs.Common.{◌≡◌, ◌∙◌, ◌<◌, ◌^◌, length, sym, ap, true, false, drop, List, Some, arith}
use Rattle.std.proofs.lemmas.Result.{err_from_is_err_and}
use Rattle.rk_base.specs.Text.{Text}
use Rattle.rk_attrs.specs.declared.rows.AttrRow.{AttrRow}
use Rattle.tr_attrs.specs.Attrs.{attrs_body}
use Rattle.tr_attrs.specs.RowReading.{rows_at}
use Rattle.tr_attrs.proofs.RowLemmas.{parsed_rows}
use Rattle.tr_parts.proofs.SealLemmas.{fails_finds}
use Rattle.tr_attrs.proofs.attrs.body_rows.Goals as goal

pub returns-in_err-attrs-clause-only : goal.returns-in_err-attrs-clause-only
returns-in_err-attrs-clause-only c = λ rows are e.
    let small : length c.args.front.now < 2 ^ 64 = omega arith in
    let p = err_from_is_err_and c.from_residual.result c.from_residual.ensures.1 in
    rw (p.1, p.2) (fails_finds c.in_err-attrs.field-0.0 _ rows c.in_err-attrs.ensures (parsed_rows c.args.front.now rows are small e))

pub returns-then-is_same-clause-found : goal.returns-then-is_same-clause-found
returns-then-is_same-clause-found c =
    let same = sym c.deref.ensures.value ∙ c.is_same.ensures.0 c.if-is_same.true in
    (c.in_ok-again.ensures.rows, sym same ∙ c.in_ok-again.ensures.body)

pub returns-then-is_same-clause-only : goal.returns-then-is_same-clause-only
returns-then-is_same-clause-only c = λ rows are e.
    let small : length c.args.front.now < 2 ^ 64 = omega arith in
    let found : rows_at (drop 4 c.args.front.now) ≡ Some c.in_ok-attrs.attrs = c.in_ok-attrs.ensures in
    let is = parsed_rows c.args.front.now rows are small e in cc

pub returns-else-is_same-clause-only : goal.returns-else-is_same-clause-only
returns-else-is_same-clause-only c = λ rows are e.
    let small : length c.args.front.now < 2 ^ 64 = omega arith in
    let found : rows_at (drop 4 c.args.front.now) ≡ Some c.in_ok-attrs.attrs = c.in_ok-attrs.ensures in
    let is = parsed_rows c.args.front.now rows are small e in
    let items : c.in_ok-attrs.attrs ≡ rows = cc in
    let alike : c.in_ok-again.again.items ≡ c.args.front.now = c.in_ok-again.ensures.body ∙ ap (λ (r : List (Text × AttrRow)). attrs_body r) items ∙ sym e in
    let bad : false ≡ true = sym c.if-is_same.false ∙ c.is_same.ensures.1 (c.deref.ensures.value ∙ alike) in cc
