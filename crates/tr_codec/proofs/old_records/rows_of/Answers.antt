use Rattle.std.proofs.Common.{◌≡◌, ◌∙◌, ◌&&◌, ◌==◌, List, [], length, map, sym, ap}
use Rattle.std.proofs.lemmas.Result.{err_from_is_err_and}
use Rattle.rk_base.specs.Text.{Text}
use Rattle.tr_codec.specs.OldRows.{records_from}
use Rattle.tr_codec.specs.Reading.{given}
use Rattle.tr_codec.specs.Rows.{row_under}
use Rattle.tr_codec.specs.Used.{all_used}
use Rattle.tr_codec.proofs.OldRowLemmas.{rows_uncounted, rows_unread, rows_read}
use Rattle.tr_codec.proofs.old_records.rows_of.Goals as goal

pub returns-in_err-count-clause-gives : goal.returns-in_err-count-clause-gives
returns-in_err-count-clause-gives c =
    let p = err_from_is_err_and c.from_residual.result c.from_residual.ensures.1 in
    rw (p.1, p.2) (rows_uncounted c.args.blobs.now c.args.bytes.now c.in_err-count.field-0.0 c.in_err-count.ensures)

pub returns-in_err-rows-clause-gives : goal.returns-in_err-rows-clause-gives
returns-in_err-rows-clause-gives c =
    let p = err_from_is_err_and c.from_residual-in_err-rows.result c.from_residual-in_err-rows.ensures.1 in
    rw (p.1, p.2) (rows_unread c.args.blobs.now c.args.bytes.now c.in_ok-count.count c.in_ok-count.rest.now c.in_ok-count.ensures c.in_err-rows.field-0.0 c.in_err-rows.ensures.gives)

pub returns-then-not-all_read-clause-gives : goal.returns-then-not-all_read-clause-gives
returns-then-not-all_read-clause-gives c =
    let blobs = c.args.blobs.now in
    let used = c.so_many_rows.new.used in
    let left = c.in_ok-rows.rest.now in
    let rows = map (row_under c.so_many_rows.new.pool.nodes) c.in_ok-rows.rows.items in
    let few : length c.as_slice.result.now ≡ length blobs = ap (λ (t : List Text). length t) c.as_slice.ensures.value in
    rows_read blobs c.args.bytes.now c.in_ok-count.count c.in_ok-count.rest.now c.in_ok-count.ensures rows left used c.in_ok-rows.ensures.gives c.in_ok-rows.ensures.used
    ∙ ap (λ n. given (all_used used n && (length left == 0)) (records_from [] rows)) (sym few)
    ∙ ap (λ b. given b (records_from [] rows)) (sym c.all_read.ensures ∙ c.if-not-all_read.true)

pub returns-clause-gives : goal.returns-clause-gives
returns-clause-gives c =
    let blobs = c.args.blobs.now in
    let used = c.so_many_rows.new.used in
    let left = c.in_ok-rows.rest.now in
    let rows = map (row_under c.so_many_rows.new.pool.nodes) c.in_ok-rows.rows.items in
    let few : length c.as_slice.result.now ≡ length blobs = ap (λ (t : List Text). length t) c.as_slice.ensures.value in
    rows_read blobs c.args.bytes.now c.in_ok-count.count c.in_ok-count.rest.now c.in_ok-count.ensures rows left used c.in_ok-rows.ensures.gives c.in_ok-rows.ensures.used
    ∙ ap (λ n. given (all_used used n && (length left == 0)) (records_from [] rows)) (sym few)
    ∙ ap (λ b. given b (records_from [] rows)) (sym c.all_read.ensures ∙ c.if-not-all_read.false)
