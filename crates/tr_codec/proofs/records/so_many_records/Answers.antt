use Rattle.std.proofs.Common.{ℕ, List, [], ◌∷◌, ◌++◌, append_assoc, refl, sym, subst}
use Rattle.std.proofs.lemmas.List.{append-nil}
use Rattle.std.proofs.lemmas.Result.{err_from_is_err_and}
use Rattle.tr_nodes.specs.Tails.{tails_of}
use Rattle.tr_record.specs.declared.records.Record.{Record}
use Rattle.tr_codec.specs.Reading.{next_rec, record_at, many_at}
use Rattle.tr_codec.specs.Rows.{row_under, InUse}
use Rattle.tr_codec.specs.Used.{key_used}
use Rattle.tr_parts.proofs.LoopLemmas.{starts, goes_on, ends, is_done}
use Rattle.tr_codec.proofs.RecordLemmas.{record_read, record_unread, heads_none, heads_more}
use Rattle.tr_codec.proofs.UsedLemmas.{more_used}
use Rattle.tr_codec.proofs.records.so_many_records.Goals as goal

pub records-init : goal.records-init
records-init c =
    let nodes = c.args.pool.now.value.nodes in
    record {
      read = rw c.new-table.ensures (starts (record_at c.args.blobs.now (tails_of nodes)) c.args.count c.args.bytes.now);
      blobs = rw c.new-table.ensures refl;
      heads = rw (c.new-table.ensures, c.new-heads.ensures.items) (heads_none nodes);
      nodes = rw c.new-heads.ensures.items (λ earlier h. subst (λ (l : List ℕ). InUse nodes l c.args.used.now.nodes) (sym (append-nil earlier)) h);
    }

pub returns-in_err-row-clause-gives : goal.returns-in_err-row-clause-gives
returns-in_err-row-clause-gives c =
    let one = record_at c.args.blobs.now (tails_of c.args.pool.now.value.nodes) in
    let p = err_from_is_err_and c.from_residual.result c.from_residual.ensures.1 in
    rw (p.1, p.2) (ends one c.in_err-row.field-0.0 c.records.table c.args.count c.records.counter c.records.rest.now (many_at one c.args.count [] c.args.bytes.now) c.records-test.true (record_unread _ _ _ _ _ (rw c.as_ref.ensures at c.in_err-row.ensures.gives)) c.records.invariant.read)

pub records-preserved : goal.records-preserved
records-preserved c =
    let nodes = c.args.pool.now.value.nodes in
    let one = record_at c.args.blobs.now (tails_of nodes) in
    let row = row_under nodes c.in_ok-row.row in
    let rec = next_rec c.records.table row in
    record {
      read =
          rw c.in_ok-push_row.ensures.table (goes_on one c.records.table c.args.count c.records.counter c.records.rest.now rec c.in_ok-row.after.now (many_at one c.args.count [] c.args.bytes.now) c.records-test.true (record_read _ _ _ _ row _ (rw c.as_ref.ensures at c.in_ok-row.ensures.gives)) c.records.invariant.read);
      blobs = rw c.in_ok-push_row.ensures.table (more_used (λ used (rec : Record). key_used c.args.blobs.now used rec.key) c.args.used.now.blobs c.records.used.blobs _ c.records.table rec c.records.invariant.blobs c.in_ok-row.ensures.used);
      heads = rw (c.in_ok-push_row.ensures.table, c.in_ok-push_row.ensures.heads) (heads_more nodes c.records.heads.items c.records.table c.in_ok-row.row.head rec c.records.invariant.heads (rw c.as_ref.ensures at c.in_ok-row.ensures.head) refl);
      nodes = rw c.in_ok-push_row.ensures.heads (λ (earlier : List ℕ) h.
          let one = (rw c.as_ref-in-records.ensures at c.in_use_after-used.ensures) (earlier ++ c.records.heads.items) (c.records.invariant.nodes earlier h) in
          subst (λ (l : List ℕ). InUse nodes l c.in_use_after-used.result) (append_assoc earlier c.records.heads.items (c.in_ok-row.row.head ∷ [])) one);
    }

pub returns-clause-gives : goal.returns-clause-gives
returns-clause-gives c =
    let one = record_at c.args.blobs.now (tails_of c.args.pool.now.value.nodes) in
    is_done one c.records.table c.args.count c.records.counter c.records.rest.now (many_at one c.args.count [] c.args.bytes.now) c.records-test.false c.records.invariant.read
