use Rattle.std.proofs.Common.{◌≡◌, ◌∙◌, ◌-◌, ◌+◌, ◌++◌, ◌∷◌, List, [], Option, ℕ, map, refl, sym, ap, subst}
use Rattle.std.proofs.lemmas.List.{map-append}
use Rattle.std.proofs.lemmas.Result.{err_from_is_err_and}
use Rattle.std.specs.List.{AllByRecursion}
use Rattle.tr_codec.specs.declared.rows.HeadedRow.{HeadedRow}
use Rattle.tr_codec.specs.OldReading.{row_at}
use Rattle.tr_codec.specs.OldRows.{IsWithin, rows_used}
use Rattle.tr_codec.specs.Reading.{Row, many_at}
use Rattle.tr_codec.specs.Rows.{row_under}
use Rattle.tr_codec.specs.Used.{row_used}
use Rattle.tr_parts.proofs.LoopLemmas.{starts, goes_on, ends, is_done}
use Rattle.tr_codec.proofs.OldRowLemmas.{all_push, rows_keep, within_keep}
use Rattle.tr_codec.proofs.UsedLemmas.{more_used}
use Rattle.tr_codec.proofs.old_records.so_many_rows.Goals as goal

pub rows-init : goal.rows-init
rows-init c = record {
  read = rw c.new-rows.ensures.items (starts (λ (before : List Row). row_at c.args.blobs.now) c.args.count c.args.bytes.now);
  within = rw c.new-rows.ensures.items tt;
  told = λ t. t;
  used = rw c.new-rows.ensures.items refl;
}

pub returns-in_err-row-clause-gives : goal.returns-in_err-row-clause-gives
returns-in_err-row-clause-gives c =
    let one : List Row → List ℕ → Option (Row × List ℕ) = λ before. row_at c.args.blobs.now in
    let p = err_from_is_err_and c.from_residual.result c.from_residual.ensures.1 in
    rw (p.1, p.2) (ends one c.in_err-row.field-0.0 (map (row_under c.rows.pool.nodes) c.rows.rows.items) c.args.count c.rows.counter c.rows.rest.now (many_at one c.args.count [] c.args.bytes.now) c.rows-test.true c.in_err-row.ensures.gives c.rows.invariant.read)

pub rows-preserved : goal.rows-preserved
rows-preserved c =
    let one : List Row → List ℕ → Option (Row × List ℕ) = λ before. row_at c.args.blobs.now in
    let blobs = c.args.blobs.now in
    let old = c.rows.pool in
    let new = c.row_of.new.pool in
    let items = c.rows.rows.items in
    let headed = c.in_ok-row.row in
    let row = row_under new.nodes headed in
    let keeps = c.in_ok-row.ensures.keeps in
    let grown : c.push_back.new.self.items ≡ items ++ headed ∷ [] = c.in_ok-push_back.ensures.items in
    let front : map (row_under old.nodes) items ++ row ∷ [] ≡ map (row_under new.nodes) c.push_back.new.self.items =
    ap (λ l. l ++ row ∷ []) (sym (rows_keep old new items keeps c.rows.invariant.within)) ∙ sym (map-append (row_under new.nodes) items (headed ∷ [])) ∙ sym (ap (map (row_under new.nodes)) grown)
    in
    record {
      read =
          subst (λ (l : List Row). many_at one (c.args.count - (c.rows.counter + 1)) l c.in_ok-row.after.now ≡ many_at one c.args.count [] c.args.bytes.now) front
          (goes_on one (map (row_under old.nodes) items) c.args.count c.rows.counter c.rows.rest.now row c.in_ok-row.after.now (many_at one c.args.count [] c.args.bytes.now) c.rows-test.true c.in_ok-row.ensures.gives c.rows.invariant.read);
      within = subst (λ (l : List HeadedRow). AllByRecursion (IsWithin new.nodes) l) (sym grown) (all_push (IsWithin new.nodes) items headed (within_keep old new items keeps c.rows.invariant.within) c.in_ok-row.ensures.within);
      told = λ first. c.in_ok-row.ensures.told (c.rows.invariant.told first);
      used =
          more_used (λ used (r : Row). row_used blobs used r.key r.steps) c.args.used.now c.rows.used c.row_of.new.used (map (row_under old.nodes) items) row c.rows.invariant.used c.in_ok-row.ensures.used
          ∙ ap (rows_used blobs c.args.used.now) front;
    }

pub returns-clause-gives : goal.returns-clause-gives
returns-clause-gives c =
    let one : List Row → List ℕ → Option (Row × List ℕ) = λ before. row_at c.args.blobs.now in
    is_done one (map (row_under c.rows.pool.nodes) c.rows.rows.items) c.args.count c.rows.counter c.rows.rest.now (many_at one c.args.count [] c.args.bytes.now) c.rows-test.false c.rows.invariant.read
