use Rattle.std.proofs.Common.{◌≡◌, ◌∙◌, ◌+◌, ◌≤◌, List, ◌++◌, Some, None, length, take, sym, ap, subst, arith}
use Rattle.std.proofs.lemmas.List.{take_all}
use Rattle.tr_nodes.proofs.GetLemmas.{get_some}
use Rattle.tr_record.specs.Generations.{table_at, records}
use Rattle.tr_record.specs.Known.{AreKnown}
use Rattle.tr_record.specs.declared.records.Record.{Record}
use Rattle.tr_kept.specs.KnownPut.{RecordsPut}
use Rattle.tr_kept.proofs.GenerationLemmas.{read_or}
use Rattle.tr_kept.proofs.KeptPutLemmas.{records_none, records_take}
use Rattle.tr_kept.proofs.kept_writing.put_all_nodes.Goals as goal

pub tables-init : goal.tables-init
tables-init c = records_none c.in_ok-nodes.nodes c.new-heads.result.items c.in_ok-nodes.ensures c.new-heads.ensures.items

pub unreachable-requires : goal.unreachable-requires
unreachable-requires c =
    let there = get_some c.args.kept.now c.tables.k (omega arith) in
    let clash : None ≡ Some there.0 = c.in_default.ensures ∙ there.1 in
    cc

pub put_table_nodes-requires : goal.put_table_nodes-requires
put_table_nodes-requires c =
    let kept = c.args.kept.now in
    let here : table_at c.tables.k kept ≡ c.as_slice-records.result.now = read_or kept c.tables.k c.in-Some.table.now (sym c.in-Some.ensures) ∙ sym c.as_slice-records.ensures.value in
    subst (λ (t : List Record). AreKnown c.known.result.now t) here c.known.ensures

pub tables-preserved : goal.tables-preserved
tables-preserved c =
    let kept = c.args.kept.now in
    let k = c.tables.k in
    let all : records (take k kept) ++ c.as_slice-records.result.now ≡ records (take (k + 1) kept) =
    ap (λ t. records (take k kept) ++ t) c.as_slice-records.ensures.value ∙ sym (records_take kept k c.in-Some.table.now (sym c.in-Some.ensures))
    in
    subst (λ (l : List Record). RecordsPut l c.put_table_nodes.new.heads.items c.put_table_nodes.new.nodes) all (c.in_ok-put_table_nodes.ensures (records (take k kept)) c.tables.invariant)

pub returns : goal.returns
returns c =
    let kept = c.args.kept.now in
    let le : length kept ≤ c.tables.k = omega arith in
    subst (λ (l : List (List Record)). RecordsPut (records l) c.tables.heads.items c.tables.nodes) (take_all c.tables.k kept le) c.tables.invariant
