use Rattle.std.proofs.Common.{◌≡◌, ◌∙◌, [], Option, Some, ℕ, List, length, sym, ap, subst}
use Rattle.rk_base.specs.Text.{Text}
use Rattle.tr_nodes.specs.Tails.{tails_of}
use Rattle.tr_record.specs.Pool.{Pool}
use Rattle.tr_codec.specs.Reading.{given}
use Rattle.tr_codec.specs.Rows.{InUse}
use Rattle.tr_codec.specs.Used.{nodes_used, keys_used}
use Rattle.tr_codec.proofs.InUseLemmas.{in_use_none}
use Rattle.tr_codec.proofs.WholeLemmas.{table_told, records_read}
use Rattle.tr_codec.proofs.records.records_of.Goals as goal

pub returns-then-not-is_whole-clause-gives : goal.returns-then-not-is_whole-clause-gives
returns-then-not-is_whole-clause-gives c =
    let nodes = c.args.pool.now.value.nodes in
    let blobs = c.args.blobs.now in
    let records = c.in_ok-records.records in
    let used = c.so_many_records.new.used in
    let m : c.len-nodes.result ≡ length nodes = c.len-nodes.ensures ∙ ap (λ (p : Pool). length p.nodes) c.as_ref.ensures in
    let f : length c.as_slice.result.now ≡ length blobs = ap (λ (t : List Text). length t) c.as_slice.ensures.value in
    let is : used.blobs ≡ keys_used blobs (nodes_used blobs (Some 0) (tails_of nodes)) records.table = c.in_ok-records.ensures.blobs ∙ ap (λ u. keys_used blobs u records.table) c.requires.used in
    let in_use : InUse nodes records.heads.items used.nodes = c.in_ok-records.ensures.nodes [] (subst (λ (o : Option ℕ). InUse nodes [] o) (sym c.requires.none) (in_use_none nodes)) in
    records_read blobs (tails_of nodes) c.args.bytes.now c.in_ok-count.count c.in_ok-count.rest.now records.table c.in_ok-records.rest.now c.in_ok-count.ensures c.in_ok-records.ensures.gives
    ∙ table_told nodes records.heads.items records.table blobs used.nodes used.blobs c.in_ok-records.rest.now c.len-nodes.result (length c.as_slice.result.now) c.is_whole.result
    c.requires.nodes c.in_ok-records.ensures.heads in_use is m f c.is_whole.ensures
    ∙ ap (λ b. given b records.table) c.if-not-is_whole.true

pub returns-clause-gives : goal.returns-clause-gives
returns-clause-gives c =
    let nodes = c.args.pool.now.value.nodes in
    let blobs = c.args.blobs.now in
    let records = c.in_ok-records.records in
    let used = c.so_many_records.new.used in
    let m : c.len-nodes.result ≡ length nodes = c.len-nodes.ensures ∙ ap (λ (p : Pool). length p.nodes) c.as_ref.ensures in
    let f : length c.as_slice.result.now ≡ length blobs = ap (λ (t : List Text). length t) c.as_slice.ensures.value in
    let is : used.blobs ≡ keys_used blobs (nodes_used blobs (Some 0) (tails_of nodes)) records.table = c.in_ok-records.ensures.blobs ∙ ap (λ u. keys_used blobs u records.table) c.requires.used in
    let in_use : InUse nodes records.heads.items used.nodes = c.in_ok-records.ensures.nodes [] (subst (λ (o : Option ℕ). InUse nodes [] o) (sym c.requires.none) (in_use_none nodes)) in
    records_read blobs (tails_of nodes) c.args.bytes.now c.in_ok-count.count c.in_ok-count.rest.now records.table c.in_ok-records.rest.now c.in_ok-count.ensures c.in_ok-records.ensures.gives
    ∙ table_told nodes records.heads.items records.table blobs used.nodes used.blobs c.in_ok-records.rest.now c.len-nodes.result (length c.as_slice.result.now) c.is_whole.result
    c.requires.nodes c.in_ok-records.ensures.heads in_use is m f c.is_whole.ensures
    ∙ ap (λ b. given b records.table) c.if-not-is_whole.false
