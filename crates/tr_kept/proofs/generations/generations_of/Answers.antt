use Rattle.std.proofs.Common.{◌≡◌, ◌∙◌, Some, List, length, ap, arith}
use Rattle.rk_base.specs.Text.{Text}
use Rattle.tr_nodes.specs.Tails.{tails_of}
use Rattle.tr_record.specs.Generations.{records}
use Rattle.tr_record.specs.Pool.{Pool}
use Rattle.tr_kept.specs.Generations.{heads_in, all_heads}
use Rattle.tr_codec.specs.Reading.{given}
use Rattle.tr_codec.specs.Used.{nodes_used, keys_used}
use Rattle.tr_kept.proofs.GenerationsReadLemmas.{too_many, generations_read, kept_told}
use Rattle.tr_kept.proofs.HeadedLemmas.{all_heads_flat}
use Rattle.tr_kept.proofs.generations.generations_of.Goals as goal

pub returns-then-count-gt8-clause-gives : goal.returns-then-count-gt8-clause-gives
returns-then-count-gt8-clause-gives c = too_many c.args.blobs.now (tails_of c.args.pool.now.value.nodes) c.args.bytes.now c.in_ok-count.count c.in_ok-count.rest.now c.in_ok-count.ensures c.if-count-gt8.true

pub returns-then-not-is_whole-clause-gives : goal.returns-then-not-is_whole-clause-gives
returns-then-not-is_whole-clause-gives c =
    let nodes = c.args.pool.now.value.nodes in
    let blobs = c.args.blobs.now in
    let tables = c.in_ok-tables.tables in
    let read = c.in_ok-tables.ensures.are in
    let used = c.so_many_generations.new.used in
    let m : c.len-nodes.result ≡ length nodes = c.len-nodes.ensures ∙ ap (λ (p : Pool). length p.nodes) c.as_ref.ensures in
    let f : length c.as_slice.result.now ≡ length blobs = ap (λ (t : List Text). length t) c.as_slice.ensures.value in
    let is : used.blobs ≡ keys_used blobs (nodes_used blobs (Some 0) (tails_of nodes)) (records tables.kept) = read.uses ∙ ap (λ u. keys_used blobs u (records tables.kept)) c.requires.used in
    generations_read blobs (tails_of nodes) c.args.bytes.now c.in_ok-count.count c.in_ok-count.rest.now tables.kept c.in_ok-tables.rest.now c.in_ok-count.ensures c.in_ok-tables.ensures.gives
    ∙ kept_told nodes (all_heads tables) tables.kept blobs used.nodes used.blobs c.in_ok-tables.rest.now c.len-nodes.result (length c.as_slice.result.now) c.is_whole.result
    c.requires.nodes (all_heads_flat nodes (heads_in tables) tables.kept read.heads) read.in_use is m f c.is_whole.ensures (omega (arith, c.in_ok-tables.ensures.many))
    ∙ ap (λ b. given b tables.kept) c.if-not-is_whole.true

pub returns-clause-gives : goal.returns-clause-gives
returns-clause-gives c =
    let nodes = c.args.pool.now.value.nodes in
    let blobs = c.args.blobs.now in
    let tables = c.in_ok-tables.tables in
    let read = c.in_ok-tables.ensures.are in
    let used = c.so_many_generations.new.used in
    let m : c.len-nodes.result ≡ length nodes = c.len-nodes.ensures ∙ ap (λ (p : Pool). length p.nodes) c.as_ref.ensures in
    let f : length c.as_slice.result.now ≡ length blobs = ap (λ (t : List Text). length t) c.as_slice.ensures.value in
    let is : used.blobs ≡ keys_used blobs (nodes_used blobs (Some 0) (tails_of nodes)) (records tables.kept) = read.uses ∙ ap (λ u. keys_used blobs u (records tables.kept)) c.requires.used in
    generations_read blobs (tails_of nodes) c.args.bytes.now c.in_ok-count.count c.in_ok-count.rest.now tables.kept c.in_ok-tables.rest.now c.in_ok-count.ensures c.in_ok-tables.ensures.gives
    ∙ kept_told nodes (all_heads tables) tables.kept blobs used.nodes used.blobs c.in_ok-tables.rest.now c.len-nodes.result (length c.as_slice.result.now) c.is_whole.result
    c.requires.nodes (all_heads_flat nodes (heads_in tables) tables.kept read.heads) read.in_use is m f c.is_whole.ensures (omega (arith, c.in_ok-tables.ensures.many))
    ∙ ap (λ b. given b tables.kept) c.if-not-is_whole.false
