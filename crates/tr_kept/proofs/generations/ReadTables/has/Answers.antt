use Rattle.std.proofs.Common.{◌≡◌, ℕ, List, Some, length, slice_get, sym, subst, arith}
use Rattle.std.proofs.lemmas.List.{length-map}
use Rattle.tr_nodes.proofs.GetLemmas.{get_map, get_read}
use Rattle.tr_kept.specs.Generations.{heads_in}
use Rattle.tr_codec.specs.Rows.{AreHeads}
use Rattle.tr_kept.proofs.GenerationsReadLemmas.{has_next, has_here, has_none}
use Rattle.tr_kept.proofs.HeadedLemmas.{all_heads_long, all_heads_at}
use Rattle.tr_kept.proofs.generations.ReadTables.has.Goals as goal

pub returns-then-same_table : goal.returns-then-same_table
returns-then-same_table c = λ nodes are h mine.
    let vec = c.index-heads.result.now in
    let at : slice_get (heads_in c.args.self.now) c.tables.k ≡ Some vec.items = get_map _ c.args.self.now.heads.items c.tables.k vec (get_read c.args.self.now.heads.items c.tables.k vec vec (omega arith) c.index-heads.ensures) in
    let heads = all_heads_at nodes (heads_in c.args.self.now) c.args.self.now.kept c.tables.k vec.items c.in-Some.table.now h at (sym c.in-Some.ensures) in
    let told = c.same_table.ensures nodes are (subst (λ (l : List ℕ). AreHeads nodes l c.in-Some.table.now) (sym c.as_slice.ensures.value) heads) mine in
    sym (has_here c.args.self.now.kept c.tables.k c.in-Some.table.now c.args.records.now.table (sym c.in-Some.ensures) (told.0 c.if-same_table.true))

pub tables-preserved : goal.tables-preserved
tables-preserved c = λ nodes are h mine.
    let vec = c.index-heads.result.now in
    let at : slice_get (heads_in c.args.self.now) c.tables.k ≡ Some vec.items = get_map _ c.args.self.now.heads.items c.tables.k vec (get_read c.args.self.now.heads.items c.tables.k vec vec (omega arith) c.index-heads.ensures) in
    let heads = all_heads_at nodes (heads_in c.args.self.now) c.args.self.now.kept c.tables.k vec.items c.in-Some.table.now h at (sym c.in-Some.ensures) in
    let told = c.same_table.ensures nodes are (subst (λ (l : List ℕ). AreHeads nodes l c.in-Some.table.now) (sym c.as_slice.ensures.value) heads) mine in
    has_next c.args.self.now.kept c.tables.k c.in-Some.table.now c.args.records.now.table (sym c.in-Some.ensures) (λ e. let is = told.1 e in cc) (c.tables.invariant nodes are h mine)

pub returns : goal.returns
returns c = λ nodes are h mine.
    let long = all_heads_long nodes (heads_in c.args.self.now) c.args.self.now.kept h in
    let many : length (heads_in c.args.self.now) ≡ length c.args.self.now.heads.items = length-map c.args.self.now.heads.items _ in
    sym (has_none c.args.self.now.kept c.tables.k c.args.records.now.table (omega arith) (c.tables.invariant nodes are h mine))
