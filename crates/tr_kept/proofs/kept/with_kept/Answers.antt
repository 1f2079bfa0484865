use Rattle.std.proofs.Common.{◌≡◌, ◌∙◌, ℕ, List, Vec, Global, sym, ap, subst}
use Rattle.rk_base.specs.Text.{Text}
use Rattle.tr_record.specs.Contents.{Recorded, AreContents}
use Rattle.tr_record.specs.Generations.{records}
use Rattle.tr_kept.specs.Generations.{heads_in, all_heads}
use Rattle.tr_kept.proofs.HeadedLemmas.{all_heads_flat}
use Rattle.tr_codec.proofs.PutTableLemmas.{flat_map-map}
use Rattle.tr_codec.proofs.RecordLemmas.{contents_are}
use Rattle.tr_kept.proofs.kept.with_kept.Goals as goal

pub new-requires : goal.new-requires
new-requires c =
    let pool = c.args.pool.value in
    let tables = c.args.tables in
    let blobs = c.args.blobs.now in
    let made : List Text → List ℕ → Recorded = λ texts heads. record { texts = texts; nodes = pool.nodes; contents = pool.contents; heads = heads } in
    let numbers : c.in_ok-heads.heads.items ≡ all_heads tables =
    (rw c.as_slice.ensures.value at c.in_ok-heads.ensures) ∙ sym (flat_map-map (λ (l : List ℕ). l) (λ (heads : Vec ℕ Global). heads.items) tables.heads.items)
    in
    let is : c.new-contents.result ≡ made blobs (all_heads tables) = c.new-contents.ensures ∙ ap (λ t. made t c.in_ok-heads.heads.items) c.in_ok-texts.ensures ∙ ap (made blobs) numbers in
    subst (λ (it : Recorded). AreContents it (records tables.kept)) (sym is) (contents_are blobs pool (all_heads tables) (records tables.kept) (all_heads_flat pool.nodes (heads_in tables) tables.kept c.requires.heads) c.requires.told)
