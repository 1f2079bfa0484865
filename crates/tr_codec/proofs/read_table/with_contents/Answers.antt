use Rattle.std.proofs.Common.{◌≡◌, ◌∙◌, List, sym, ap, subst}
use Rattle.rk_base.specs.Text.{Text}
use Rattle.tr_record.specs.Contents.{Recorded, AreContents}
use Rattle.tr_codec.proofs.RecordLemmas.{contents_are}
use Rattle.tr_codec.proofs.read_table.with_contents.Goals as goal

pub new-requires : goal.new-requires
new-requires c =
    let pool = c.args.pool.value in
    let made : List Text → Recorded = λ texts. record { texts = texts; nodes = pool.nodes; contents = pool.contents; heads = c.args.heads.items } in
    let is : c.new-contents.result ≡ made c.args.blobs.now = c.new-contents.ensures ∙ ap made c.in_ok-texts.ensures in
    subst (λ (it : Recorded). AreContents it c.args.table) (sym is) (contents_are c.args.blobs.now pool c.args.heads.items c.args.table c.requires.heads c.requires.told)
