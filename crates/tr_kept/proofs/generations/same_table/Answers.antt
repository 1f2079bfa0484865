use Rattle.std.proofs.Common.{◌≡◌, ◌∙◌, true, false, sym}
use Rattle.std.specs.Cmp.Lexicographic.{bytes_decides}
use Rattle.tr_kept.proofs.HeadedLemmas.{told_same, told_other}
use Rattle.tr_kept.proofs.generations.same_table.Goals as goal

pub returns-then-eq : goal.returns-then-eq
returns-then-eq c = λ nodes are h k.
    let hs = c.args.heads.now in
    let ks = c.args.b.now.heads.items in
    let same : hs ≡ ks = (bytes_decides hs c.as_slice.result.now).0 (sym c.if-eq.ensures) ∙ c.as_slice.ensures.value in
    told_same nodes are hs ks c.args.a.now c.args.b.now.table h k c.as_slice-then-eq.ensures.numbered c.as_slice-then-eq-2.ensures.numbered same c.all_same_ends.result
    (rw (c.as_slice-then-eq.ensures.value, c.as_slice-then-eq-2.ensures.value) at c.all_same_ends.ensures)

pub returns-else-eq : goal.returns-else-eq
returns-else-eq c = λ nodes are h k.
    let hs = c.args.heads.now in
    let ks = c.args.b.now.heads.items in
    let told = told_other nodes are hs ks c.args.a.now c.args.b.now.table h k (λ e.
    let is = (bytes_decides hs c.as_slice.result.now).1 (e ∙ sym c.as_slice.ensures.value) in
    let clash : false ≡ true = c.if-eq.ensures ∙ is in
    cc)
    in
    (λ t. told.0 (sym c.if-eq.false ∙ t), λ e. c.if-eq.false ∙ told.1 e)
