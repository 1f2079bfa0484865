use Rattle.std.proofs.Common.{◌≡◌, ◌∙◌, Some, sym, ap, slice_get}
use Rattle.rk_base.specs.Text.{Text}
use Rattle.tr_codec.proofs.PutsLemmas.{numbered, stays_used}
use Rattle.tr_codec.proofs.writer.recalled.Goals as goal

pub returns-then-same-clause-used : goal.returns-then-same-clause-used
returns-then-same-clause-used c =
    let at : slice_get c.args.blobs.now c.in_ok-n.field-0.now ≡ Some c.args.text.now = sym c.in_ok-blob.ensures ∙ ap (λ (t : Text). Some t) (c.same.ensures.0 c.if-same.true) in
    stays_used _ _ (numbered _ _ _ c.as_slice.ensures.apart at).0

pub returns-then-same-clause-number : goal.returns-then-same-clause-number
returns-then-same-clause-number c =
    let at : slice_get c.args.blobs.now c.in_ok-n.field-0.now ≡ Some c.args.text.now = sym c.in_ok-blob.ensures ∙ ap (λ (t : Text). Some t) (c.same.ensures.0 c.if-same.true) in
    (numbered _ _ _ c.as_slice.ensures.apart at).1
