use Rattle.std.proofs.Common.{◌∙◌, ap, ◌++◌}
use Rattle.tr_parts.specs.Piece.{num, with_use}
use Rattle.tr_codec.specs.Puts.{Written}
use Rattle.tr_codec.proofs.PutsLemmas.{puts_blob}
use Rattle.tr_codec.proofs.writer.Writer.put_blob.Goals as goal

pub returns : goal.returns
returns c =
    puts_blob c.args.text.now c.in_ok-n.n c.args.self.now _
    (c.in_ok-n.ensures.blobs ∙ ap (λ (w : Written). with_use w.blobs c.args.text.now) c.self.view_is)
    c.in_ok-n.ensures.number
    (c.in_ok-push_number.ensures ∙ ap (λ m. c.self.inside.out.items ++ num m) c.number.ensures ∙ ap (λ (w : Written). w.bytes ++ num c.in_ok-n.n) c.self.view_is)
