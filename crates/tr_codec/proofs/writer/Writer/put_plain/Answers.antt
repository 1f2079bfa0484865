use Rattle.std.proofs.Common.{◌∙◌, ap, ◌++◌}
use Rattle.tr_codec.specs.Puts.{Written}
use Rattle.tr_codec.proofs.PutsLemmas.{puts_plain}
use Rattle.tr_codec.proofs.writer.Writer.put_plain.Goals as goal

pub returns : goal.returns
returns c = puts_plain c.args.bytes.now c.args.self.now _ (ap (λ (w : Written). w.blobs) c.self.view_is) (c.in_ok-extend_from_slice.ensures.items ∙ ap (λ (w : Written). w.bytes ++ c.args.bytes.now) c.self.view_is)
