use Rattle.tr_parts.specs.Piece.{blob}
use Rattle.tr_codec.proofs.PutsLemmas.{puts_then, puts_none, puts_next, puts_all}
use Rattle.tr_codec.proofs.key_pieces.put_words.Goals as goal

pub words-init : goal.words-init
words-init c = puts_none blob _

pub words-preserved : goal.words-preserved
words-preserved c = puts_next blob c.args.words.now c.words.word-index _ _ _ _ _ c.words-test.true c.word-item.is c.words.invariant c.in_ok-put_blob.ensures

pub returns : goal.returns
returns c = puts_then _ _ _ _ _ c.in_ok-put_number.ensures.puts (puts_all blob c.args.words.now c.words.word-index _ _ c.words-test.false c.words.invariant)
