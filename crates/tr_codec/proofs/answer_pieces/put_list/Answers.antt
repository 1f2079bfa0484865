use Rattle.tr_parts.specs.Piece.{blob}
use Rattle.tr_codec.proofs.PutsLemmas.{puts_then, puts_none, puts_next, puts_all}
use Rattle.tr_codec.proofs.answer_pieces.put_list.Goals as goal

pub names-init : goal.names-init
names-init c = puts_none blob _

pub names-preserved : goal.names-preserved
names-preserved c = puts_next blob c.args.names.now c.names.name-index _ _ _ _ _ c.names-test.true c.name-item.is c.names.invariant c.in_ok-put_name.ensures

pub returns : goal.returns
returns c = puts_then _ _ _ _ _ c.in_ok-put_number.ensures.puts (puts_all blob c.args.names.now c.names.name-index _ _ c.names-test.false c.names.invariant)
