use Rattle.tr_codec.proofs.calls.call_after.Goals as goal

pub returns-in-2-clause-used : goal.returns-in-2-clause-used
returns-in-2-clause-used c = c.read_of.ensures.none c.args.blobs.now c.args.used.now

pub returns-in-3-clause-used : goal.returns-in-3-clause-used
returns-in-3-clause-used c = c.read_line_of.ensures.none c.args.blobs.now c.args.used.now
