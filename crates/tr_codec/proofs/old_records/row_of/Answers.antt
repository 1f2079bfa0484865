use Rattle.tr_codec.proofs.old_records.row_of.Goals as goal

pub returns-clause-told : goal.returns-clause-told
returns-clause-told c = c.in_ok-head.ensures.told c.args.blobs.now c.in_ok-steps.ensures.told
