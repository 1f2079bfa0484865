use Rattle.tr_codec.proofs.answers.answer_after.Goals as goal

pub returns-in-5-clause-used : goal.returns-in-5-clause-used
returns-in-5-clause-used c = c.found_of.ensures.none c.args.blobs.now c.args.used.now

pub returns-in-9-clause-used : goal.returns-in-9-clause-used
returns-in-9-clause-used c = c.same_answer_of.ensures.none c.args.blobs.now c.args.used.now

pub returns-in-10-clause-used : goal.returns-in-10-clause-used
returns-in-10-clause-used c = c.joined_of.ensures.none c.args.blobs.now c.args.used.now

pub returns-in-11-clause-used : goal.returns-in-11-clause-used
returns-in-11-clause-used c = c.no_of.ensures.none c.args.blobs.now c.args.used.now
