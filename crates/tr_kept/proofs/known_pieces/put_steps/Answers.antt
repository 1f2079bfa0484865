use Rattle.tr_kept.proofs.KnownPutLemmas.{put_talk}
use Rattle.tr_kept.proofs.known_pieces.put_steps.Goals as goal

pub returns-in_ok-number-in-None-clause-put : goal.returns-in_ok-number-in-None-clause-put
returns-in_ok-number-in-None-clause-put c = λ tails h so.
    let put = c.in_ok-number-in-None.ensures in
    put_talk tails c.args.pool.now.nodes c.args.numbers.now.items c.args.writer.now c.put_talk.new.self c.args.rec.now.steps c.in_ok-number-in-None.number h so (put.holds tails h) (put.number tails h)
