use Rattle.std.proofs.Common.{sym}
use Rattle.rk_replay.proofs.talks.Talks.group.Goals as goal

pub returns-in-Some-clause-begun : goal.returns-in-Some-clause-begun
returns-in-Some-clause-begun c = (c.requires.talks.firsts c.args.key.now c.in-Some.g (sym c.in-Some.ensures)).0

pub returns-in-Some-clause-are : goal.returns-in-Some-clause-are
returns-in-Some-clause-are c = (c.requires.talks.firsts c.args.key.now c.in-Some.g (sym c.in-Some.ensures)).1
