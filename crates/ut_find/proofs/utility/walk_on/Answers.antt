use Rattle.std.proofs.Common.{subst}
use Rattle.ut_find.specs.Walking.{IsNext}
use Rattle.ut_find.proofs.WalkLemmas.{walk_asks, walk_written}
use Rattle.ut_find.proofs.utility.walk_on.Goals as goal

pub returns-in-Some-clause-talk : goal.returns-in-Some-clause-talk
returns-in-Some-clause-talk c =
    walk_asks c.args.walk c.settle.new.self c.next.new.self c.args.answer c.in-Some.turn c.in_ok-settle.ensures (subst (IsNext c.settle.new.self c.next.new.self) c.in-Some.is c.in_ok-turn.ensures.next)

pub returns-in-None-clause-talk : goal.returns-in-None-clause-talk
returns-in-None-clause-talk c =
    walk_written c.args.walk c.settle.new.self c.next.new.self c.args.answer c.write.result c.in_ok-settle.ensures (subst (IsNext c.settle.new.self c.next.new.self) c.in-None.is c.in_ok-turn.ensures.next) c.write.ensures.talk
