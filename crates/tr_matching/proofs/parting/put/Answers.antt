use Rattle.std.proofs.Common.{sym}
use Rattle.tr_matching.proofs.PutLemmas.{put-none, put-some}
use Rattle.tr_matching.proofs.parting.put.Goals as goal

pub join-requires : goal.join-requires
join-requires c = (c.requires.parts.each c.in_ok-answer.answer c.in-Some-find.c (sym c.in-Some-find.ensures)).0

pub returns-in-Some-find : goal.returns-in-Some-find
returns-in-Some-find c =
    put-some c.args.earlier.now c.args.at c.args.members.now c.args.k _ c.args.parting.now c.join.new.parting c.requires.parts c.requires.here c.requires.go_on c.in-Some.step.now c.in-Some.ensures.step c.in-Some.rest c.in-Some.ensures.rest c.in_ok-answer.answer c.in_ok-answer.ensures
    c.join.result c.in-Some-find.c (sym c.in-Some-find.ensures) c.join.ensures.index c.join.ensures.groups

pub returns-in-None : goal.returns-in-None
returns-in-None c =
    put-none c.args.earlier.now c.args.at c.args.members.now c.args.k _ c.args.parting.now c.begin.new.parting c.requires.parts c.requires.here c.requires.go_on c.in-Some.step.now c.in-Some.ensures.step c.in-Some.rest c.in-Some.ensures.rest c.in_ok-answer.answer c.in_ok-answer.ensures
    c.begin.result (sym c.in-None.ensures) c.begin.ensures.index c.begin.ensures.groups
