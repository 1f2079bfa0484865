use Rattle.sh_parse.proofs.Turning.{turn_not_taken, turn_taken}
use Rattle.sh_parse.proofs.reading.leaf.Goals as goal

pub returns-in-Err : goal.returns-in-Err
returns-in-Err g c = λ rest. turn_not_taken c.args.kind c.in-Some.length (g.S.Source.place c.args.s.now) (g.S.Source.place c.take.new.self) c.in-Err.stop c.in-Some.ensures c.in-Err.ensures.took

pub returns-in-Ok : goal.returns-in-Ok
returns-in-Ok g c = λ rest. turn_taken c.args.kind c.in-Some.length rest c.args.marks.now c.put_leaf.new.marks (g.S.Source.place c.args.s.now) (g.S.Source.place c.take.new.self) c.in-Ok.text c.put_leaf.result c.in-Some.ensures c.in-Ok.ensures.took c.in-Ok.ensures.shrinks c.put_leaf.ensures
