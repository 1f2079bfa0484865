use Rattle.sh_grammar.specs.Named.{symbol_named}
use Rattle.sh_parse.proofs.Turning.{stops_there}
use Rattle.sh_parse.proofs.reading.read_marks.Goals as goal

pub returns-in-Err-turn : goal.returns-in-Err-turn
returns-in-Err-turn g c = stops_there (g.S.Source.place c.args.s.now) (symbol_named c.in-Some.symbol) c.pop.new.self c.turns.todo c.turns.marks (g.S.Source.place c.turns.s) (g.S.Source.place c.turn.new.s) c.in-Err-turn.stop c.in-Some.ensures c.turns.invariant.0 c.in-Err-turn.ensures.turns
