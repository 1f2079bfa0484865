use Rattle.sh_grammar.specs.declared.spelled.Symbol.TheVariants as symbol
use Rattle.sh_parse.specs.Turns.{reached}
use Rattle.sh_parse.proofs.Turning.{turn_named}
use Rattle.sh_parse.proofs.reading.turn.Goals as goal

pub returns-in-Want-clause-turns : goal.returns-in-Want-clause-turns
returns-in-Want-clause-turns g c =
    let before = reached c.args.todo.now c.args.marks.now (g.S.Source.place c.args.s.now) in
    let after = reached c.args.todo.now c.leaf.new.marks (g.S.Source.place c.leaf.new.s) in
    turn_named c.args.symbol (symbol.Want c.in-Want.kind) before after c.leaf.result c.in-Want.is (c.leaf.ensures c.args.todo.now)
