use Rattle.sh_grammar.specs.Named.{part_named, rule_named}
use Rattle.sh_parse.proofs.Turning.{none_halts, unwanted_halts, turn_chosen}
use Rattle.sh_parse.proofs.reading.node.Goals as goal

pub returns-in-None-clause-turns : goal.returns-in-None-clause-turns
returns-in-None-clause-turns g c = none_halts (part_named c.args.part) (g.S.Source.place c.args.s.now) c.in-None.ensures

pub returns-in-None-choose-clause-turns : goal.returns-in-None-choose-clause-turns
returns-in-None-choose-clause-turns g c = unwanted_halts (part_named c.args.part) c.in-Some.found.kind c.in-Some.found.length (g.S.Source.place c.args.s.now) c.in-Some.ensures.0 c.in-None-choose.ensures

pub returns-in-Some-choose-clause-turns : goal.returns-in-Some-choose-clause-turns
returns-in-Some-choose-clause-turns g c = turn_chosen (part_named c.args.part) c.in-Some.found.kind c.in-Some.found.length (rule_named c.in-Some-choose.rule) c.args.todo.now c.expand.new.todo c.args.marks.now c.expand.new.marks (g.S.Source.place c.args.s.now) c.expand.result c.in-Some.ensures.0 c.in-Some-choose.ensures c.expand.ensures
