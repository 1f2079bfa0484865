use Rattle.sh_parse.proofs.Turning.{looked}
use Rattle.sh_parse.proofs.reading.length_of.Goals as goal

pub returns-in-None : goal.returns-in-None
returns-in-None g c = looked c.args.kind (g.S.Source.place c.args.s.now) c.look.result c.mode_of.result c.of_kind.result c.mode_of.ensures c.look.ensures.found c.of_kind.ensures
