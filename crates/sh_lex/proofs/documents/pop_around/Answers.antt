use Rattle.sh_lex.proofs.Popping.{pops, lasts}
use Rattle.sh_lex.proofs.documents.pop_around.Goals as goal

pub returns : goal.returns
returns c = record {
  last = lasts c.args.around.now.items c.pop.new.self.items c.pop.new.self.len c.args.around.now.len c.pop.result c.args.around.now.ok.0 c.pop.new.self.ok.0 c.pop.ensures.items c.pop.ensures.cases;
  rest = pops c.args.around.now.items c.pop.new.self.items c.pop.new.self.len c.args.around.now.len c.pop.result c.args.around.now.ok.0 c.pop.new.self.ok.0 c.pop.ensures.items c.pop.ensures.cases;
}
