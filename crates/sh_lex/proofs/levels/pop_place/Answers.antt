use Rattle.sh_lex.proofs.Popping.{pops}
use Rattle.sh_lex.proofs.levels.pop_place.Goals as goal

pub returns : goal.returns
returns c = pops c.args.opened.now.items c.pop.new.self.items c.pop.new.self.len c.args.opened.now.len c.pop.result c.args.opened.now.ok.0 c.pop.new.self.ok.0 c.pop.ensures.items c.pop.ensures.cases
