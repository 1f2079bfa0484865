use Rattle.std.proofs.Common.{◌∙◌}
use Rattle.sh_lex.proofs.Popping.{pops, parens}
use Rattle.sh_lex.proofs.levels.pop_paren.Goals as goal

pub returns : goal.returns
returns c = record {
  last = c.or_false.ensures ∙ parens c.args.parens.now.items c.pop.new.self.items c.pop.new.self.len c.args.parens.now.len c.pop.result c.args.parens.now.ok.0 c.pop.new.self.ok.0 c.pop.ensures.items c.pop.ensures.cases;
  rest = pops c.args.parens.now.items c.pop.new.self.items c.pop.new.self.len c.args.parens.now.len c.pop.result c.args.parens.now.ok.0 c.pop.new.self.ok.0 c.pop.ensures.items c.pop.ensures.cases;
}
