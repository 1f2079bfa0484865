use Rattle.sh_parse.proofs.Sourced.{found_there}
use Rattle.sh_parse.proofs.text.TokensSource.look.Goals as goal

pub returns-clause-by_itself : goal.returns-clause-by_itself
returns-clause-by_itself c = found_there c.args.mode c.args.self.now.cursor c.look.result c.look.ensures.found
