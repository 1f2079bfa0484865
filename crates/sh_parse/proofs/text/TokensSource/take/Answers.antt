use Rattle.sh_parse.proofs.Sourced.{took_text}
use Rattle.sh_parse.proofs.text.TokensSource.take.Goals as goal

pub returns-in-Ok-read-clause-took : goal.returns-in-Ok-read-clause-took
returns-in-Ok-read-clause-took c = took_text c.args.kind c.args.length c.args.self.now.cursor c.take.new.self c.in-Ok.taken c.in-Ok-read.text c.in-Ok.ensures c.in-Ok-read.ensures
