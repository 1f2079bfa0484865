use Rattle.ut_grep.specs.Values.{grep_value}
use Rattle.ut_grep.proofs.PassingLemmas.{any_number}
use Rattle.ut_grep.proofs.grep.Grep.number_behind.Goals as goal

pub returns-then-not-self : goal.returns-then-not-self
returns-then-not-self c = any_number (grep_value c.args.self.now) _ _ c.if-not-self.true
