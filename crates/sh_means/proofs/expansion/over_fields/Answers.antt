use Rattle.std.proofs.Common.{arith}
use Rattle.sh_means.specs.Views.{shell_of}
use Rattle.sh_means.proofs.Fields.{fields_over, fields_left}
use Rattle.sh_means.proofs.expansion.over_fields.Goals as goal

pub returns-then-len-eq0-clause-talk : goal.returns-then-len-eq0-clause-talk
returns-then-len-eq0-clause-talk c = λ k p. fields_over c.args.name c.args.fields c.args.body.value c.args.place k (shell_of c.args.state.now) p (omega arith)

pub returns-clause-talk : goal.returns-clause-talk
returns-clause-talk c = λ k p. fields_left c.args.name c.args.fields c.args.body.value c.args.place k (shell_of c.args.state.now) p (omega arith)
