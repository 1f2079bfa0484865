use Rattle.sh_means.proofs.Copied.{callee_found}
use Rattle.sh_means.proofs.functions.Functions.get.Goals as goal

pub returns : goal.returns
returns c = callee_found c.args.self.now.rows.entries c.args.name.now _ c.get.ensures.value
