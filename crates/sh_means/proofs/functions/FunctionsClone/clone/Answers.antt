use Rattle.sh_means.proofs.Copied.{functions_copied}
use Rattle.sh_means.proofs.functions.FunctionsClone.clone.Goals as goal

pub returns : goal.returns
returns c = record { cases = functions_copied c.args.self.now.rows.entries c.in_ok-rows.rows.entries c.in_ok-rows.ensures.cases }
