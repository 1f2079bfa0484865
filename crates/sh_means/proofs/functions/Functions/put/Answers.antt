use Rattle.sh_means.proofs.Copied.{callee_put}
use Rattle.sh_means.proofs.functions.Functions.put.Goals as goal

pub returns : goal.returns
returns c = callee_put c.args.self.now.rows.entries c.insert.new.self.entries c.in_ok-name.name c.args.callee c.args.name.now c.in_ok-name.ensures.items c.in_ok-insert.ensures.entries
