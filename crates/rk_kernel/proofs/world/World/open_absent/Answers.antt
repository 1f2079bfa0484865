use Rattle.std.proofs.Common.{subst}
use Rattle.rk_kernel.specs.Opening.{MakesFile}
use Rattle.rk_kernel.proofs.RowLemmas.{open_refused}
use Rattle.rk_kernel.proofs.world.World.open_absent.Goals as goal

pub returns : goal.returns
returns c =
    let m = subst (MakesFile c.args.self.now c.args.dir c.args.name c.make_file.new.self) c.in-Err.is c.in_ok-made.ensures in
    open_refused c.args.self.now c.args.refs.now c.args.how c.args.dir c.args.name c.args.slash c.in-Err.e c.make_file.new.self c.if-is_read.ensures c.requires.absent m.0 m.1
