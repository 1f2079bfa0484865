use Rattle.std.proofs.Math.Path.{fun_ext}
use Rattle.rk_install.proofs.knowing.Known.put.Goals as goal

pub returns : goal.returns
returns c = fun_ext c.in_ok-insert.ensures.updates.0
