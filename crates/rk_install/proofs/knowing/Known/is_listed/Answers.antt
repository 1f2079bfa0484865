use Rattle.std.proofs.Common.{ap}
use Rattle.rk_install.specs.Known.{is_listed_dir}
use Rattle.rk_install.proofs.knowing.Known.is_listed.Goals as goal

pub returns-in-None : goal.returns-in-None
returns-in-None c = ap is_listed_dir c.in-None.ensures

pub returns-in-Some : goal.returns-in-Some
returns-in-Some c = ap is_listed_dir c.in-Some.ensures
