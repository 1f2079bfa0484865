use Rattle.std.proofs.Common.{ap}
use Rattle.rk_install.specs.Known.{place_seen}
use Rattle.rk_install.proofs.knowing.Known.place.Goals as goal

pub returns-in-None : goal.returns-in-None
returns-in-None c = ap place_seen c.in-None.ensures

pub returns-in-Some : goal.returns-in-Some
returns-in-Some c = ap place_seen c.in-Some.ensures
