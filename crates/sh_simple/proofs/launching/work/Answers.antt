use Rattle.sh_means.proofs.Launching.{named, launches_named}
use Rattle.std.proofs.Common.{arith}
use Rattle.sh_simple.proofs.launching.work.Goals as goal

pub obey-requires : goal.obey-requires
obey-requires c = named c.into_inner-kind.result c.in-Special.order c.in-Special.is

pub launch-requires : goal.launch-requires
launch-requires c = launches_named c.into_inner-kind.result c.in-Launches.is

pub returns-in-Bare-clause-costly : goal.returns-in-Bare-clause-costly
returns-in-Bare-clause-costly c = λ m le. c.end.ensures.costly m _ (omega arith)

pub returns-in_ok-acted-in-Special-clause-costly : goal.returns-in_ok-acted-in-Special-clause-costly
returns-in_ok-acted-in-Special-clause-costly c = λ m le. c.in_ok-acted-in-Special.ensures.costly m _ le

pub returns-in_ok-acted-in-Calls-clause-costly : goal.returns-in_ok-acted-in-Calls-clause-costly
returns-in_ok-acted-in-Calls-clause-costly c = λ m le. c.in_ok-acted-in-Calls.ensures.costly m _

pub returns-in_ok-acted-in-Launches-clause-costly : goal.returns-in_ok-acted-in-Launches-clause-costly
returns-in_ok-acted-in-Launches-clause-costly c = λ m le. c.in_ok-acted-in-Launches.ensures.costly m _
