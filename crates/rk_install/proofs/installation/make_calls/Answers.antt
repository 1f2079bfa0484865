use Rattle.std.proofs.Common.{List, None, Option, IfSome, subst}
use Rattle.rk_seal.specs.declared.ops.Op.{Op}
use Rattle.rk_install.specs.Install.{AllowsCalls}
use Rattle.rk_install.proofs.AskedLemmas.{none-stops}
use Rattle.rk_install.proofs.CleanLemmas.{none-clean, readable-all}
use Rattle.rk_install.proofs.installation.make_calls.Goals as goal

pub returns-in-None-clause-held : goal.returns-in-None-clause-held
returns-in-None-clause-held g c = rw c.in-None.is c.clear.ensures.held

pub returns-in-None-clause-stops : goal.returns-in-None-clause-stops
returns-in-None-clause-stops g c = rw c.in-None.is (none-stops _ _ c.clear.result c.clear.ensures.left)

pub returns-in-None-clause-clean : goal.returns-in-None-clause-clean
returns-in-None-clause-clean g c = rw c.in-None.is (none-clean _ _ c.clear.result c.clear.ensures.left)

pub returns-in-None-clause-calls : goal.returns-in-None-clause-calls
returns-in-None-clause-calls g c = rw c.in-None.is c.clear.ensures.calls

pub returns-in-Some-clause-held : goal.returns-in-Some-clause-held
returns-in-Some-clause-held g c = rw c.in-Some.is c.install_list.ensures.held

pub returns-in-Some-clause-stops : goal.returns-in-Some-clause-stops
returns-in-Some-clause-stops g c = rw c.in-Some.is c.install_list.ensures.stops

pub returns-in-Some-clause-clean : goal.returns-in-Some-clause-clean
returns-in-Some-clause-clean g c = rw c.in-Some.is c.install_list.ensures.clean

pub returns-in-Some-clause-calls : goal.returns-in-Some-clause-calls
returns-in-Some-clause-calls g c = rw c.in-Some.is c.install_list.ensures.calls

pub clear-requires : goal.clear-requires
clear-requires g c = subst (λ (o : Option (List Op)). IfSome (g.F.Folder.told c.args.folder.now) (AllowsCalls o c.args.fresh_list)) c.in-None.is c.requires

pub install_list-requires : goal.install_list-requires
install_list-requires g c = subst (λ (o : Option (List Op)). IfSome (g.F.Folder.told c.args.folder.now) (AllowsCalls o c.args.fresh_list)) c.in-Some.is c.requires

pub returns-in-None-clause-readable : goal.returns-in-None-clause-readable
returns-in-None-clause-readable g c = rw c.in-None.is (readable-all None _ _ c.clear.result tt)

pub returns-in-Some-clause-readable : goal.returns-in-Some-clause-readable
returns-in-Some-clause-readable g c = rw c.in-Some.is c.install_list.ensures.readable
