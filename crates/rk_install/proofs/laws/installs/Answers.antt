use Rattle.rk_install.proofs.AllowLemmas.{allows-install, leaves-so}
use Rattle.rk_install.proofs.InstallLemmas.{leads-same, stays-unsealed, stops-sealed}
use Rattle.rk_install.proofs.laws.installs.Goals as goal

pub returns-clause-stops : goal.returns-clause-stops
returns-clause-stops c = stops-sealed

pub returns-clause-leads : goal.returns-clause-leads
returns-clause-leads c = leads-same

pub returns-clause-unsealed : goal.returns-clause-unsealed
returns-clause-unsealed c = stays-unsealed

pub returns-clause-allows : goal.returns-clause-allows
returns-clause-allows c = allows-install

pub returns-clause-leaves : goal.returns-clause-leaves
returns-clause-leaves c = leaves-so
