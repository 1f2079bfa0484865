use Rattle.sh_builtin.proofs.LawLemmas.{alike-does}
use Rattle.sh_builtin.proofs.laws.builtins_keep_what_is_alike.Goals as goal

pub returns : goal.returns
returns c = alike-does
