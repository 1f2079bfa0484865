use Rattle.sh_builtin.proofs.ValueLemmas.{are_values, values_are}
use Rattle.sh_builtin.proofs.laws.one_value_each.Goals as goal

pub returns : goal.returns
returns c = λ ifs names line. (are_values ifs names line, values_are ifs names line)
