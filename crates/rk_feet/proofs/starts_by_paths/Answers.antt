use Rattle.rk_feet.proofs.StartLemmas.{starts}
use Rattle.rk_feet.proofs.starts_by_paths.Goals as goal

pub returns : goal.returns
returns c = record { starts = starts }
