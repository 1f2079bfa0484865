use Rattle.rk_gen.proofs.PlainLemmas.{starts-plainly}
use Rattle.rk_gen.proofs.laws.starts_plainly.Goals as goal

pub returns : goal.returns
returns c = starts-plainly
