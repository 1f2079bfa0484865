use Rattle.rk_gen.proofs.PlainLemmas.{edits-plainly}
use Rattle.rk_gen.proofs.laws.edits_plainly.Goals as goal

pub returns : goal.returns
returns c = edits-plainly
