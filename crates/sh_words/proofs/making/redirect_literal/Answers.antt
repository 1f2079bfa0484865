use Rattle.std.proofs.Common.{arith}
use Rattle.sh_means.proofs.Weighing.{falls_free}
use Rattle.sh_words.proofs.making.redirect_literal.Goals as goal

pub returns-clause-costly : goal.returns-clause-costly
returns-clause-costly c = λ m n h. falls_free m n c.turns-cost.result c.in_ok-control.control (omega (arith, c.in_ok-control.ensures.weight))
