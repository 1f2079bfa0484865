use Rattle.std.proofs.Common.{arith}
use Rattle.sh_means.proofs.Weighing.{falls_free}
use Rattle.sh_words.proofs.words.push_field.Goals as goal

pub returns-clause-costly : goal.returns-clause-costly
returns-clause-costly c = λ m n h. falls_free m n c.turns-cost.result _ (omega arith)
