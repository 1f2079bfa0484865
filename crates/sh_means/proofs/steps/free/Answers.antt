use Rattle.sh_means.proofs.Weighing.{falls_free}
use Rattle.sh_means.proofs.steps.free.Goals as goal

pub returns-clause-costly : goal.returns-clause-costly
returns-clause-costly c = λ m n h. falls_free m n 0 c.args.control h
