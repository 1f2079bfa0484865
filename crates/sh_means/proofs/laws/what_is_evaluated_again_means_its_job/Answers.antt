use Rattle.sh_means.proofs.LawLemmas.{run-is}
use Rattle.sh_means.proofs.laws.what_is_evaluated_again_means_its_job.Goals as goal

pub returns : goal.returns
returns c = run-is
