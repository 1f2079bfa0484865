-- What texts read as, and what is evaluated again.
use Rattle.sh_means.specs.Eval as eval
use Rattle.sh_means.specs.Simple.{Meaning}
use Rattle.sh_script.specs.Reads.{reads}

abbrev pub run : Meaning
run = eval.run reads
