use Rattle.sh_builtin.proofs.LineLemmas.{line_scanned, scanned_line}
use Rattle.sh_builtin.proofs.laws.one_line.Goals as goal

pub returns : goal.returns
returns c = λ raw text. (scanned_line raw text, line_scanned raw text)
