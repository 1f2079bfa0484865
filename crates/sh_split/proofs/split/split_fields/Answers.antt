use Rattle.std.proofs.Common.{subst, sym, List}
use Rattle.sh_split.specs.Marks.{kind}
use Rattle.sh_split.specs.Cutting.{Marks, IsCutting}
use Rattle.sh_split.proofs.CutLemmas.{pass_cutting}
use Rattle.sh_split.proofs.split.split_fields.Goals as goal

pub returns-clause-cutting : goal.returns-clause-cutting
returns-clause-cutting c = subst (λ (x : List Marks). IsCutting (kind c.args.ifs.now) c.args.marks.now x) (sym c.in_ok-fields.ensures) (pass_cutting (kind c.args.ifs.now) c.args.marks.now)
