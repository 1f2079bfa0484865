use Rattle.std.proofs.Common.{◌≡◌, ◌++◌, [], drop}
use Rattle.sh_split.specs.declared.pass.State.TheVariants.{Gap}
use Rattle.sh_split.specs.Marks.{kind}
use Rattle.sh_split.specs.Pass.{fields_from, Fitting}
use Rattle.sh_split.proofs.split.pass.Given as goal

abbrev pub invariant-marks : goal.invariant-marks
invariant-marks l = (l.fields.items ++ fields_from (kind l.ifs) l.state l.open_field.items (drop l.mark-index l.marks) ≡ fields_from (kind l.ifs) Gap [] l.marks) × Fitting l.state l.open_field.items
