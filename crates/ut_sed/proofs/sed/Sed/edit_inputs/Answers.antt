use Rattle.std.proofs.Common.{◌≡◌, ◌-◌, ◌++◌, List, length, take, drop, arith}
use Rattle.std.proofs.lemmas.Grind.{common_steps}
use Rattle.ut_filter.specs.declared.made.Input.{Input}
use Rattle.ut_filter.specs.Lines.{lines_of}
use Rattle.ut_filter.specs.Parts.{all_lines}
use Rattle.ut_sed.specs.Editing.{sed_of}
use Rattle.ut_sed.proofs.EditLemmas.{inputs_quit}
use Rattle.ut_sed.proofs.sed.Sed.edit_inputs.Goals as goal

pub returns-then-branch : goal.returns-then-branch
returns-then-branch c =
    let later : List Input = take (length c.inputs.rest.now - 1) (drop 1 c.inputs.rest.now) in
    let same : lines_of c.part.result.now ++ all_lines later ≡ all_lines c.inputs.rest.now = grind (arith, common_steps) in
    inputs_quit c.inputs.output c.edit_text.new.output _ (sed_of c.args.self.now) c.inputs.progress.opened.items c.inputs.progress.number c.in_ok-edit_text.field-0 _ _ _ c.in_ok-edit_text.ensures c.if-branch.true same c.inputs.invariant
