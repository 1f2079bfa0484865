use Rattle.std.proofs.Common.{◌≡◌, length}
use Rattle.ut_filter.specs.Outputs.{put}
use Rattle.ut_filter.specs.Parts.{all_lines}
use Rattle.ut_sed.specs.Editing.{edited_lines, sed_of}
use Rattle.ut_sed.proofs.sed.Sed.edit_inputs.Given as goal

abbrev pub invariant-inputs : goal.invariant-inputs
invariant-inputs l =
    put l.output (edited_lines (sed_of l.self) l.progress.opened.items l.progress.number (all_lines l.rest))
    ≡ put l.initial.output (edited_lines (sed_of l.self) l.initial.progress.opened.items l.initial.progress.number (all_lines l.inputs))

abbrev pub decreases-inputs : goal.decreases-inputs
decreases-inputs l = length l.rest
