use Rattle.std.proofs.Common.{◌≡◌, ◌++◌, length}
use Rattle.ut_filter.specs.Lines.{lines_of}
use Rattle.ut_filter.specs.Outputs.{put}
use Rattle.ut_filter.specs.Parts.{all_lines}
use Rattle.ut_sed.specs.Editing.{edited_lines, sed_of}
use Rattle.ut_sed.proofs.sed.Sed.edit_text.Given as goal

abbrev pub invariant-lines : goal.invariant-lines
invariant-lines l =
    put l.output (edited_lines (sed_of l.self) l.progress.opened.items l.progress.number (lines_of l.rest ++ all_lines l.later))
    ≡ put l.initial.output (edited_lines (sed_of l.self) l.initial.progress.opened.items l.initial.progress.number (lines_of l.text ++ all_lines l.later))

abbrev pub decreases-lines : goal.decreases-lines
decreases-lines l = length l.rest
