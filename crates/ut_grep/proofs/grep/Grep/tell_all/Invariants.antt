use Rattle.std.proofs.Common.{◌≡◌, drop}
use Rattle.std.specs.Prelude.{◌||◌}
use Rattle.std.specs.List.{list_any}
use Rattle.ut_filter.specs.Outputs.{put}
use Rattle.ut_grep.specs.Greps.{told_all, some_of}
use Rattle.ut_grep.specs.Values.{grep_value}
use Rattle.ut_grep.proofs.grep.Grep.tell_all.Given as goal

abbrev pub invariant-inputs : goal.invariant-inputs
invariant-inputs l =
    (put l.output (told_all (grep_value l.self) (drop l.input-index l.inputs)) ≡ put l.initial.output (told_all (grep_value l.self) l.inputs)) × (l.some || list_any (some_of (grep_value l.self)) (drop l.input-index l.inputs) ≡ list_any (some_of (grep_value l.self)) l.inputs)
