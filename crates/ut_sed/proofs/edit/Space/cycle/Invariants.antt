use Rattle.std.proofs.Common.{◌≡◌, ◌++◌, length}
use Rattle.ut_filter.specs.Outputs.{put}
use Rattle.ut_sed.specs.Commands.{commands_of}
use Rattle.ut_sed.specs.Editing.{cycle}
use Rattle.ut_sed.proofs.edit.Space.cycle.Given as goal

abbrev pub invariant-commands : goal.invariant-commands
invariant-commands l = record {
  opened : l.next.items ++ (cycle (commands_of l.rest) l.ranges l.number l.is_last l.self).opened ≡ l.initial.next.items ++ (cycle (commands_of l.commands) l.opened l.number l.is_last l.initial.self).opened;
  text : (cycle (commands_of l.rest) l.ranges l.number l.is_last l.self).text ≡ (cycle (commands_of l.commands) l.opened l.number l.is_last l.initial.self).text;
  out : put l.output (cycle (commands_of l.rest) l.ranges l.number l.is_last l.self).out ≡ put l.initial.output (cycle (commands_of l.commands) l.opened l.number l.is_last l.initial.self).out;
  ends : (cycle (commands_of l.rest) l.ranges l.number l.is_last l.self).ends ≡ (cycle (commands_of l.commands) l.opened l.number l.is_last l.initial.self).ends;
}

abbrev pub decreases-commands : goal.decreases-commands
decreases-commands l = length l.rest
