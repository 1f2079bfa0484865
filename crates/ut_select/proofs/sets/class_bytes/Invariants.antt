use Rattle.std.proofs.Common.{◌≡◌}
use Rattle.std.specs.List.{filter, range_with_len}
use Rattle.sh_pattern.specs.Classes.{in_class}
use Rattle.ut_select.proofs.sets.class_bytes.Given as goal

abbrev pub invariant-loop-i : goal.invariant-loop-i
invariant-loop-i l = l.bytes.items ≡ filter (in_class l.class) (range_with_len 0 l.i)
