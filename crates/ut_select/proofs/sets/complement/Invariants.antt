use Rattle.std.proofs.Common.{◌≡◌}
use Rattle.std.specs.Prelude.{not}
use Rattle.std.specs.List.{filter, range_with_len}
use Rattle.ut_select.specs.Sets.{is_member}
use Rattle.ut_select.proofs.sets.complement.Given as goal

abbrev pub invariant-loop-i : goal.invariant-loop-i
invariant-loop-i l = l.others.items ≡ filter (λ c. not (is_member l.set c)) (range_with_len 0 l.i)
