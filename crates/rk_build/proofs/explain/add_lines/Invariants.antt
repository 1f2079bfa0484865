use Rattle.std.proofs.Common.{◌≡◌, ◌++◌, drop}
use Rattle.std.specs.List.{flat_map}
use Rattle.rk_build.specs.Explained.{line_of_ran}
use Rattle.rk_build.proofs.explain.add_lines.Given as goal

abbrev pub invariant-loop-it : goal.invariant-loop-it
invariant-loop-it l = l.text.items ++ flat_map line_of_ran (drop l.it-index l.ran) ≡ l.fn.text.items ++ flat_map line_of_ran l.ran
