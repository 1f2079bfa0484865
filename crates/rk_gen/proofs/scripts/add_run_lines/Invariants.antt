use Rattle.std.proofs.Common.{◌≡◌, ◌++◌, drop}
use Rattle.std.specs.List.{flat_map}
use Rattle.rk_gen.specs.Scripts.{run_line}
use Rattle.rk_gen.proofs.scripts.add_run_lines.Given as goal

abbrev pub invariant-loop-it : goal.invariant-loop-it
invariant-loop-it l = l.text.items ++ flat_map run_line (drop l.it-index l.scripts) ≡ l.fn.text.items ++ flat_map run_line l.scripts
