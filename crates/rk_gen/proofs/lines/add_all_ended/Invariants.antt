use Rattle.std.proofs.Common.{◌≡◌, ◌++◌, drop}
use Rattle.std.specs.List.{flat_map}
use Rattle.rk_gen.specs.Lines.{ended}
use Rattle.rk_gen.proofs.lines.add_all_ended.Given as goal

abbrev pub invariant-loop-line : goal.invariant-loop-line
invariant-loop-line l = l.text.items ++ flat_map ended (drop l.line-index l.lines) ≡ l.fn.text.items ++ flat_map ended l.lines
