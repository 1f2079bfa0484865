use Rattle.std.proofs.Common.{◌≡◌}
use Rattle.rk_gen.specs.Draws.{drawn_all}
use Rattle.rk_gen.specs.Scripts.{script_line}
use Rattle.rk_gen.proofs.scripts.script_lines.Given as goal

abbrev pub invariant-loop-i : goal.invariant-loop-i
invariant-loop-i l = record {
  made : l.lines.items ≡ (drawn_all (script_line l.sources l.j) l.i l.initial.draws).made;
  after : l.draws ≡ (drawn_all (script_line l.sources l.j) l.i l.initial.draws).after;
}
