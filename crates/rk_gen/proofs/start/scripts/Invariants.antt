use Rattle.std.proofs.Common.{◌≡◌, length}
use Rattle.rk_gen.specs.Draws.{drawn_all}
use Rattle.rk_gen.specs.Scripts.{script}
use Rattle.rk_gen.proofs.start.scripts.Given as goal

abbrev pub invariant-loop-j : goal.invariant-loop-j
invariant-loop-j l = record {
  made : l.all.items ≡ (drawn_all (script l.sources) l.j l.initial.draws).made;
  after : l.draws ≡ (drawn_all (script l.sources) l.j l.initial.draws).after;
  count : length l.all.items ≡ l.j;
}
