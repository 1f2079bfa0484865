use Rattle.std.proofs.Common.{◌≡◌}
use Rattle.rk_gen.specs.Draws.{drawn_all}
use Rattle.rk_gen.specs.Lines.{source_line}
use Rattle.rk_gen.proofs.lines.source.Given as goal

abbrev pub invariant-loop-number : goal.invariant-loop-number
invariant-loop-number l = record {
  made : l.lines.items ≡ (drawn_all (λ number. source_line) l._number l.initial.draws).made;
  after : l.draws ≡ (drawn_all (λ number. source_line) l._number l.initial.draws).after;
}
