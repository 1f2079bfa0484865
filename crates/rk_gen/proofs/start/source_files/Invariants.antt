use Rattle.std.proofs.Common.{◌≡◌}
use Rattle.rk_gen.specs.Draws.{drawn_all}
use Rattle.rk_gen.specs.Lines.{source_file}
use Rattle.rk_gen.proofs.start.source_files.Given as goal

abbrev pub invariant-loop-k : goal.invariant-loop-k
invariant-loop-k l = record {
  made : l.files.items ≡ (drawn_all source_file l.k l.initial.draws).made;
  after : l.draws ≡ (drawn_all source_file l.k l.initial.draws).after;
}
