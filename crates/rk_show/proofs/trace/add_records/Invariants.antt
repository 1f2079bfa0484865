use Rattle.std.proofs.Common.{◌≡◌, ◌++◌, drop}
use Rattle.std.specs.List.{AllByRecursion}
use Rattle.rk_show.specs.Traces.{record_lines, IsCounted}
use Rattle.rk_show.proofs.trace.add_records.Given as goal

abbrev pub invariant-loop-rec : goal.invariant-loop-rec
invariant-loop-rec l = record {
  number : l.number ≡ l.rec-index;
  lines : l.out.items ++ record_lines l.number (drop l.rec-index l.table) ≡ l.fn.out.items ++ record_lines 0 l.table;
  counted : AllByRecursion IsCounted (drop l.rec-index l.table);
}
