use Rattle.std.proofs.Common.{◌≡◌, ◌++◌}
use Rattle.std.specs.List.{filter_map}
use Rattle.std.specs.FinMap.{entries}
use Rattle.std.specs.Prelude.{IfSome}
use Rattle.rk_changes.specs.Fetched.{full_writing}
use Rattle.rk_changes.proofs.WritingLemmas.{Lead, RowsFrom}
use Rattle.rk_changes.proofs.writing.writings.Given as goal

abbrev pub invariant-files : goal.invariant-files
invariant-files g l =
    record {
      cursor : l.cursor ≡ l.before;
      from : RowsFrom (g.G.Fetch.told l.fn.fetch) l.path-iterator;
      ops : IfSome (g.G.Fetch.told l.fn.fetch) (λ told. l.ops.items ++ filter_map (full_writing told l.before) l.path-iterator ≡ filter_map (full_writing told l.before) (entries l.after));
      at : Lead (entries l.after) l.path-iterator l.ops.items;
      told : g.G.Fetch.told l.fetch ≡ g.G.Fetch.told l.fn.fetch;
      keeps : g.G.Fetch.Keeps l.fn.fetch l.fetch;
      stays : g.G.Fetch.Stays l.fn.fetch l.fetch;
      steady : g.G.Fetch.steady l.fetch ≡ g.G.Fetch.steady l.fn.fetch;
      counted : g.G.Fetch.faults l.fetch ≡ g.G.Fetch.faults l.fn.fetch;
    }
