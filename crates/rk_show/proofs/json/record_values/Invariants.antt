use Rattle.std.proofs.Common.{◌≡◌, ◌++◌, drop, map}
use Rattle.std.specs.List.{AllByRecursion}
use Rattle.serde_json.specs.View.{view}
use Rattle.rk_show.specs.Json.{record_data}
use Rattle.rk_show.specs.Traces.{IsCounted}
use Rattle.rk_show.proofs.json.record_values.Given as goal

abbrev pub invariant-loop-rec : goal.invariant-loop-rec
invariant-loop-rec l = record {
  values : map view l.values.items ++ map record_data (drop l.rec-index l.table) ≡ map record_data l.table;
  counted : AllByRecursion IsCounted (drop l.rec-index l.table);
}
