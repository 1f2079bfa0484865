use Rattle.serde_json.specs.View.{view}
use Rattle.rk_show.specs.Json.{record_data}
use Rattle.rk_show.proofs.CountedLemmas.{counted-at}
use Rattle.rk_show.proofs.JsonLemmas.{pushed}
use Rattle.rk_show.proofs.json.record_values.Goals as goal

pub record_value-requires : goal.record_value-requires
record_value-requires c = (counted-at c.args.table.now c.loop-rec.rec-index c.rec-item.result c.loop-rec-test.true c.rec-item.is c.loop-rec.invariant.counted).0

pub loop-rec-preserved : goal.loop-rec-preserved
loop-rec-preserved c = record {
  values = pushed view record_data c.args.table.now c.loop-rec.rec-index c.rec-item.result c.loop-rec.values.items c.push.new.self.items c.in_ok-record_value.field-0 c.loop-rec-test.true c.rec-item.is c.in_ok-push.ensures.items c.in_ok-record_value.ensures c.loop-rec.invariant.values;
  counted = (counted-at c.args.table.now c.loop-rec.rec-index c.rec-item.result c.loop-rec-test.true c.rec-item.is c.loop-rec.invariant.counted).1;
}
