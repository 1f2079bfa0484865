use Rattle.std.proofs.Common.{ap, ◌∙◌}
use Rattle.serde_json.specs.View.{view}
use Rattle.rk_show.specs.Json.{text_data}
use Rattle.rk_show.proofs.JsonLemmas.{pushed}
use Rattle.rk_show.proofs.json.word_values.Goals as goal

pub loop-word-preserved : goal.loop-word-preserved
loop-word-preserved c =
    pushed view text_data c.args.words.now c.loop-word.word-index c.word-item.result c.loop-word.values.items c.push.new.self.items c.in_ok-text_value.field-0 c.loop-word-test.true c.word-item.is c.in_ok-push.ensures.items (c.in_ok-text_value.ensures ∙ ap text_data c.as_slice.ensures) c.loop-word.invariant
