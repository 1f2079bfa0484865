use Rattle.std.proofs.Common.{◌≡◌, ◌++◌, drop, map}
use Rattle.serde_json.specs.View.{view}
use Rattle.rk_show.specs.Json.{text_data}
use Rattle.rk_show.proofs.json.word_values.Given as goal

abbrev pub invariant-loop-word : goal.invariant-loop-word
invariant-loop-word l = map view l.values.items ++ map text_data (drop l.word-index l.words) ≡ map text_data l.words
