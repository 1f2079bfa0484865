use Rattle.std.proofs.Common.{◌≡◌, ap, ◌∙◌}
use Rattle.serde_json.specs.Data.{array}
use Rattle.serde_json.specs.View.{items_of, view}
use Rattle.serde_json.specs.Written.{compact_text, has_float}
use Rattle.rk_show.specs.Json.{records_data}
use Rattle.rk_show.proofs.JsonLemmas.{records-no_float}
use Rattle.rk_show.proofs.json.array_text.Goals as goal

pub returns : goal.returns
returns c =
    let is : view c.from-value.result ≡ array (records_data c.args.table.now) = c.from-value.ensures ∙ ap (λ ds. array (items_of ds)) c.in_ok-values.ensures in
    c.in_ok-json.ensures.text (ap has_float is ∙ records-no_float c.args.table.now) ∙ ap compact_text is
