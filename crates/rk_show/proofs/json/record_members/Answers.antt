use Rattle.std.proofs.Common.{ap}
use Rattle.serde_json.specs.View.{members_view, view}
use Rattle.rk_show.specs.Json.{number_data}
use Rattle.rk_show.proofs.JsonLemmas.{six}
use Rattle.rk_show.proofs.json.record_members.Goals as goal

pub returns : goal.returns
returns c =
    rw (← c.from-exit.ensures, ← c.from-ordinal.ensures)
    (rw (← (ap number_data c.own.ensures), ← (ap number_data c.len.ensures.value))
    (rw (← c.from-steps.ensures, ← c.from-turns.ensures)
    (six (view c.args.argv) (view c.from-exit.result) (view c.from-ordinal.result) (view c.from-steps.result) (view c.from-turns.result) (view c.args.wd) _ _ _ _ _ _ _ (ap members_view c.new-members.ensures.empty) c.in_ok-put.ensures.ok c.in_ok-put-2.ensures.ok c.in_ok-put-3.ensures.ok c.in_ok-put-4.ensures.ok c.in_ok-put-5.ensures.ok c.in_ok-put-6.ensures.ok)))
