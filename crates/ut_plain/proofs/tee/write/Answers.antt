use Rattle.std.proofs.Common.{◌+◌, subst}
use Rattle.rk_base.specs.Text.{Text}
use Rattle.rk_calls.specs.declared.call.Call.TheVariants.{Write}
use Rattle.rk_calls.specs.Brought.{brought}
use Rattle.rk_calls.specs.Talk.{ask}
use Rattle.rk_calls.specs.Turns.{turns}
use Rattle.ut_plain.specs.Tees.{with_refusal, writes_all}
use Rattle.ut_plain.specs.TeeStages.{IsSaidBy}
use Rattle.ut_plain.proofs.tee.write.Goals as goal

pub returns-clause-talk : goal.returns-clause-talk
returns-clause-talk c =
    subst
    (λ (z : Text). IsSaidBy (ask (Write c.args.target.number c.args.text) (1 + turns c.args.text) (λ a. writes_all z c.args.teeing.targets.items (with_refusal c.args.teeing.errors c.args.target.place (brought a)))) c.in_ok-next_move.next_move)
    c.in_ok-kept.ensures c.in_ok-next_move.ensures.talk
