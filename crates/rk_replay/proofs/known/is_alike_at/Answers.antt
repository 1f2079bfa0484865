use Rattle.std.proofs.Common.{sym}
use Rattle.rk_replay.proofs.Numbering.{alike}
use Rattle.rk_replay.proofs.known.is_alike_at.Goals as goal

pub returns-in_ok-id-in-Some-text-clause-alike : goal.returns-in_ok-id-in-Some-text-clause-alike
returns-in_ok-id-in-Some-text-clause-alike g c =
    alike _ _ c.args.contents.now c.args.node _ _ _ _ _ (sym c.in-Some.ensures.value) c.in-Some.ensures.steps (sym c.in-Some-text.ensures) c.in_ok-id-in-Some-text.ensures.number c.number_of.ensures.kept
    (λ text other here there. c.is_same.ensures text other here there)
