use Rattle.std.proofs.Common.{refl, rules}
use Rattle.rk_replay.proofs.Options.{on-err}
use Rattle.rk_replay.proofs.Starting.{some-made}
use Rattle.rk_replay.proofs.Turning.{under-launch, counted-launch, paid-launch}
use Rattle.rk_replay.proofs.replay.Replay.launch.Goals as goal

pub launch-requires-clause-contents : goal.launch-requires-clause-contents
launch-requires-clause-contents g c = c.requires.under_way.contents

pub launch-requires-clause-talks : goal.launch-requires-clause-talks
launch-requires-clause-talks g c = c.requires.under_way.talks

pub returns-in_err-child-clause-one : goal.returns-in_err-child-clause-one
returns-in_err-child-clause-one g c = on-err _ _ (some-made c.in_ok-machine.machine _ _ c.in_ok-machine.ensures.starts)

pub returns-clause-launched : goal.returns-clause-launched
returns-clause-launched g c = search rules

pub returns-clause-says : goal.returns-clause-says
returns-clause-says g c = rw (c.replace-waiting.ensures.after, c.in_ok-child.ensures.machine) c.in_ok-machine.ensures.says

pub returns-clause-under_way : goal.returns-clause-under_way
returns-clause-under_way g c =
    under-launch _ _ refl _ _ _ c.requires (rw (c.replace-waiting.ensures.after, c.in_ok-child.ensures.machine) c.in_ok-machine.ensures.launched) (returns-clause-launched g c)
    (rw (c.replace-waiting.ensures.after, c.in_ok-child.ensures.machine) c.in_ok-child.ensures.noted) refl c.in_ok-machine.ensures.talks c.in_ok-machine.ensures.grows
    (rw (c.replace-waiting.ensures.after, c.in_ok-child.ensures.machine) c.in_ok-machine.ensures.seated)

pub returns-clause-counted : goal.returns-clause-counted
returns-clause-counted g c =
    counted-launch _ _ refl _ _ _ c.requires (rw (c.replace-waiting.ensures.after, c.in_ok-child.ensures.machine) c.in_ok-machine.ensures.launched) (returns-clause-launched g c) _ _
    (rw (c.replace-waiting.ensures.after, c.in_ok-child.ensures.machine) c.in_ok-machine.ensures.starts)

pub returns-clause-paid : goal.returns-clause-paid
returns-clause-paid g c = paid-launch _ _ refl _ _ _ c.requires (rw (c.replace-waiting.ensures.after, c.in_ok-child.ensures.machine) c.in_ok-machine.ensures.launched) (returns-clause-launched g c)
