use Rattle.std.proofs.Common.{ap, ◌∙◌}
use Rattle.ut_files.proofs.WorkLemmas.{newly}
use Rattle.ut_files.proofs.beginning.begin.Goals as goal

pub returns : goal.returns
returns g c =
    let b = g.U.Tasked.beginning c.args.utility.now in
    newly g.U.Task.Task.rules c.new.result c.in_ok-manner.manner (b.manner c.args.wd.now c.args.given.now) c.in_ok-steps.steps.items (b.first (b.manner c.args.wd.now c.args.given.now) c.args.given.now c.args.operands.now)
    c.in_ok-manner.ensures (c.in_ok-steps.ensures ∙ ap (λ m. b.first m c.args.given.now c.args.operands.now) c.in_ok-manner.ensures) c.new.ensures
