use Rattle.std.proofs.Common.{[], ap, ◌∙◌}
use Rattle.ut_files.specs.Complaints.{bad_option}
use Rattle.ut_files.proofs.WorkLemmas.{newly}
use Rattle.ut_files.proofs.beginning.refuse.Goals as goal

pub returns : goal.returns
returns g c =
    let b = g.U.Tasked.beginning c.args.utility.now in
    let plain = c.in_ok-manner.ensures ∙ ap (b.manner c.args.wd.now) c.new-none.ensures in
    newly g.U.Task.Task.rules c.new.result c.in_ok-manner.manner (b.manner c.args.wd.now []) c.in_ok-steps.steps.items (bad_option (b.manner c.args.wd.now []) c.args.option.now)
    plain
    (c.in_ok-steps.ensures ∙ (ap (λ m. bad_option m c.as_slice.result.now) plain ∙ ap (λ o. bad_option (b.manner c.args.wd.now []) o) c.as_slice.ensures))
    c.new.ensures
