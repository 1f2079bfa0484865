use Rattle.std.proofs.Common.{ap, ◌∙◌}
use Rattle.rk_calls.specs.declared.answer.Answer.TheVariants.{Go}
use Rattle.ut_args.specs.Opts.{ArgsValue}
use Rattle.ut_files.specs.Beginnings.{begins}
use Rattle.ut_files.specs.Working.{worker_talk}
use Rattle.ut_files.proofs.WorkLemmas.{of_parts}
use Rattle.ut_files.proofs.beginning.begin_args.Goals as goal

pub returns : goal.returns
returns g c =
    of_parts c.begin.result (λ w. worker_talk g.U.Task.Task.rules w Go) (begins g.U.Task.Task.rules (g.U.Tasked.beginning c.args.utility.now) c.args.wd.now) c.args-2.inside.given c.args.args.now.given c.as_slice.result.now c.args.args.now.operands
    (ap (λ (v : ArgsValue). v.given) c.args-2.view_is)
    (c.as_slice.ensures ∙ ap (λ (v : ArgsValue). v.operands) c.args-2.view_is)
    c.begin.ensures
