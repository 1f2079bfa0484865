use Rattle.std.proofs.Common.{ap, ◌∙◌, arith}
use Rattle.std.proofs.lemmas.List.{nil_from_length}
use Rattle.rk_calls.specs.Turns.{turns}
use Rattle.ut_files.proofs.WorkLemmas.{work-ends, work-tells, work-asks}
use Rattle.ut_files.proofs.worker.ask_next.Goals as goal

pub returns-in-None-clause-talk : goal.returns-in-None-clause-talk
returns-in-None-clause-talk g c =
    work-ends (g.T.Task.rules c.args.manner.now) c.args.failed.now c.args.left.now.items c.status.result (nil_from_length _ (omega (arith, c.in-None.ensures.cases.0, c.args.left.now.ok.0))) c.status.ensures

pub returns-in-Some-Tell-clause-talk : goal.returns-in-Some-Tell-clause-talk
returns-in-Some-Tell-clause-talk g c =
    work-tells (g.T.Task.rules c.args.manner.now) c.args.failed.now c.args.left.now.items c.pop_front.new.self.items c.in-Some-Tell.field-0 c.in-Some-Tell.line c.turns-cost.result c.in-Some-Tell.ensures.items c.in-Some-Tell.field-0-is (c.turns-cost.ensures.turns ∙ ap turns c.as_slice.ensures)

pub returns-in_ok-call-in-Some-Do-clause-talk : goal.returns-in_ok-call-in-Some-Do-clause-talk
returns-in_ok-call-in-Some-Do-clause-talk g c =
    work-asks (g.T.Task.rules c.args.manner.now) c.args.failed.now c.args.left.now.items c.pop_front.new.self.items c.in-Some-Do.field-0 c.in-Some-Do.task c.in_ok-call-in-Some-Do.call c.cost-cost.result c.in-Some-Do.ensures.items c.in-Some-Do.field-0-is c.in_ok-call-in-Some-Do.ensures c.cost-cost.ensures.cost
