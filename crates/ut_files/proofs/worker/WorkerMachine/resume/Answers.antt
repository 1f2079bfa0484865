use Rattle.std.proofs.Common.{sym, ap, ◌∙◌}
use Rattle.ut_files.specs.Works.{works}
use Rattle.ut_files.specs.Working.{work_of, settled}
use Rattle.ut_files.proofs.WorkLemmas.{resumed}
use Rattle.ut_files.proofs.worker.WorkerMachine.resume.Goals as goal

pub returns-clause-talk : goal.returns-clause-talk
returns-clause-talk g c =
    resumed (g.T.Task.rules c.args.self.now.manner)
    (settled (g.T.Task.rules c.args.self.now.manner) c.args.self.now.asked c.args.answer (work_of c.args.self.now.failed c.args.self.now.next c.args.self.now.left.items))
    c.args.self.now.failed c.settle_asked.new.next c.settle_asked.new.left.items
    (λ n a. works (g.T.Task.rules c.args.self.now.manner) (settled (g.T.Task.rules c.args.self.now.manner) c.ask_next.new.asked a (work_of c.ask_next.new.failed n c.ask_next.new.left.items)))
    c.ask_next.result
    (ap (λ o. settled (g.T.Task.rules c.args.self.now.manner) o c.args.answer (work_of c.args.self.now.failed c.args.self.now.next c.args.self.now.left.items)) (sym c.take-asked.ensures.value) ∙ c.in_ok-settle_asked.ensures c.args.self.now.failed)
    c.ask_next.ensures.talk
