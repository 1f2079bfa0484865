use Rattle.rk_traces.specs.Lasting.{all-last}
use Rattle.rk_traces.specs.Run.{environment}
use Rattle.rk_traces.specs.Speaking.{fresh-spoken, fresh-paid}
use Rattle.rk_traces.proofs.laws.fresh_runs.Goals as goal

pub returns-clause-spoken : goal.returns-clause-spoken
returns-clause-spoken g c = λ p key refs before now status left table e.
    fresh-spoken (environment g.K.Maker.first g.W.Answerer.given) (all-last g.K.Maker.first g.met.K.Maker.command) g.met.W.Answerer.fitting p key refs before now status left table e

pub returns-clause-paid : goal.returns-clause-paid
returns-clause-paid g c = λ p key refs before now status left table e.
    fresh-paid (environment g.K.Maker.first g.W.Answerer.given) (all-last g.K.Maker.first g.met.K.Maker.command) g.met.W.Answerer.fitting p key refs before now status left table e
