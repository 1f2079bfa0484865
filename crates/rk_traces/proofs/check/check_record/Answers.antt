use Rattle.rk_traces.specs.Lasting.{all-last}
use Rattle.rk_traces.specs.OverLaws.{spoken-is_run}
use Rattle.rk_traces.proofs.check.check_record.Goals as goal

pub returns-in_err-machine-clause-run : goal.returns-in_err-machine-clause-run
returns-in_err-machine-clause-run g c = spoken-is_run g.K.Maker.first (all-last g.K.Maker.first g.met.K.Maker.command) c.args.rec.now

pub returns-in_err-exits_so-clause-run : goal.returns-in_err-exits_so-clause-run
returns-in_err-exits_so-clause-run g c = spoken-is_run g.K.Maker.first (all-last g.K.Maker.first g.met.K.Maker.command) c.args.rec.now

pub returns-then-branch-clause-run : goal.returns-then-branch-clause-run
returns-then-branch-clause-run g c = spoken-is_run g.K.Maker.first (all-last g.K.Maker.first g.met.K.Maker.command) c.args.rec.now

pub returns-clause-run : goal.returns-clause-run
returns-clause-run g c = spoken-is_run g.K.Maker.first (all-last g.K.Maker.first g.met.K.Maker.command) c.args.rec.now
