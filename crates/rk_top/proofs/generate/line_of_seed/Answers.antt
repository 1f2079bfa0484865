use Rattle.rk_top.specs.First.{first_talk}
use Rattle.rk_top.specs.Generated.{stage_of}
use Rattle.rk_top.proofs.GeneratedLemmas.{told-line}
use Rattle.rk_top.proofs.generate.line_of_seed.Goals as goal

pub returns : goal.returns
returns g c = told-line first_talk c.args.seed c.args.live.now c.run.new.live (stage_of c.in_ok-session.session) c.line_of_stage.result c.line_of_stage.ensures c.in_ok-session.ensures.session c.in_ok-session.ensures.paid
