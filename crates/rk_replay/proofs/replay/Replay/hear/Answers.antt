use Rattle.rk_replay.proofs.Turning.{under-heard}
use Rattle.rk_replay.proofs.replay.Replay.hear.Goals as goal

pub hear-requires-clause-talks : goal.hear-requires-clause-talks
hear-requires-clause-talks g c = c.requires.talks

pub hear-requires-clause-seated : goal.hear-requires-clause-seated
hear-requires-clause-seated g c = c.requires.seated.here

pub returns-clause-said : goal.returns-clause-said
returns-clause-said g c = record {
  was = c.args.self.now.top.machine;
  under_way = under-heard c.args.self.now c.hear.new.self c.hear.new.talks c.requires c.in_ok-spoke.ensures.talks c.in_ok-spoke.ensures.grows;
  on = c.in_ok-spoke.ensures.on;
  knows = c.in_ok-spoke.ensures.knows;
  purse = c.args.purse;
  paid = c.in_ok-spoke.ensures.paid;
}
