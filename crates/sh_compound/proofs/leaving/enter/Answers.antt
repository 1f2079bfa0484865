use Rattle.std.proofs.Common.{◌+◌, refl}
use Rattle.sh_compound.proofs.Branching.{link_more, link_last}
use Rattle.sh_compound.proofs.leaving.enter.Goals as goal

pub returns-in-Some-clause-talk : goal.returns-in-Some-clause-talk
returns-in-Some-clause-talk c =
    λ k e p. link_more c.args.list.value c.deref.result.now _ c.args.at (c.args.at + 1) c.args.place k e p c.deref.ensures refl c.in-Some.ensures

pub returns-in-None-clause-talk : goal.returns-in-None-clause-talk
returns-in-None-clause-talk c =
    λ k e p. link_last c.args.list.value c.deref.result.now c.args.at (c.args.at + 1) c.args.place k e p c.deref.ensures refl c.in-None.ensures
