use Rattle.rk_feet.proofs.ReadLemmas as read
use Rattle.rk_feet.proofs.WriteLemmas as write
use Rattle.rk_feet.proofs.OpeningLemmas as opening
use Rattle.rk_feet.proofs.MakingCallLemmas as making
use Rattle.rk_feet.proofs.descriptions.Goals as goal

pub returns : goal.returns
returns c = record { reads = read.reads; lines = read.reads-lines; writes = write.writes; pipes = opening.pipes; opens = making.opens-paths }
