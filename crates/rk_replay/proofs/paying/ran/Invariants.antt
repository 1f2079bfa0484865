use Rattle.rk_replay.proofs.PaidLemmas.{StillOpen}
use Rattle.rk_replay.proofs.paying.ran.Given as goal

abbrev pub invariant-tables : goal.invariant-tables
invariant-tables l = StillOpen l.kept l.rec l.k
