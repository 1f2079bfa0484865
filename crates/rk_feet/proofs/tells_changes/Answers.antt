use Rattle.rk_feet.proofs.ToldChanges as told
use Rattle.rk_feet.proofs.tells_changes.Goals as goal

pub returns : goal.returns
returns c = record { tells = told.changes }
