use Rattle.rk_feet.proofs.SnapshotLemmas.{alike-seen}
use Rattle.rk_feet.proofs.one_snapshot.Goals as goal

pub returns : goal.returns
returns c = record { snapshot = alike-seen }
