use Rattle.rk_feet.proofs.ChmodLemmas as chmod
use Rattle.rk_feet.proofs.LinkingLemmas as linking
use Rattle.rk_feet.proofs.MakingCallLemmas as making
use Rattle.rk_feet.proofs.RemovingLemmas as removing
use Rattle.rk_feet.proofs.RenamingLemmas as renaming
use Rattle.rk_feet.proofs.changes.Goals as goal

pub returns : goal.returns
returns c = record {
  dirs = making.makes-dirs;
  links = making.makes-links;
  names = linking.links-names;
  unlinks = removing.unlinks;
  removes = removing.removes-dirs;
  renames = renaming.renames-names;
  modes = chmod.changes-modes;
}
