use Rattle.std.proofs.Common.{◌≡◌, drop}
use Rattle.sh_redirect.specs.DescriptorTable.{put_back}
use Rattle.sh_compound.proofs.Named.{described}
use Rattle.sh_compound.proofs.undoing.put_slots_back.Given as goal

abbrev pub invariant-redirects : goal.invariant-redirects
invariant-redirects l = put_back (described (drop l.r-index l.r-items)) l.before l.now ≡ put_back (described l.r-items) l.before l.initial.now
