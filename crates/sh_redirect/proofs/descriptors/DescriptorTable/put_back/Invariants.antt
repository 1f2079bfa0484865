use Rattle.std.proofs.Common.{◌≡◌, drop}
use Rattle.sh_redirect.specs.DescriptorTable.{put_back}
use Rattle.sh_redirect.proofs.descriptors.DescriptorTable.put_back.Given as goal

abbrev pub invariant-named : goal.invariant-named
invariant-named l = put_back (drop l.d-index l.named) l.before l.self ≡ put_back l.named l.before l.initial.self
