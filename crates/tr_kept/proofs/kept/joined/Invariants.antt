use Rattle.std.proofs.Common.{◌≡◌, take}
use Rattle.std.specs.List.{flat_map}
use Rattle.tr_kept.proofs.kept.joined.Given as goal

abbrev pub invariant-tables : goal.invariant-tables
invariant-tables l = l.all.items ≡ flat_map (λ h. h.items) (take l.more-index l.heads)
