use Rattle.std.proofs.Common.{◌≡◌, flat_map, fold, take}
use Rattle.std.specs.Hash as fed
use Rattle.tr_matching.proofs.answer_key.hash_names.Given as goal

abbrev pub invariant-names : goal.invariant-names
invariant-names g l = l.state ≡ fold g.H.Hasher.write l.initial.state (flat_map (fed.slice fed.u8) (take l.name-index l.names))
