use Rattle.std.proofs.Common.{◌≡◌, map, drop}
use Rattle.std.specs.List.{list_all}
use Rattle.rk_walk.specs.Course.{only_slashes}
use Rattle.rk_walk.proofs.marks.all_slashes.Given as goal

abbrev pub invariant-loop-text : goal.invariant-loop-text
invariant-loop-text l = list_all only_slashes (map (λ r. r.now) (drop l.text-index l.texts)) ≡ list_all only_slashes (map (λ r. r.now) l.texts)
