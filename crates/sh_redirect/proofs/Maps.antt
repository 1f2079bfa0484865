-- The pairs of a map of descriptors are what a launched command's descriptors may stand for.
use Rattle.std.proofs.Common.{◌≡◌, ℕ, ◌+◌, ◌≤◌, ◌<◌, List, [], ◌∷◌, length, Bool, true, false, nat_lt, Option, Some, None, if◌then◌else◌, refl, subst, arith}
use Rattle.std.proofs.lemmas.Bool.{lt-ltb}
use Rattle.rk_calls.specs.RefMaps.{rise_from, is_refmap}
use Rattle.sh_redirect.specs.DescriptorTable.{numbered}

rises : (last d : ℕ) (ns : List (Option ℕ)) → last < d → d + length ns ≤ 10 → rise_from last (numbered d ns) ≡ true
rises last d [] lt le = refl
rises last d (None ∷ ns) lt le = rises last (d + 1) ns (omega arith) (omega arith)
rises last d (Some n ∷ ns) lt le = rw (lt-ltb last d lt, lt-ltb d 10 (omega arith)) (rises d (d + 1) ns (omega arith) (omega arith))

pub are_refmap : (d : ℕ) (ns : List (Option ℕ)) → d + length ns ≤ 10 → is_refmap (numbered d ns) ≡ true
unfolding is_refmap
are_refmap d [] le = refl
are_refmap d (None ∷ ns) le = are_refmap (d + 1) ns (omega arith)
are_refmap d (Some n ∷ ns) le = rw (lt-ltb d 10 (omega arith)) (rises d (d + 1) ns (omega arith) (omega arith))

pub never_none : (pairs : List (ℕ × ℕ)) (ns : List (Option ℕ)) → length ns ≤ 10 → pairs ≡ numbered 0 ns → None ≡ (if is_refmap pairs then Some pairs else None) → ⊥
never_none pairs ns le e h =
    let yes : is_refmap pairs ≡ true = rw e (are_refmap 0 ns (omega arith)) in
    let s : None ≡ Some pairs = rw yes at h in
    cc
