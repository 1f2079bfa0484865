-- Where one of so many isn't read, they aren't.
use Rattle.std.proofs.Common.{◌≡◌, ℕ, suc, ◌-◌, ◌+◌, ◌<◌, List, Option, None, refl, sym, ◌∙◌, arith}
use Rattle.tr_parts.specs.Reading.{many_at}

pub ends : {A : Type 0} (one : List A → List ℕ → Option (A × List ℕ)) (front : List A) (count i : ℕ) (bytes : List ℕ) (total : Option (List A × List ℕ)) → i < count → one front bytes ≡ None
    → many_at one (count - i) front bytes ≡ total → total ≡ None
unfolding many_at
ends one front count i bytes total lt h so_far =
    let k : count - i ≡ suc (count - (i + 1)) = omega arith in
    let step : many_at one (count - i) front bytes ≡ None = rw (k, h) refl in
    sym so_far ∙ step
