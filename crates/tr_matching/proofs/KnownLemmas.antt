-- What is known behind the steps that a group has in common.
use Rattle.std.proofs.Common.{◌≡◌, ℕ, ◌≤◌, true, false, sym, ◌∙◌, arith, inl, inr}
use Rattle.tr_matching.specs.declared.group.Group.{Group}
use Rattle.tr_matching.specs.Groups.{IsKnown}

pub known-behind : (at : ℕ) (it : Group) → IsKnown at it → it.alike ≤ at → (at ≡ it.alike) × (it.agreed ≡ true)
known-behind at it (inl lt) le = absurd (omega arith)
known-behind at it (inr k) le = k

-- what is known of a group of which nothing more was known stays so as it has more in common
pub known-more : (it now : Group) → it.agreed ≡ false → it.alike ≤ now.alike → (at : ℕ) → IsKnown at it → IsKnown at now
known-more it now unknown alike at (inl lt) = inl (omega arith)
known-more it now unknown alike at (inr k) = absurd (let f : false ≡ true = sym unknown ∙ k.1 in cc)

-- and as nothing changes of what it has in common
pub known-same : (it now : Group) → now.alike ≡ it.alike → now.agreed ≡ it.agreed → (at : ℕ) → IsKnown at it → IsKnown at now
known-same it now alike agreed at (inl lt) = inl (omega arith)
known-same it now alike agreed at (inr k) = inr (k.0 ∙ sym alike, agreed ∙ k.1)
