-- One more of a byte.
use Rattle.std.proofs.Common.{◌≡◌, ℕ, ◌+◌, List, [], ◌∷◌, ◌++◌, replicate, ap, append_assoc}
use Rattle.std.proofs.lemmas.List.{replicate-append-replicate}

pub one_more : (front : List ℕ) (n b : ℕ) → (front ++ replicate n b) ++ b ∷ [] ≡ front ++ replicate (n + 1) b
one_more front n b = rw append_assoc (ap (λ (t : List ℕ). front ++ t) (replicate-append-replicate n 1 b))
