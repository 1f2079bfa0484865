-- A table of what stands for each byte.
use Rattle.std.proofs.Common.{◌≡◌, ℕ, ◌+◌, ◌<◌, List, [], ◌∷◌, ◌++◌, get_or, map, ap, sym, ◌∙◌, zero-add}
use Rattle.std.specs.List.{range_with_len}
use Rattle.std.proofs.lemmas.List.FromFn.{map-range_with_len_more, get_or-map-range_with_len}

-- one entry more
pub image_more : (f : ℕ → ℕ) (n b v : ℕ) (t t' : List ℕ) → v ≡ f b → t' ≡ t ++ v ∷ [] → t ≡ map f (range_with_len 0 n) → b ≡ n → t' ≡ map f (range_with_len 0 (n + 1))
image_more f n b v t t' k g h e =
    g ∙ (ap (λ z. z ++ v ∷ []) h ∙ (ap (λ z. map f (range_with_len 0 n) ++ z ∷ []) (k ∙ ap f e) ∙ sym (map-range_with_len_more f 0 n n (zero-add n))))

pub image_at : (f : ℕ → ℕ) (t : List ℕ) (b d : ℕ) → b < 256 → t ≡ map f (range_with_len 0 256) → get_or t b d ≡ f b
image_at f t b d lt e = ap (λ z. get_or z b d) e ∙ get_or-map-range_with_len f 0 256 b b d lt (zero-add b)
