-- A build whose records are the kept ones of their numbers left the newest table that it found.
use Rattle.std.proofs.Common.{◌≡◌, ℕ, zero, suc, ◌<◌, List, [], ◌∷◌, length, get_or, Some, slice_get, refl, sym, ◌∙◌, ap, arith}
use Rattle.tr_record.specs.declared.records.Record.{Record}
use Rattle.tr_record.specs.Generations.{records, table_at}
use Rattle.tr_record.specs.Rec.{fresh_rec, no_key}
use Rattle.tr_record.proofs.GenerationLemmas.{number-here}
use Rattle.rk_replay.specs.Ran.{AreStill}

same-lists : {X : Type 0} (d : X) (xs ys : List X) → length xs ≡ length ys → ((i : ℕ) → i < length xs → get_or xs i d ≡ get_or ys i d) → xs ≡ ys
same-lists d [] [] e h = refl
same-lists d [] (y ∷ ys) e h = let none : 0 ≡ suc (length ys) = e in absurd (omega arith)
same-lists d (x ∷ xs) [] e h = let none : suc (length xs) ≡ 0 = e in absurd (omega arith)
same-lists d (x ∷ xs) (y ∷ ys) e h =
    let long : suc (length xs) ≡ suc (length ys) = e in
    let first : x ≡ y = h zero (omega arith) in
    let rest : xs ≡ ys = same-lists d xs ys (omega (arith, long)) (λ i lt. h (suc i) (omega arith)) in
    ap (λ z. z ∷ xs) first ∙ ap (λ zs. y ∷ zs) rest

pub as-found : (kept : List (List Record)) (t newest : List Record) → Some newest ≡ slice_get kept 0 → AreStill (records kept) t → length newest ≡ length t → (0 < length kept) × (table_at 0 kept ≡ t)
as-found [] t newest there still long = absurd cc
as-found (table ∷ kept) t newest there still long =
    let is : newest ≡ table = cc in
    let same : length table ≡ length t = sym (ap length is) ∙ long in
    (omega arith, same-lists (fresh_rec no_key 0) table t same (λ i lt. sym (number-here table kept i lt) ∙ sym (still i (omega arith)).1))
