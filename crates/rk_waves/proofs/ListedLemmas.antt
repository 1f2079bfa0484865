-- Commands are put to their waves, one after another.
use Rattle.std.proofs.Common.{◌≡◌, ◌≢◌, ℕ, zero, suc, ◌+◌, ◌<◌, ◌≤◌, List, [], ◌∷◌, ◌++◌, length, map, take, Bool, true, false, cond}
use Rattle.std.proofs.Common.{refl, sym, ◌∙◌, ap, arith}
use Rattle.std.specs.Prelude.{max, slice_index_or, slice_set, ◌==◌, if◌then◌else◌}
use Rattle.std.proofs.lemmas.Bool.{eqb-true, eqb-false}
use Rattle.std.specs.BTreeSet.{insert_key}
use Rattle.std.specs.Ordering.{nat_cmp}
use Rattle.std.proofs.lemmas.List.{append-nil, length-map, length-set}
use Rattle.std.proofs.lemmas.List.Sums.{fold_push}
use Rattle.rk_waves.specs.Listed.{Member, members_by, ascending, owners_in, wave_count, list_at, IsPlan, HasOneMore, HasRoomFor}
use Rattle.rk_waves.specs.Pieces.{Piece}

owners-last : (k : ℕ) (ms : List Member) (m : Member) → owners_in k (ms ++ m ∷ []) ≡ owners_in k ms ++ (if m.wave == k then m.owner ∷ [] else [])
owners-last k [] m = refl
owners-last k (x ∷ xs) m = go (x.wave == k) (owners-last k xs m)
  where
    go : (b : Bool) → owners_in k (xs ++ m ∷ []) ≡ owners_in k xs ++ (if m.wave == k then m.owner ∷ [] else [])
        → cond b (x.owner ∷ owners_in k (xs ++ m ∷ [])) (owners_in k (xs ++ m ∷ [])) ≡ cond b (x.owner ∷ owners_in k xs) (owners_in k xs) ++
        (if m.wave == k then m.owner ∷ [] else [])
    go true e = ap (λ os. x.owner ∷ os) e
    go false e = e

max-assoc : (a b c : ℕ) → max a (max b c) ≡ max (max a b) c
max-assoc a b c = grind arith

count-last : (ms : List Member) (m : Member) → wave_count (ms ++ m ∷ []) ≡ max (wave_count ms) m.wave
count-last [] m = grind arith
count-last (x ∷ xs) m = ap (max x.wave) (count-last xs m) ∙ max-assoc x.wave (wave_count xs) m.wave

-- one more in its wave
pub plan-more : (ms : List Member) (m : Member) (old new : List (List ℕ)) → IsPlan ms old → HasOneMore m.wave m.owner old new → IsPlan (ms ++ m ∷ []) new
plan-more ms m old new p h = record {
  count = h.count ∙ ap (λ n. max n m.wave) p.count ∙ sym (count-last ms m);
  each = λ k. h.each k ∙ go k (m.wave == suc k) ∙ ap ascending (sym (owners-last (suc k) ms m));
}
  where
    go : (k : ℕ) (b : Bool)
        → cond b (insert_key nat_cmp (list_at old k) m.owner) (list_at old k) ≡ ascending (owners_in (suc k) ms ++ cond b (m.owner ∷ []) [])
    go k true = ap (λ os. insert_key nat_cmp os m.owner) (p.each k) ∙ sym (fold_push (insert_key nat_cmp) [] (owners_in (suc k) ms) m.owner)
    go k false = p.each k ∙ ap ascending (sym (append-nil (owners_in (suc k) ms)))

-- the next piece with its wave
pub members-next : (ps : List Piece) (ws : List ℕ) (i owner : ℕ) (p : Piece) → length ws ≡ length ps → i < length ps → p ≡ slice_index_or ps i p
    → owner ≡ p.owner
    → take (i + 1) (members_by ps ws) ≡ take i (members_by ps ws) ++ record { wave = slice_index_or ws i 0; owner = owner } ∷ []
members-next [] ws i owner p e h ep eo = absurd (omega arith)
members-next (q ∷ qs) [] i owner p e h ep eo = absurd (omega arith)
members-next (q ∷ qs) (w ∷ ws) zero owner p e h ep eo =
    let is : p ≡ q = ep in
    ap (λ o. let m : Member = record { wave = w; owner = o } in m ∷ []) (sym (eo ∙ ap (λ (r : Piece). r.owner) is))
members-next (q ∷ qs) (w ∷ ws) (suc i) owner p e h ep eo =
    let n : suc i + 1 ≡ suc (i + 1) = omega arith in
    let le : length ws ≡ length qs = omega arith in
    let lt : i < length qs = omega arith in
    ap (λ n. take n (members_by (q ∷ qs) (w ∷ ws))) n
    ∙ ap (λ ms. let m : Member = record { wave = w; owner = q.owner } in m ∷ ms) (members-next qs ws i owner p le lt ep eo)

pub members-all : (ps : List Piece) (ws : List ℕ) (i : ℕ) → length ws ≡ length ps → length ps ≤ i → take i (members_by ps ws) ≡ members_by ps ws
members-all [] ws zero e h = refl
members-all [] ws (suc i) e h = refl
members-all (p ∷ ps) [] i e h = absurd (omega arith)
members-all (p ∷ ps) (w ∷ ws) zero e h = absurd (omega arith)
members-all (p ∷ ps) (w ∷ ws) (suc i) e h = ap (λ ms. let m : Member = record { wave = w; owner = p.owner } in m ∷ ms) (members-all ps ws i
    (omega arith) (omega arith))

-- a longer list of which the first are these, and the others none
pub at-padded : (xs : List (List ℕ)) (k : ℕ) → list_at (xs ++ [] ∷ []) k ≡ list_at xs k
at-padded [] zero = refl
at-padded [] (suc k) = refl
at-padded (x ∷ xs) zero = refl
at-padded (x ∷ xs) (suc k) = at-padded xs k

module _ {Set : Type 0} (keys : Set → List ℕ) where
  map-set : (xs : List Set) (k : ℕ) (x : Set) → map keys (slice_set xs k x) ≡ slice_set (map keys xs) k (keys x)
  map-set [] k x = refl
  map-set (y ∷ ys) zero x = refl
  map-set (y ∷ ys) (suc k) x = ap (λ zs. keys y ∷ zs) (map-set ys k x)

  at-set-same : (xs : List (List ℕ)) (k : ℕ) (x : List ℕ) → k < length xs → list_at (slice_set xs k x) k ≡ x
  at-set-same [] k x h = absurd (omega arith)
  at-set-same (y ∷ ys) zero x h = refl
  at-set-same (y ∷ ys) (suc k) x h = at-set-same ys k x (omega arith)

  at-set-other : (xs : List (List ℕ)) (k j : ℕ) (x : List ℕ) → k ≢ j → list_at (slice_set xs k x) j ≡ list_at xs j
  at-set-other [] k j x h = refl
  at-set-other (y ∷ ys) zero zero x h = absurd (h refl)
  at-set-other (y ∷ ys) zero (suc j) x h = refl
  at-set-other (y ∷ ys) (suc k) zero x h = refl
  at-set-other (y ∷ ys) (suc k) (suc j) x h = at-set-other ys k j x (omega arith)

  at-keys : (xs : List Set) (k : ℕ) (x : Set) → x ≡ slice_index_or xs k x → k < length xs → list_at (map keys xs) k ≡ keys x
  at-keys [] k x e h = absurd (omega arith)
  at-keys (y ∷ ys) zero x e h = ap keys (sym e)
  at-keys (y ∷ ys) (suc k) x e h = at-keys ys k x e (omega arith)

  -- a command is put into its wave
  pub put-so : (wave owner k : ℕ) (old middle : List Set) (it new : Set) → HasRoomFor wave (map keys old) (map keys middle) → wave ≡ suc k
      → it ≡ slice_index_or middle k it → k < length middle → keys new ≡ insert_key nat_cmp (keys it) owner
      → HasOneMore wave owner (map keys old) (map keys (slice_set middle k new))
  put-so wave owner k old middle it new room ew ei lt en = record {
    count = ap length (map-set middle k new) ∙ length-set (map keys middle) k (keys new) ∙ room.count_is;
    each = λ j. ap (λ xs. list_at xs j) (map-set middle k new) ∙ at j (wave == suc j) refl;
  }
    where
      low : k < length (map keys middle)
      low = rw (length-map middle keys) lt

      at : (j : ℕ) (b : Bool) → (wave == suc j) ≡ b
          → list_at (slice_set (map keys middle) k (keys new)) j ≡ cond b (insert_key nat_cmp (list_at (map keys old) j) owner) (list_at (map keys old) j)
      at j true e =
          let w : wave ≡ suc j = eqb-true wave (suc j) e in
          let is : k ≡ j = omega arith in
          rw (sym is)
          (at-set-same (map keys middle) k (keys new) low
          ∙ en
          ∙ ap (λ xs. insert_key nat_cmp xs owner) (sym (at-keys middle k it ei lt) ∙ room.each k))
      at j false e =
          let ne : k ≢ j = λ is. eqb-false wave (suc j) e (ew ∙ ap suc is) in
          at-set-other (map keys middle) k j (keys new) ne ∙ room.each j
