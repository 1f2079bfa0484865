-- Cells keep their numbers.
use Rattle.std.proofs.Common.{◌≡◌, ℕ, ◌+◌, List, [], ◌∷◌, ◌++◌, map, Bool, true, false, not, cond, refl, sym, ◌∙◌, ap, ap₂}
use Rattle.std.proofs.lemmas.List.{append_assoc}
use Rattle.std.specs.List.{list_any, position_or_len}
use Rattle.std.specs.Cmp.{IsEquivalence}
use Rattle.rk_waves.specs.CellNumbers.{number_in, with_cell}
use Rattle.rk_waves.specs.CellPieces.{AllStand, FootStands, numbers_in, piece_in, CellPiece}
use Rattle.rk_waves.specs.Grown.{Grown}
use Rattle.rk_waves.specs.Tests.{one-of, or-left, or-right, right-false}
use Rattle.rk_waves.specs.Waves as waves

any-more : {X : Type 0} (p : X → Bool) (xs ys : List X) → list_any p xs ≡ true → list_any p (xs ++ ys) ≡ true
any-more p [] ys e = cc
any-more p (x ∷ xs) ys e = one-of (p x) (list_any p xs) e (or-left (p x) (list_any p (xs ++ ys))) (λ h. or-right (p x) (list_any p (xs ++ ys))
    (any-more p xs ys h))

any-last : {X : Type 0} (p : X → Bool) (xs : List X) (x : X) → p x ≡ true → list_any p (xs ++ x ∷ []) ≡ true
any-last p [] x e = or-left (p x) false e
any-last p (y ∷ ys) x e = or-right (p y) (list_any p (ys ++ x ∷ [])) (any-last p ys x e)

place-more : {X : Type 0} (p : X → Bool) (xs ys : List X) → list_any p xs ≡ true → position_or_len p (xs ++ ys) ≡ position_or_len p xs
place-more p [] ys e = cc
place-more p (x ∷ xs) ys e = one-of (p x) (list_any p xs) e
    (λ t. ap (λ b. cond (not b) (1 + position_or_len p (xs ++ ys)) 0) t ∙ ap (λ b. cond (not b) (1 + position_or_len p xs) 0) (sym t))
    (λ h. ap (λ n. cond (not (p x)) (1 + n) 0) (place-more p xs ys h))

place-last : {X : Type 0} (p : X → Bool) (xs : List X) (x : X) → p x ≡ true → list_any p xs ≡ false → position_or_len p (xs ++ x ∷ []) ≡ position_or_len p xs
place-last p [] x e n = ap (λ b. cond (not b) 1 0) e
place-last p (y ∷ ys) x e n = ap (λ n. cond (not (p y)) (1 + n) 0) (place-last p ys x e (right-false (p y) (list_any p ys) n))

module _ {Cell : Type 0} (same : Cell → Cell → Bool) where
  pub grown-itself : (cells : List Cell) → Grown same cells cells
  grown-itself cells = record { stands = λ c e. e; number = λ c e. refl }

  pub grown-on : (a b c : List Cell) → Grown same a b → Grown same b c → Grown same a c
  grown-on a b c g h = record { stands = λ x e. h.stands x (g.stands x e); number = λ x e. h.number x (g.stands x e) ∙ g.number x e }

  pub grown-cell : (cells : List Cell) (c : Cell) → Grown same cells (with_cell same cells c)
  grown-cell cells c = go (list_any (same c) cells)
    where
      go : (b : Bool) → Grown same cells (cond b cells (cells ++ c ∷ []))
      go true = grown-itself cells
      go false = record { stands = λ x e. any-more (same x) cells (c ∷ []) e; number = λ x e. place-more (same x) cells (c ∷ []) e }

  pub stands-cell : IsEquivalence same → (cells : List Cell) (c : Cell) → list_any (same c) (with_cell same cells c) ≡ true
  stands-cell eq cells c = go (list_any (same c) cells) refl
    where
      go : (b : Bool) → list_any (same c) cells ≡ b → list_any (same c) (cond b cells (cells ++ c ∷ [])) ≡ true
      go true e = e
      go false e = any-last (same c) cells c (eq.refl c)

  pub all-stand : (a b cs : List Cell) → Grown same a b → AllStand same a cs → AllStand same b cs
  all-stand a b [] g h = tt
  all-stand a b (c ∷ cs) g h = (g.stands c h.0, all-stand a b cs g h.1)

  pub all-numbers : (a b cs : List Cell) → Grown same a b → AllStand same a cs → numbers_in same b cs ≡ numbers_in same a cs
  all-numbers a b [] g h = refl
  all-numbers a b (c ∷ cs) g h = ap₂ (λ n ns. n ∷ ns) (g.number c h.0) (all-numbers a b cs g h.1)

  pub more-stand : (cells xs ys : List Cell) → AllStand same cells xs → AllStand same cells ys → AllStand same cells (xs ++ ys)
  more-stand cells [] ys h k = k
  more-stand cells (x ∷ xs) ys h k = (h.0, more-stand cells xs ys h.1 k)

  pub more-numbers : (cells xs ys : List Cell) → numbers_in same cells (xs ++ ys) ≡ numbers_in same cells xs ++ numbers_in same cells ys
  more-numbers cells [] ys = refl
  more-numbers cells (x ∷ xs) ys = ap (λ ns. number_in same cells x ∷ ns) (more-numbers cells xs ys)

  pub pieces-stand : (a b : List Cell) (ps : List (CellPiece Cell)) → Grown same a b → waves.Each (λ q. FootStands same a q.foot) ps
      → waves.Each (λ q. FootStands same b q.foot) ps
  pieces-stand a b [] g h = tt
  pieces-stand a b (p ∷ ps) g h = ((all-stand a b p.foot.reads g h.0.0, all-stand a b p.foot.writes g h.0.1), pieces-stand a b ps g h.1)

  pub pieces-numbers : (a b : List Cell) (ps : List (CellPiece Cell)) → Grown same a b → waves.Each (λ q. FootStands same a q.foot) ps
      → map (piece_in same b) ps ≡ map (piece_in same a) ps
  pieces-numbers a b [] g h = refl
  pieces-numbers a b (p ∷ ps) g h =
      ap₂ (λ r qs. r ∷ qs)
      (ap₂ (λ r w. record { owner = p.owner; reads = r; writes = w }) (all-numbers a b p.foot.reads g h.0.0) (all-numbers a b p.foot.writes g h.0.1))
      (pieces-numbers a b ps g h.1)

  number-cell : IsEquivalence same → (cells : List Cell) (c : Cell) → number_in same (with_cell same cells c) c ≡ number_in same cells c
  number-cell eq cells c = go (list_any (same c) cells) refl
    where
      go : (b : Bool) → list_any (same c) cells ≡ b → number_in same (cond b cells (cells ++ c ∷ [])) c ≡ number_in same cells c
      go true e = refl
      go false e = place-last (same c) cells c (eq.refl c) e

  -- cells by their numbers, with one more
  pub record IsPutSo (before after : List Cell) (was now : List ℕ) (cs : List Cell) : Type 0 where
    pub grown : Grown same before after
    pub numbers : now ≡ was ++ numbers_in same after cs
    pub stand : AllStand same after cs

  pub put-more : IsEquivalence same → (before cells after : List Cell) (numbers was now : List ℕ) (cs : List Cell) (c : Cell) (n : ℕ)
      → IsPutSo before cells numbers was cs
      → n ≡ number_in same cells c → after ≡ with_cell same cells c → now ≡ was ++ n ∷ [] → IsPutSo before after numbers now (cs ++ c ∷ [])
  put-more eq before cells after numbers was now cs c n so en ea ew =
      let g : Grown same cells after = rw ea (grown-cell cells c) in
      let e : number_in same after c ≡ n = rw ea (number-cell eq cells c) ∙ sym en in
      record {
        grown = grown-on before cells after so.grown g;
        numbers =
            ew
            ∙ ap (λ ns. ns ++ n ∷ []) so.numbers
            ∙ append_assoc numbers (numbers_in same cells cs) (n ∷ [])
            ∙ ap (λ ns. numbers ++ ns)
            (ap₂ (λ ns m. ns ++ m ∷ []) (sym (all-numbers cells after cs g so.stand)) (sym e)
            ∙ sym (more-numbers after cs (c ∷ [])));
        stand = more-stand after cs (c ∷ []) (all-stand cells after cs g so.stand) (rw ea (stands-cell eq cells c), tt);
      }
