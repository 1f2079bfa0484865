-- What the table gives is the least wave by the two rules.
use Rattle.std.proofs.Common.{◌≡◌, ℕ, suc, ◌≤◌, ◌<◌, List, [], ◌∷◌, length, Bool, true, false, not, ◌&&◌, ◌||◌, refl, sym, ◌∙◌, ap, ap₂, arith}
use Rattle.std.specs.Prelude.{max, ◌==◌, if◌then◌else◌}
use Rattle.std.specs.Prelude.{◌≢◌}
use Rattle.std.proofs.Common.{subst}
use Rattle.std.proofs.lemmas.Bool.{eqb-true, eq-eqb}
use Rattle.rk_waves.specs.Least.{MayFollow, MayFollowAll, AreLeast}
use Rattle.rk_waves.specs.Pieces.{Piece, Placed, has, some, conflicts, bound, wave_of}
use Rattle.rk_waves.specs.Table.{Table, after_reads, after_writes, least}
use Rattle.rk_waves.specs.Tells.{wave_by, after_by, reads_it, writes_it, Tells, AllBelow, Fits}

-- the greatest over cells
abbrev over : (ℕ → ℕ) → List ℕ → ℕ
over x [] = 0
over x (c ∷ cs) = max (x c) (over x cs)

over-nothing : (x : ℕ → ℕ) (cs : List ℕ) → ((c : ℕ) → x c ≡ 0) → over x cs ≡ 0
over-nothing x [] h = refl
over-nothing x (c ∷ cs) h = ap₂ max (h c) (over-nothing x cs h)

abbrev chosen : Bool → Bool → ℕ → ℕ
chosen t own k = if t && not own then k else 0

one-reads : (t s own : Bool) (k x y : ℕ) → max (max (chosen t own k) x) (max (chosen s own k) y) ≡ max (chosen (t || s) own k) (max x y)
one-reads t s own k x y = grind arith

over-reads : (t : ℕ → Bool) (own : Bool) (k : ℕ) (x : ℕ → ℕ) (cs : List ℕ)
    → over (λ c. max (chosen (t c) own k) (x c)) cs ≡ max (chosen (some t cs) own k) (over x cs)
over-reads t own k x [] = refl
over-reads t own k x (c ∷ cs) = ap (max (max (chosen (t c) own k) (x c))) (over-reads t own k x cs) ∙ one-reads (t c) (some t cs) own k (x c) (over x cs)

chosen-or : (t s own : Bool) (k : ℕ) → chosen (t || s) own k ≡ max (chosen t own k) (chosen s own k)
chosen-or t s own k = grind arith

most : (a x b c z : ℕ) → max (max (max a x) 0) (max b (max c z)) ≡ max (max a b) (max c (max (max x 0) z))
most a x b c z = omega arith

most-too : (a x d y b c z : ℕ) → max (max (max a x) (max d y)) (max b (max c z)) ≡ max (max a b) (max (max d c) (max (max x y) z))
most-too a x d y b c z =
    ap (λ n. max n (max b (max c z))) (swap a x d y ∙ assoc a d (max x y)) ∙ swap a (max d (max x y)) b (max c z) ∙ ap (max (max a b)) (swap d (max x y) c z)
  where
    swap : (a b c d : ℕ) → max (max a b) (max c d) ≡ max (max a c) (max b d)
    swap a b c d = omega arith

    assoc : (a b c : ℕ) → max (max a b) c ≡ max a (max b c)
    assoc a b c = omega arith

one-writes :
    (g r w rs ws own : Bool) (k x y z : ℕ)
    → max (max (max (chosen r own k) x) (if g then 0 else max (chosen w own k) y)) (max (chosen rs own k) (max (chosen ws own k) z))
    ≡ max (chosen (r || rs) own k) (max (chosen ((not g && w) || ws) own k) (max (max x (if g then 0 else y)) z))
one-writes true r w rs ws own k x y z =
    most (chosen r own k) x (chosen rs own k) (chosen ws own k) z
    ∙ ap (λ n. max n (max (chosen ws own k) (max (max x 0) z))) (sym (chosen-or r rs own k))
one-writes false r w rs ws own k x y z =
    most-too (chosen r own k) x (chosen w own k) y (chosen rs own k) (chosen ws own k) z
    ∙ ap₂ (λ n m. max n (max m (max (max x y) z))) (sym (chosen-or r rs own k)) (sym (chosen-or w ws own k))

over-writes :
    (g r w : ℕ → Bool) (own : Bool) (k : ℕ) (x y : ℕ → ℕ) (cs : List ℕ)
    → over (λ c. max (max (chosen (r c) own k) (x c)) (if g c then 0 else max (chosen (w c) own k) (y c))) cs
    ≡ max (chosen (some r cs) own k) (max (chosen (some (λ c. not (g c) && w c) cs) own k) (over (λ c. max (x c) (if g c then 0 else y c)) cs))
over-writes g r w own k x y [] = refl
over-writes g r w own k x y (c ∷ cs) =
    ap (max (max (max (chosen (r c) own k) (x c)) (if g c then 0 else max (chosen (w c) own k) (y c)))) (over-writes g r w own k x y cs)
    ∙ one-writes (g c) (r c) (w c) (some r cs) (some (λ c. not (g c) && w c) cs) own k (x c) (y c) (over (λ c. max (x c) (if g c then 0 else y c)) cs)

-- the least wave, cell by cell
abbrev by_cells : (ℕ → Bool) → List Placed → Piece → ℕ
by_cells gathers earlier p =
    max (max 1 (wave_by earlier p.owner))
    (max (over (λ c. after_by writes_it earlier c p.owner) p.reads)
    (over (λ c. max (after_by reads_it earlier c p.owner) (if gathers c then 0 else after_by writes_it earlier c p.owner)) p.writes))

either-zero : (b : Bool) → max 0 (if b then 0 else 0) ≡ 0
either-zero true = refl
either-zero false = refl

one-piece :
    (own r s t : Bool) (wave o a b : ℕ)
    → max (max 1 (max (if own then wave else 0) o)) (max (max (chosen r own (suc wave)) a) (max (chosen s own (suc wave)) (max (chosen t own (suc wave)) b)))
    ≡ max (if own then wave else if r || (s || t) then suc wave else 0) (max (max 1 o) (max a b))
one-piece own r s t wave o a b = grind arith

by-cells : (gathers : ℕ → Bool) (earlier : List Placed) (p : Piece) → by_cells gathers earlier p ≡ wave_of gathers earlier p
by-cells gathers [] p = ap₂ (λ a b. max (max 1 0) (max a b)) (over-nothing (λ c. 0) p.reads (λ c. refl))
    (over-nothing (λ c. max 0 (if gathers c then 0 else 0)) p.writes (λ c. either-zero (gathers c)))
by-cells gathers (q ∷ qs) p =
    ap₂ (λ a b. max (max 1 (wave_by (q ∷ qs) p.owner)) (max a b))
    (over-reads (has q.piece.writes) (q.piece.owner == p.owner) (suc q.wave) (λ c. after_by writes_it qs c p.owner) p.reads)
    (over-writes gathers (has q.piece.reads) (has q.piece.writes) (q.piece.owner == p.owner) (suc q.wave) (λ c. after_by reads_it qs c p.owner)
    (λ c. after_by writes_it qs c p.owner) p.writes)
    ∙ one-piece (q.piece.owner == p.owner) (some (has q.piece.writes) p.reads) (some (has q.piece.reads) p.writes)
    (some (λ c. not (gathers c) && has q.piece.writes c) p.writes) q.wave (wave_by qs p.owner)
    (over (λ c. after_by writes_it qs c p.owner) p.reads)
    (over (λ c. max (after_by reads_it qs c p.owner) (if gathers c then 0 else after_by writes_it qs c p.owner)) p.writes)
    ∙ ap (max (bound gathers p q)) (by-cells gathers qs p)

module _ (gathers : ℕ → Bool) (earlier : List Placed) (t : Table) (tells : Tells gathers earlier t) where
  reads-tell : (o : ℕ) (cs : List ℕ) → AllBelow (length t.cells) cs → after_reads t.cells o cs ≡ over (λ c. after_by writes_it earlier c o) cs
  reads-tell o [] h = refl
  reads-tell o (c ∷ cs) h = ap₂ max (tells.written c o h.0) (reads-tell o cs h.1)

  writes-tell : (o : ℕ) (cs : List ℕ) → AllBelow (length t.cells) cs
      → after_writes t.cells o cs ≡ over (λ c. max (after_by reads_it earlier c o) (if gathers c then 0 else after_by writes_it earlier c o)) cs
  writes-tell o [] h = refl
  writes-tell o (c ∷ cs) h =
      ap₂ max
      (ap₂ (λ a b. max a b) (tells.read c o h.0) (ap₂ (λ g x. if g then 0 else x) (tells.gathering c h.0) (tells.written c o h.0)))
      (writes-tell o cs h.1)

  pub least-is : (p : Piece) → Fits (length t.commands) (length t.cells) p → least t p ≡ wave_of gathers earlier p
  least-is p fits =
      ap₂ (λ a b. max (max 1 a) b) (tells.commands p.owner fits.owner)
      (ap₂ max (reads-tell p.owner p.reads fits.reads) (writes-tell p.owner p.writes fits.writes))
      ∙ by-cells gathers earlier p

-- The rules.

reached : (n : ℕ) (own c : Bool) (wave : ℕ) → (own ≡ true → wave ≤ n) → (own ≡ false → c ≡ true → wave < n)
    → (if own then wave else if c then suc wave else 0) ≤ n
reached n true c wave h k = h refl
reached n false true wave h k = k refl refl
reached n false false wave h k = omega arith

split : (a b n : ℕ) → max a b ≤ n → (a ≤ n) × (b ≤ n)
split a b n h = (omega arith, omega arith)

joined : (a b n : ℕ) → a ≤ n → b ≤ n → max a b ≤ n
joined a b n h k = omega arith

apart : (b : Bool) → b ≡ true → b ≡ false → ⊥
apart b t f = cc

may-one : (gathers : ℕ → Bool) (p : Piece) (q : Placed) (n : ℕ) → bound gathers p q ≤ n → MayFollow gathers p n q
may-one gathers p q n h = record {
  own = λ e. subst (λ b. (if b then q.wave else if conflicts gathers q.piece p then suc q.wave else 0) ≤ n) (eq-eqb q.piece.owner p.owner e) h;
  other = λ ne c. go (q.piece.owner == p.owner) refl ne c h;
} where
  go : (b : Bool) → (q.piece.owner == p.owner) ≡ b → (q.piece.owner ≢ p.owner) → conflicts gathers q.piece p ≡ true
      → (if b then q.wave else if conflicts gathers q.piece p then suc q.wave else 0) ≤ n → q.wave < n
  go true e ne c h = absurd (ne (eqb-true q.piece.owner p.owner e))
  go false e ne c h = subst (λ b. (if b then suc q.wave else 0) ≤ n) c h

may-all : (gathers : ℕ → Bool) (p : Piece) (qs : List Placed) (n : ℕ) → wave_of gathers qs p ≤ n → MayFollowAll gathers p n qs
may-all gathers p [] n h = tt
may-all gathers p (q ∷ qs) n h = let both = split (bound gathers p q) (wave_of gathers qs p) n h in
    (may-one gathers p q n both.0, may-all gathers p qs n both.1)

from-one : (gathers : ℕ → Bool) (p : Piece) (qs : List Placed) → 1 ≤ wave_of gathers qs p
from-one gathers p [] = omega arith
from-one gathers p (q ∷ qs) = let h : 1 ≤ wave_of gathers qs p = from-one gathers p qs in omega arith

no-more : (gathers : ℕ → Bool) (p : Piece) (qs : List Placed) (m : ℕ) → 1 ≤ m → MayFollowAll gathers p m qs → wave_of gathers qs p ≤ m
no-more gathers p [] m one h = one
no-more gathers p (q ∷ qs) m one h =
    joined (bound gathers p q) (wave_of gathers qs p) m
    (reached m (q.piece.owner == p.owner) (conflicts gathers q.piece p) q.wave (λ e. h.0.own (eqb-true q.piece.owner p.owner e))
    (λ e c. h.0.other (λ s. apart (q.piece.owner == p.owner) (eq-eqb q.piece.owner p.owner s) e) c))
    (no-more gathers p qs m one h.1)

pub are-least : (gathers : ℕ → Bool) → AreLeast gathers
are-least gathers earlier p = record {
  one = from-one gathers p earlier;
  follows = may-all gathers p earlier (wave_of gathers earlier p) (omega arith);
  least = λ m one h. no-more gathers p earlier m one h;
}
