-- Steps conflict where their cells do.
use Rattle.std.proofs.Common.{◌≡◌, ℕ, suc, List, [], ◌∷◌, ◌++◌, map, Bool, true, false, not, ◌&&◌, ◌||◌, refl, sym, ◌∙◌, ap, ap₂}
use Rattle.std.specs.Prelude.{max, ◌==◌, if◌then◌else◌}
use Rattle.std.proofs.lemmas.Bool.{eqb-true, eq-eqb}
use Rattle.rk_waves.specs.System.{System, Foot}
use Rattle.rk_waves.specs.System as system
use Rattle.rk_waves.specs.Goes.{Told}
use Rattle.rk_waves.specs.Waves as waves
use Rattle.rk_waves.specs.Pieces.{has, some, conflicts, wave_of}
use Rattle.rk_waves.specs.Numbered.{AreNumbered, AllKnown, TouchKnown, reads_in, writes_in, piece_in, placed_in}

-- some cell that counts is among both
abbrev both : (ℕ → Bool) → List ℕ → List ℕ → Bool
both ok xs ys = some (λ c. ok c && has ys c) xs

or-assoc : (a b c : Bool) → ((a || b) || c) ≡ (a || (b || c))
or-assoc true b c = refl
or-assoc false b c = refl

or-swap : (a b c d : Bool) → ((a || b) || (c || d)) ≡ ((a || c) || (b || d))
or-swap true b c d = refl
or-swap false true true d = refl
or-swap false true false d = refl
or-swap false false true d = refl
or-swap false false false d = refl

and-or : (a b c : Bool) → (a && (b || c)) ≡ ((a && b) || (a && c))
and-or true b c = refl
and-or false b c = refl

or-false : (a : Bool) → (a || false) ≡ a
or-false true = refl
or-false false = refl

and-false : (a : Bool) → (a && false) ≡ false
and-false true = refl
and-false false = refl

has-join : (xs ys : List ℕ) (c : ℕ) → has (xs ++ ys) c ≡ (has xs c || has ys c)
has-join [] ys c = refl
has-join (x ∷ xs) ys c = ap (λ b. (x == c) || b) (has-join xs ys c) ∙ sym (or-assoc (x == c) (has xs c) (has ys c))

both-left : (ok : ℕ → Bool) (xs ys zs : List ℕ) → both ok (xs ++ ys) zs ≡ (both ok xs zs || both ok ys zs)
both-left ok [] ys zs = refl
both-left ok (x ∷ xs) ys zs = ap (λ b. (ok x && has zs x) || b) (both-left ok xs ys zs) ∙ sym (or-assoc (ok x && has zs x) (both ok xs zs) (both ok ys zs))

both-nothing : (ok : ℕ → Bool) (xs : List ℕ) → both ok xs [] ≡ false
both-nothing ok [] = refl
both-nothing ok (x ∷ xs) = ap₂ ◌||◌ (and-false (ok x)) (both-nothing ok xs)

both-right : (ok : ℕ → Bool) (xs ys zs : List ℕ) → both ok xs (ys ++ zs) ≡ (both ok xs ys || both ok xs zs)
both-right ok [] ys zs = refl
both-right ok (x ∷ xs) ys zs =
    ap₂ (λ a b. a || b) (ap (λ b. ok x && b) (has-join ys zs x) ∙ and-or (ok x) (has ys x) (has zs x)) (both-right ok xs ys zs)
    ∙ or-swap (ok x && has ys x) (ok x && has zs x) (both ok xs ys) (both ok xs zs)

turned : (a b : ℕ) → (a == b) ≡ (b == a)
turned a b = go (a == b) refl (b == a) refl
  where
    clash : (b : Bool) → b ≡ true → b ≡ false → ⊥
    clash b t f = cc

    go : (x : Bool) → (a == b) ≡ x → (y : Bool) → (b == a) ≡ y → x ≡ y
    go true e true f = refl
    go false e false f = refl
    go true e false f = absurd (clash (b == a) (eq-eqb b a (sym (eqb-true a b e))) f)
    go false e true f = absurd (clash (a == b) (eq-eqb a b (sym (eqb-true b a f))) e)

one-cell : (ok : ℕ → Bool) (x y : ℕ) → (ok x && (y == x)) ≡ (ok y && (x == y))
one-cell ok x y = go (y == x) refl ∙ ap (λ b. ok y && b) (turned y x)
  where
    go : (b : Bool) → (y == x) ≡ b → (ok x && b) ≡ (ok y && b)
    go true e = ap (λ n. ok n && true) (sym (eqb-true y x e))
    go false e = and-false (ok x) ∙ sym (and-false (ok y))

both-one : (ok : ℕ → Bool) (x : ℕ) (ys : List ℕ) → (ok x && has ys x) ≡ both ok ys (x ∷ [])
both-one ok x [] = and-false (ok x)
both-one ok x (y ∷ ys) =
    and-or (ok x) (y == x) (has ys x)
    ∙ ap₂ (λ a b. a || b) (one-cell ok x y ∙ ap (λ b. ok y && b) (sym (or-false (x == y)))) (both-one ok x ys)

both-turned : (ok : ℕ → Bool) (xs ys : List ℕ) → both ok xs ys ≡ both ok ys xs
both-turned ok [] ys = sym (both-nothing ok ys)
both-turned ok (x ∷ xs) ys = ap₂ (λ a b. a || b) (both-one ok x ys) (both-turned ok xs ys) ∙ sym (both-right ok ys (x ∷ []) xs)

abbrev any : ℕ → Bool
any c = true

-- conflicts of two feet by numbers
abbrev clashes : (ℕ → Bool) → List ℕ → List ℕ → List ℕ → List ℕ → Bool
clashes gathers reads writes reads' writes' = both any writes reads' || (both any writes' reads || both (λ c. not (gathers c)) writes writes')

six : (a b c d e f : Bool) → ((a || b) || ((c || d) || (e || f))) ≡ ((a || (c || e)) || (b || (d || f)))
six a b c d e f = ap (λ x. (a || b) || x) (or-swap c d e f) ∙ or-swap a b (c || e) (d || f)

clashes-left : (gathers : ℕ → Bool) (r w r1 w1 s t : List ℕ) → clashes gathers (r ++ r1) (w ++ w1) s t ≡ (clashes gathers r w s t || clashes gathers r1 w1 s t)
clashes-left gathers r w r1 w1 s t =
    ap₂ (λ a b. a || b) (both-left any w w1 s) (ap₂ (λ a b. a || b) (both-right any t r r1) (both-left (λ c. not (gathers c)) w w1 t))
    ∙ six (both any w s) (both any w1 s) (both any t r) (both any t r1) (both (λ c. not (gathers c)) w t) (both (λ c. not (gathers c)) w1 t)

clashes-right : (gathers : ℕ → Bool) (r w s t s1 t1 : List ℕ) → clashes gathers r w (s ++ s1) (t ++ t1) ≡ (clashes gathers r w s t || clashes gathers r w s1 t1)
clashes-right gathers r w s t s1 t1 =
    ap₂ (λ a b. a || b) (both-right any w s s1) (ap₂ (λ a b. a || b) (both-left any t t1 r) (both-right (λ c. not (gathers c)) w t t1))
    ∙ six (both any w s) (both any w s1) (both any t r) (both any t1 r) (both (λ c. not (gathers c)) w t) (both (λ c. not (gathers c)) w t1)

clashes-none-left : (gathers : ℕ → Bool) (s t : List ℕ) → clashes gathers [] [] s t ≡ false
clashes-none-left gathers s t = ap (λ b. b || false) (both-nothing any t)

clashes-none-right : (gathers : ℕ → Bool) (r w : List ℕ) → clashes gathers r w [] [] ≡ false
clashes-none-right gathers r w = ap₂ (λ a b. a || b) (both-nothing any w) (both-nothing (λ c. not (gathers c)) w)

module _ {World Step Cell Value Answer : Type 0} (g : System World Step Cell Value Answer) (known : Cell → Bool) (number : Cell → ℕ) (gathers : ℕ → Bool)
    (are : AreNumbered g known number gathers) where
  abbrev Known : List Cell → Type 0
  Known = AllKnown g known

  abbrev FootKnown : Foot Cell → Type 0
  FootKnown f = Known f.reads × Known f.writes

  has-is : (ds : List Cell) (c : Cell) → Known ds → known c ≡ true → system.has g ds c ≡ has (map number ds) (number c)
  has-is [] c k h = refl
  has-is (d ∷ ds) c k h = ap₂ (λ a b. a || b) (are.same d c k.0 h) (has-is ds c k.1 h)

  meets-is : (cs ds : List Cell) → Known cs → Known ds → system.meets g cs ds ≡ both any (map number cs) (map number ds)
  meets-is [] ds k l = refl
  meets-is (c ∷ cs) ds k l = ap₂ (λ a b. a || b) (has-is ds c l k.0) (meets-is cs ds k.1 l)

  plainly-is : (cs ds : List Cell) → Known cs → Known ds → system.meets_plainly g cs ds ≡ both (λ c. not (gathers c)) (map number cs) (map number ds)
  plainly-is [] ds k l = refl
  plainly-is (c ∷ cs) ds k l = ap₂ (λ a b. a || b) (ap₂ (λ a b. not a && b) (sym (are.gathering c k.0)) (has-is ds c l k.0)) (plainly-is cs ds k.1 l)

  conflict-is : (a b : Foot Cell) → FootKnown a → FootKnown b
      → system.conflict g a b ≡ clashes gathers (map number a.reads) (map number a.writes) (map number b.reads) (map number b.writes)
  conflict-is a b k l = ap₂ (λ x y. x || y) (meets-is a.writes b.reads k.1 l.0)
      (ap₂ (λ x y. x || y) (meets-is b.writes a.reads l.1 k.0) (plainly-is a.writes b.writes k.1 l.1))

  one-is : (t : Told Step Cell Answer) (us : List (Told Step Cell Answer)) → FootKnown t.foot → TouchKnown g known us
      → waves.step_conflicts g t us ≡ clashes gathers (map number t.foot.reads) (map number t.foot.writes) (reads_in g number us) (writes_in g number us)
  one-is t [] k l = sym (clashes-none-right gathers (map number t.foot.reads) (map number t.foot.writes))
  one-is t (u ∷ us) k l =
      ap₂ (λ a b. a || b) (conflict-is t.foot u.foot k l.0) (one-is t us k l.1)
      ∙ sym (clashes-right gathers (map number t.foot.reads) (map number t.foot.writes) (map number u.foot.reads) (map number u.foot.writes)
      (reads_in g number us) (writes_in g number us))

  all-is : (ts us : List (Told Step Cell Answer)) → TouchKnown g known ts → TouchKnown g known us
      → waves.steps_conflict g ts us ≡ clashes gathers (reads_in g number ts) (writes_in g number ts) (reads_in g number us) (writes_in g number us)
  all-is [] us k l = sym (clashes-none-left gathers (reads_in g number us) (writes_in g number us))
  all-is (t ∷ ts) us k l =
      ap₂ (λ a b. a || b) (one-is t us k.0 l) (all-is ts us k.1 l)
      ∙ sym (clashes-left gathers (map number t.foot.reads) (map number t.foot.writes) (reads_in g number ts) (writes_in g number ts) (reads_in g number us)
      (writes_in g number us))

  pieces-is : (q p : waves.Piece (Told Step Cell Answer)) → TouchKnown g known q.steps → TouchKnown g known p.steps
      → waves.steps_conflict g q.steps p.steps ≡ conflicts gathers (piece_in g number q) (piece_in g number p)
  pieces-is q p k l =
      all-is q.steps p.steps k l
      ∙ ap₂ (λ a b. a || b) (both-turned any (writes_in g number q.steps) (reads_in g number p.steps))
      (ap (λ b. both any (writes_in g number p.steps) (reads_in g number q.steps) || b)
      (both-turned (λ c. not (gathers c)) (writes_in g number q.steps) (writes_in g number p.steps)))

  pub waves-are : (earlier : List (waves.Placed (Told Step Cell Answer))) (p : waves.Piece (Told Step Cell Answer))
      → waves.Each (λ q. TouchKnown g known q.piece.steps) earlier → TouchKnown g known p.steps
      → waves.wave_of g earlier p ≡ wave_of gathers (map (placed_in g number) earlier) (piece_in g number p)
  waves-are [] p k l = refl
  waves-are (q ∷ qs) p k l = ap₂ (λ c w. max (if q.piece.owner == p.owner then q.wave else if c then suc q.wave else 0) w) (pieces-is q.piece p k.0 l)
      (waves-are qs p k.1 l)
