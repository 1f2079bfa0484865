-- The waves of pieces are the least, and the steps in them may come after one another.
use Rattle.std.proofs.Common.{◌≡◌, ℕ, suc, ◌≤◌, List, [], ◌∷◌, ◌++◌, Bool, true, if◌then◌else◌, inl, inr, refl, sym, ◌∙◌, ap, subst, arith}
use Rattle.std.proofs.lemmas.Bool.Decides.{eqb_tells}
use Rattle.rk_waves.specs.System.{System, conflict}
use Rattle.rk_waves.specs.Goes.{Told}
use Rattle.rk_waves.specs.Waves.{Piece, Placed, Move, Follows, Each, steps_of, moves_in, moves_of, tolds, step_conflicts, steps_conflict, MayFollow, IsWave}
use Rattle.rk_waves.specs.Waves.{Apart, AreApart, bound, wave_of, placed_after}
use Rattle.rk_waves.specs.Tests.{either, or-left, or-right}
use Rattle.rk_waves.proofs.Listing.{In, each-in, each-join}
use Rattle.rk_waves.proofs.Sorting.{MayComeAfter, Waved}

module _ {World Step Cell Value Answer : Type 0} (g : System World Step Cell Value Answer) where
  -- The least wave.

  -- one rule and one bound are one
  bounds : (p : Piece (Told Step Cell Answer)) (n : ℕ) (q : Placed (Told Step Cell Answer)) → bound g p q ≤ n → MayFollow g p n q
  bounds p n q h =
      elim (eqb_tells q.piece.owner p.owner) [
        | inl e ↦
            let k : q.wave ≤ n = subst (λ b. (if b then q.wave else if c then suc q.wave else 0) ≤ n) e.0 h in
            record { own = λ _. k; other = λ differ _. absurd (differ e.1) }
        | inr e ↦
            let k : (if c then suc q.wave else 0) ≤ n = subst (λ b. (if b then q.wave else if c then suc q.wave else 0) ≤ n) e.0 h in
            record { own = λ is. absurd (e.1 is); other = λ _ meets. subst (λ b. (if b then suc q.wave else 0) ≤ n) meets k }
      ]
    where
      c : Bool
      c = steps_conflict g q.piece.steps p.steps

  bounded : (p : Piece (Told Step Cell Answer)) (n : ℕ) (q : Placed (Told Step Cell Answer)) → MayFollow g p n q → bound g p q ≤ n
  bounded p n q h =
      elim (eqb_tells q.piece.owner p.owner) [
        | inl e ↦ subst (λ b. (if b then q.wave else if c then suc q.wave else 0) ≤ n) (sym e.0) (h.own e.1)
        | inr e ↦
            subst (λ b. (if b then q.wave else if c then suc q.wave else 0) ≤ n) (sym e.0)
            (either c
            (λ meets. subst (λ b. (if b then suc q.wave else 0) ≤ n) (sym meets) (h.other e.1 meets))
            (λ free. subst (λ b. (if b then suc q.wave else 0) ≤ n) (sym free) (omega arith)))
      ]
    where
      c : Bool
      c = steps_conflict g q.piece.steps p.steps

  all-follow : (p : Piece (Told Step Cell Answer)) (n : ℕ) (earlier : List (Placed (Told Step Cell Answer))) → wave_of g earlier p ≤ n
      → Each (MayFollow g p n) earlier
  all-follow p n [] h = tt
  all-follow p n (q ∷ qs) h =
      let one : bound g p q ≤ n = omega arith in
      let more : wave_of g qs p ≤ n = omega arith in
      (bounds p n q one, all-follow p n qs more)

  all-bounded : (p : Piece (Told Step Cell Answer)) (n : ℕ) (earlier : List (Placed (Told Step Cell Answer))) → 1 ≤ n → Each (MayFollow g p n) earlier
      → wave_of g earlier p ≤ n
  all-bounded p n [] one h = one
  all-bounded p n (q ∷ qs) one h =
      let k : bound g p q ≤ n = bounded p n q h.0 in
      let more : wave_of g qs p ≤ n = all-bounded p n qs one h.1 in
      omega arith

  from-one : (p : Piece (Told Step Cell Answer)) (earlier : List (Placed (Told Step Cell Answer))) → 1 ≤ wave_of g earlier p
  from-one p [] = omega arith
  from-one p (q ∷ qs) = let more : 1 ≤ wave_of g qs p = from-one p qs in omega arith

  pub wave_of-is : (earlier : List (Placed (Told Step Cell Answer))) (p : Piece (Told Step Cell Answer)) → IsWave g earlier p (wave_of g earlier p)
  wave_of-is earlier p = record {
    one = from-one p earlier;
    follows = all-follow p (wave_of g earlier p) earlier (omega arith);
    least = λ m one h. all-bounded p m earlier one h;
  }

  -- Pieces one after another.

  later-follow :
      (earlier : List (Placed (Told Step Cell Answer))) (ps : List (Piece (Told Step Cell Answer))) (q : Placed (Told Step Cell Answer)) → In q earlier
      → Each (Apart g q) (placed_after g earlier ps)
  unfolding placed_after
  later-follow earlier [] q i = tt
  later-follow earlier (p ∷ ps) q i = (
    each-in (MayFollow g p (wave_of g earlier p)) earlier q (wave_of-is earlier p).follows i,
    later-follow (record { wave = wave_of g earlier p; piece = p } ∷ earlier) ps q (inr i),
  )

  all-after : (earlier : List (Placed (Told Step Cell Answer))) (ps : List (Piece (Told Step Cell Answer))) → AreApart g (placed_after g earlier ps)
  unfolding placed_after
  all-after earlier [] = tt
  all-after earlier (p ∷ ps) =
      let it : Placed (Told Step Cell Answer) = record { wave = wave_of g earlier p; piece = p } in
      (later-follow (it ∷ earlier) ps it (inl refl), all-after (it ∷ earlier) ps)

  pub all-from_one : (earlier : List (Placed (Told Step Cell Answer))) (ps : List (Piece (Told Step Cell Answer)))
      → Each (λ q. 1 ≤ q.wave) (placed_after g earlier ps)
  unfolding placed_after
  all-from_one earlier [] = tt
  all-from_one earlier (p ∷ ps) = (from-one p earlier, all-from_one (record { wave = wave_of g earlier p; piece = p } ∷ earlier) ps)

  -- Their steps.

  waved-join :
      (ms ns : List (Move (Told Step Cell Answer))) → Waved g ms → Waved g ns → Each (λ m. Each (MayComeAfter g m) ns) ms → Waved g (ms ++ ns)
  waved-join [] ns h k c = k
  waved-join (m ∷ ms) ns h k c = (each-join (MayComeAfter g m) ms ns h.0 c.0, waved-join ms ns h.1 k c.1)

  together : (wave owner : ℕ) (t : Told Step Cell Answer) (us : List (Told Step Cell Answer))
      → Each (MayComeAfter g (record { wave = wave; owner = owner; told = t })) (moves_in wave owner us)
  together wave owner t [] = tt
  together wave owner t (u ∷ us) = (record { own = λ _. omega arith; other = λ differ _. absurd (differ refl) }, together wave owner t us)

  waved-piece : (wave owner : ℕ) (ts : List (Told Step Cell Answer)) → Waved g (moves_in wave owner ts)
  waved-piece wave owner [] = tt
  waved-piece wave owner (t ∷ ts) = (together wave owner t ts, waved-piece wave owner ts)

  across-piece :
      (m : Move (Told Step Cell Answer)) (wave owner : ℕ) (b : Bool) (us : List (Told Step Cell Answer)) → Follows m.owner m.wave owner wave b
      → (step_conflicts g m.told us ≡ true → b ≡ true) → Each (MayComeAfter g m) (moves_in wave owner us)
  across-piece m wave owner b [] h k = tt
  across-piece m wave owner b (u ∷ us) h k = (
    record { own = h.own; other = λ differ meets. h.other differ (k (or-left _ (step_conflicts g m.told us) meets)) },
    across-piece m wave owner b us h (λ e. k (or-right (conflict g m.told.foot u.foot) _ e)),
  )

  across :
      (q : Placed (Told Step Cell Answer)) (t : Told Step Cell Answer) (rs : List (Placed (Told Step Cell Answer))) → Each (Apart g q) rs
      → ((us : List (Told Step Cell Answer)) → step_conflicts g t us ≡ true → steps_conflict g q.piece.steps us ≡ true)
      → Each (MayComeAfter g (record { wave = q.wave; owner = q.piece.owner; told = t })) (moves_of rs)
  across q t [] h k = tt
  across q t (r ∷ rs) h k =
      let m : Move (Told Step Cell Answer) = record { wave = q.wave; owner = q.piece.owner; told = t } in
      each-join (MayComeAfter g m) (moves_in r.wave r.piece.owner r.piece.steps) (moves_of rs)
      (across-piece m r.wave r.piece.owner (steps_conflict g q.piece.steps r.piece.steps) r.piece.steps h.0 (k r.piece.steps))
      (across q t rs h.1 k)

  all-across :
      (q : Placed (Told Step Cell Answer)) (rs : List (Placed (Told Step Cell Answer))) → Each (Apart g q) rs → (ts : List (Told Step Cell Answer))
      → ((us : List (Told Step Cell Answer)) → steps_conflict g ts us ≡ true → steps_conflict g q.piece.steps us ≡ true)
      → Each (λ m. Each (MayComeAfter g m) (moves_of rs)) (moves_in q.wave q.piece.owner ts)
  all-across q rs h [] k = tt
  all-across q rs h (t ∷ ts) k =
      (across q t rs h (λ us e. k us (or-left _ (steps_conflict g ts us) e)), all-across q rs h ts (λ us e. k us (or-right (step_conflicts g t us) _ e)))

  pub waved-apart : (qs : List (Placed (Told Step Cell Answer))) → AreApart g qs → Waved g (moves_of qs)
  waved-apart [] h = tt
  waved-apart (q ∷ qs) h =
      waved-join (moves_in q.wave q.piece.owner q.piece.steps) (moves_of qs) (waved-piece q.wave q.piece.owner q.piece.steps) (waved-apart qs h.1)
      (all-across q qs h.0 q.piece.steps (λ us e. e))

  pub placed-apart : (ps : List (Piece (Told Step Cell Answer))) → AreApart g (placed_after g [] ps)
  placed-apart ps = all-after [] ps

  -- they are the run's
  tolds-piece : (wave owner : ℕ) (ts : List (Told Step Cell Answer)) (ms : List (Move (Told Step Cell Answer)))
      → tolds (moves_in wave owner ts ++ ms) ≡ ts ++ tolds ms
  tolds-piece wave owner [] ms = refl
  tolds-piece wave owner (t ∷ ts) ms = ap (λ l. t ∷ l) (tolds-piece wave owner ts ms)

  pub tolds-placed : (earlier : List (Placed (Told Step Cell Answer))) (ps : List (Piece (Told Step Cell Answer)))
      → tolds (moves_of (placed_after g earlier ps)) ≡ steps_of ps
  unfolding placed_after
  tolds-placed earlier [] = refl
  tolds-placed earlier (p ∷ ps) =
      let it : Placed (Told Step Cell Answer) = record { wave = wave_of g earlier p; piece = p } in
      tolds-piece it.wave p.owner p.steps (moves_of (placed_after g (it ∷ earlier) ps)) ∙ ap (λ l. p.steps ++ l) (tolds-placed (it ∷ earlier) ps)
