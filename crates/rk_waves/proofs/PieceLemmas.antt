-- Pieces by the numbers of their cells.
use Rattle.std.proofs.Common.{◌≡◌, ℕ, zero, suc, ◌+◌, ◌<◌, ◌≤◌, List, [], ◌∷◌, ◌++◌, length, map, take, Bool, true, false, not, cond, ◌||◌}
use Rattle.std.proofs.Common.{Some, None, refl, sym, ◌∙◌, ap, ap₂, subst, arith, true≢false}
use Rattle.std.specs.Prelude.{slice_get, slice_index_or, ◌==◌}
use Rattle.std.proofs.lemmas.Bool.{eqb-true, eq-eqb}
use Rattle.std.proofs.lemmas.List.{append-nil, length-map}
use Rattle.std.specs.List.{list_any}
use Rattle.std.specs.Cmp.{IsEquivalence}
use Rattle.rk_waves.specs.CellNumbers.{number_in}
use Rattle.rk_waves.specs.CellPieces.{AllStand, AreBy, CellPiece, FootStands, IsTold, Pieced, RunPieces, as_piece, by_feet, closed, done}
use Rattle.rk_waves.specs.CellPieces.{numbers_in, piece_in, placed, touched}
use Rattle.rk_waves.specs.Goes.{Told}
use Rattle.rk_waves.specs.Grown.{Grown}
use Rattle.rk_waves.specs.Listed.{Member, members, members_by}
use Rattle.rk_waves.specs.Numbered as numbered
use Rattle.rk_waves.specs.Numbered.{AreNumbered, AllKnown, TouchKnown, placed_in}
use Rattle.rk_waves.specs.Pieces as pieces
use Rattle.rk_waves.specs.Pieces.{Piece, waves_after, with_piece}
use Rattle.rk_waves.specs.System.{Foot}
use Rattle.rk_waves.specs.Tells.{AllBelow, AllFit, OwnersBelow, gathers_by}
use Rattle.rk_waves.specs.Tests.{either}
use Rattle.rk_waves.specs.Waves as waves
use Rattle.rk_waves.proofs.CellLemmas.{all-numbers, all-stand, grown-on, more-numbers, more-stand, pieces-numbers, pieces-stand}
use Rattle.rk_waves.proofs.NumberedLemmas.{waves-are}

-- a cell that stands has a number, at which an equal one stands
record StandsAt {Cell : Type 0} (same : Cell → Cell → Bool) (cells : List Cell) (c : Cell) : Type 0 where
  it : Cell
  at : slice_get cells (number_in same cells c) ≡ Some it
  is : same c it ≡ true
  below : number_in same cells c < length cells

module _ {Cell : Type 0} (same : Cell → Cell → Bool) where
  stands-first : (x : Cell) (xs : List Cell) (c : Cell) → same c x ≡ true → StandsAt same (x ∷ xs) c
  stands-first x xs c t =
      let first : number_in same (x ∷ xs) c ≡ 0 = ap (λ b. cond (not b) (1 + number_in same xs c) 0) t in
      record { it = x; at = ap (slice_get (x ∷ xs)) first; is = t; below = rw first (omega arith) }

  stands-later : (x : Cell) (xs : List Cell) (c : Cell) → same c x ≡ false → StandsAt same xs c → StandsAt same (x ∷ xs) c
  stands-later x xs c f s =
      let later : number_in same (x ∷ xs) c ≡ suc (number_in same xs c) = ap (λ b. cond (not b) (1 + number_in same xs c) 0) f ∙ omega arith in
      let lt : number_in same xs c < length xs = s.below in
      record { it = s.it; at = ap (slice_get (x ∷ xs)) later ∙ s.at; is = s.is; below = rw later (omega arith) }

  stands-at : (cells : List Cell) (c : Cell) → list_any (same c) cells ≡ true → StandsAt same cells c
  stands-at [] c e = absurd (true≢false (sym e))
  stands-at (x ∷ xs) c e =
      either (same c x) (stands-first x xs c) (λ f. stands-later x xs c f (stands-at xs c (ap (λ b. b || list_any (same c) xs) (sym f) ∙ e)))

  number-alike : IsEquivalence same → (cells : List Cell) (c d : Cell) → same c d ≡ true → number_in same cells c ≡ number_in same cells d
  number-alike eq [] c d e = refl
  number-alike eq (x ∷ xs) c d e = ap₂ (λ b n. cond (not b) (1 + n) 0) (eq.congr c d x e) (number-alike eq xs c d e)

  alike : (x y : Bool) → (x ≡ true → y ≡ true) → (y ≡ true → x ≡ true) → x ≡ y
  alike true y f g = sym (f refl)
  alike false true f g = g refl
  alike false false f g = refl

  module _ (eq : IsEquivalence same) (cells : List Cell) where
    abbrev known : Cell → Bool
    known c = list_any (same c) cells

    by-number : (c d : Cell) → known c ≡ true → known d ≡ true → number_in same cells c ≡ number_in same cells d → same c d ≡ true
    by-number c d h k e =
        let a = stands-at cells c h in
        let b = stands-at cells d k in
        let both : Some a.it ≡ Some b.it = sym a.at ∙ ap (slice_get cells) e ∙ b.at in
        let one : a.it ≡ b.it = cc in
        eq.congr c a.it d a.is ∙ ap (λ x. same x d) one ∙ eq.symm b.it d ∙ b.is

    gathers-so : (g : Cell → Bool) (xs : List Cell) (n : ℕ) (c : Cell) → slice_get xs n ≡ Some c → gathers_by (map g xs) n ≡ g c
    gathers-so g [] n c e = absurd (let f : None ≡ Some c = e in cc)
    gathers-so g (x ∷ xs) zero c e = (let f : Some x ≡ Some c = e in let is : x ≡ c = cc in ap g is)
    gathers-so g (x ∷ xs) (suc n) c e = gathers-so g xs n c e

    are-numbered : (g : Cell → Bool) → IsTold same g → AreNumbered (by_feet same g) known (number_in same cells) (gathers_by (map g cells))
    are-numbered g so = record {
      same = λ c d h k.
          alike (same c d) (number_in same cells c == number_in same cells d) (λ e. eq-eqb _ _ (number-alike eq cells c d e))
          (λ e. by-number c d h k (eqb-true _ _ e));
      gathering = λ c h. let a = stands-at cells c h in gathers-so g cells (number_in same cells c) a.it a.at ∙ sym (so c a.it a.is);
    }

    known-all : (g : Cell → Bool) (cs : List Cell) → AllStand same cells cs → AllKnown (by_feet same g) known cs
    known-all g [] h = tt
    known-all g (c ∷ cs) h = (h.0, known-all g cs h.1)

    all-below : (cs : List Cell) → AllStand same cells cs → AllBelow (length cells) (numbers_in same cells cs)
    all-below [] h = tt
    all-below (c ∷ cs) h = ((stands-at cells c h.0).below, all-below cs h.1)

    module _ (g : Cell → Bool) (so : IsTold same g) where
      abbrev It : Type 0
      It = Told (Foot Cell) Cell (Unit {0})

      abbrev by_numbers : List (waves.Placed It) → List pieces.Placed
      by_numbers = map (placed_in (by_feet same g) (number_in same cells))

      piece-is : (p : CellPiece Cell) → numbered.piece_in (by_feet same g) (number_in same cells) (as_piece p) ≡ piece_in same cells p
      piece-is p =
          ap₂ (λ r w. let q : Piece = record { owner = p.owner; reads = r; writes = w } in q) (append-nil (numbers_in same cells p.foot.reads))
          (append-nil (numbers_in same cells p.foot.writes))

      touch-known : (p : CellPiece Cell) → FootStands same cells p.foot → TouchKnown (by_feet same g) known (as_piece p).steps
      touch-known p h = ((known-all g p.foot.reads h.0, known-all g p.foot.writes h.1), tt)

      wave-is : (earlier : List (waves.Placed It)) (p : CellPiece Cell) → waves.Each (λ q. TouchKnown (by_feet same g) known q.piece.steps) earlier
          → FootStands same cells p.foot
          → waves.wave_of (by_feet same g) earlier (as_piece p) ≡ pieces.wave_of (gathers_by (map g cells)) (by_numbers earlier) (piece_in same cells p)
      wave-is earlier p k h =
          waves-are (by_feet same g) known (number_in same cells) (gathers_by (map g cells)) (are-numbered g so) earlier (as_piece p) k (touch-known p h)
          ∙ ap (pieces.wave_of (gathers_by (map g cells)) (by_numbers earlier)) (piece-is p)

      -- the waves by numbers are those of the cells
      pub waves-so : (earlier : List (waves.Placed It)) (ps : List (CellPiece Cell)) → waves.Each (λ q. TouchKnown (by_feet same g) known q.piece.steps) earlier
          → waves.Each (λ q. FootStands same cells q.foot) ps
          → waves_after (gathers_by (map g cells)) (by_numbers earlier) (map (piece_in same cells) ps)
          ≡ map (λ q. q.wave) (waves.placed_after (by_feet same g) earlier (map as_piece ps))
      unfolding waves.placed_after
      waves-so earlier [] k h = refl
      waves-so earlier (p ∷ ps) k h =
          let w : ℕ = waves.wave_of (by_feet same g) earlier (as_piece p) in
          let it : waves.Placed It = record { wave = w; piece = as_piece p } in
          let e = wave-is earlier p k h.0 in
          let next : by_numbers (it ∷ earlier) ≡ with_piece (gathers_by (map g cells)) (by_numbers earlier) (piece_in same cells p) =
          ap₂ (λ n q. let r : pieces.Placed = record { wave = n; piece = q } in r ∷ by_numbers earlier) e (piece-is p) in
          ap₂ (λ n ns. n ∷ ns) (sym e)
          (ap (λ qs. waves_after (gathers_by (map g cells)) qs (map (piece_in same cells) ps)) (sym next)
          ∙ waves-so (it ∷ earlier) ps (touch-known p h.0, k) h.1)

      pub members-so : (earlier : List (waves.Placed It)) (ps : List (CellPiece Cell))
          → members_by (map (piece_in same cells) ps) (map (λ q. q.wave) (waves.placed_after (by_feet same g) earlier (map as_piece ps)))
          ≡ members (waves.placed_after (by_feet same g) earlier (map as_piece ps))
      unfolding waves.placed_after
      members-so earlier [] = refl
      members-so earlier (p ∷ ps) =
          let it : waves.Placed It = record { wave = waves.wave_of (by_feet same g) earlier (as_piece p); piece = as_piece p } in
          ap (λ ms. let m : Member = record { wave = it.wave; owner = p.owner } in m ∷ ms) (members-so (it ∷ earlier) ps)

      pub fits-so : (n : ℕ) (ps : List (CellPiece Cell)) → waves.Each (λ q. FootStands same cells q.foot) ps → OwnersBelow n (map (piece_in same cells) ps)
          → AllFit n (length cells) (map (piece_in same cells) ps)
      fits-so n [] h b = tt
      fits-so n (p ∷ ps) h b =
          (record { owner = b.0; reads = all-below p.foot.reads h.0.0; writes = all-below p.foot.writes h.0.1 }, fits-so n ps h.1 b.1)

  -- Pieces as they come up.

  pub touched-so : (p : RunPieces Cell) (n new : Pieced Cell) (middle : List Cell) (foot : Foot Cell) → AreBy same p n → Grown same n.cells middle
      → Grown same middle new.cells → AllStand same middle foot.reads → AllStand same new.cells foot.writes
      → (new.ended ≡ n.ended) × (new.reads ≡ n.reads ++ numbers_in same middle foot.reads) ×
      (new.writes ≡ n.writes ++ numbers_in same new.cells foot.writes) × (new.begun ≡ true)
      → AreBy same (touched p foot) new
  touched-so p n new middle foot a g h r w e =
      let k = grown-on same n.cells middle new.cells g h in
      record {
        ended = e.0 ∙ a.ended ∙ sym (pieces-numbers same n.cells new.cells p.ended k a.stand);
        reads =
            e.1
            ∙ ap₂ (λ xs ys. xs ++ ys) (a.reads ∙ sym (all-numbers same n.cells new.cells p.foot.reads k a.foot_stands.0))
            (sym (all-numbers same middle new.cells foot.reads h r))
            ∙ sym (more-numbers same new.cells p.foot.reads foot.reads);
        writes =
            e.2
            ∙ ap (λ xs. xs ++ numbers_in same new.cells foot.writes) (a.writes ∙ sym (all-numbers same n.cells new.cells p.foot.writes k a.foot_stands.1))
            ∙ sym (more-numbers same new.cells p.foot.writes foot.writes);
        begun = e.3;
        stand = pieces-stand same n.cells new.cells p.ended k a.stand;
        foot_stands = (
          more-stand same new.cells p.foot.reads foot.reads (all-stand same n.cells new.cells p.foot.reads k a.foot_stands.0)
              (all-stand same middle new.cells foot.reads h r),
          more-stand same new.cells p.foot.writes foot.writes (all-stand same n.cells new.cells p.foot.writes k a.foot_stands.1) w,
        );
      }

  map-last : {A B : Type 0} (f : A → B) (xs : List A) (x : A) → map f (xs ++ x ∷ []) ≡ map f xs ++ f x ∷ []
  map-last f [] x = refl
  map-last f (y ∷ ys) x = ap (λ zs. f y ∷ zs) (map-last f ys x)

  each-last : {A : Type 0} (P : A → Type 0) (xs : List A) (x : A) → waves.Each P xs → P x → waves.Each P (xs ++ x ∷ [])
  each-last P [] x h p = (p, tt)
  each-last P (y ∷ ys) x h p = (h.0, each-last P ys x h.1 p)

  pub closed-so : (p : RunPieces Cell) (n new : Pieced Cell) (owner : ℕ) → AreBy same p n
      → (new.cells ≡ n.cells) × (new.ended ≡ n.ended ++ record { owner = owner; reads = n.reads; writes = n.writes } ∷ []) × (new.reads ≡ []) ×
      (new.writes ≡ []) × (new.begun ≡ false)
      → AreBy same (closed p owner) new
  closed-so p n new owner a e =
      let it : CellPiece Cell = record { owner = owner; foot = p.foot } in
      rw (e.0)
      (record {
        ended =
            e.1
            ∙ ap₂ (λ xs x. xs ++ x ∷ []) a.ended (ap₂ (λ r w. let q : Piece = record { owner = owner; reads = r; writes = w } in q) a.reads a.writes)
            ∙ sym (map-last (piece_in same n.cells) p.ended it);
        reads = e.2;
        writes = e.3;
        begun = e.4;
        stand = each-last (λ q. FootStands same n.cells q.foot) p.ended it a.stand a.foot_stands;
        foot_stands = (tt, tt);
      })

-- The owners of pieces, one by one.

pub owners-next : (n m i : ℕ) (ps : List Piece) (p : Piece) → OwnersBelow n (take i ps) → n ≤ m → i < length ps → p ≡ slice_index_or ps i p → p.owner < m
    → OwnersBelow m (take (i + 1) ps)
owners-next n m i [] p b h l e lt = absurd (omega arith)
owners-next n m zero (q ∷ qs) p b h l e lt = (let is : p ≡ q = e in rw (sym is) lt, tt)
owners-next n m (suc i) (q ∷ qs) p b h l e lt =
    let more : suc i + 1 ≡ suc (i + 1) = omega arith in
    let own : q.owner < n = b.0 in
    rw more (omega arith, owners-next n m i qs p b.1 h (omega arith) e lt)

pub owners-all : (n i : ℕ) (ps : List Piece) → length ps ≤ i → OwnersBelow n (take i ps) → OwnersBelow n ps
owners-all n i [] h b = tt
owners-all n zero (q ∷ qs) h b = absurd (omega arith)
owners-all n (suc i) (q ∷ qs) h b = (b.0, owners-all n i qs (omega arith) b.1)

module _ {Cell : Type 0} (same : Cell → Cell → Bool) (eq : IsEquivalence same) where
  pub done-so : (p : RunPieces Cell) (n : Pieced Cell) (owner : ℕ) → AreBy same p n → n.begun ≡ false → AreBy same (done p owner) n
  done-so p n owner a e = go p.begun (sym a.begun ∙ e)
    where
      go : (b : Bool) → b ≡ false → AreBy same (cond b (closed p owner) p) n
      go true e = absurd (true≢false e)
      go false e = a

  pub done-closed : (p : RunPieces Cell) (n new : Pieced Cell) (owner : ℕ) → AreBy same p n → n.begun ≡ true → AreBy same (closed p owner) new
      → AreBy same (done p owner) new
  done-closed p n new owner a e h = go p.begun (sym a.begun ∙ e)
    where
      go : (b : Bool) → b ≡ true → AreBy same (cond b (closed p owner) p) new
      go true e = h
      go false e = absurd (true≢false (sym e))

  -- what the waves by numbers come to
  pub plan-so : (p : RunPieces Cell) (n : Pieced Cell) (g : Cell → Bool) (gathers : List Bool) (commands : ℕ) (ws : List ℕ) → IsTold same g → AreBy same p n
      → gathers ≡ map g n.cells → OwnersBelow commands n.ended
      → (AllFit commands (length gathers) n.ended → ws ≡ waves_after (gathers_by gathers) [] n.ended)
      → members_by n.ended ws ≡ members (placed same g p.ended)
  plan-so p n g gathers commands ws so a eg below is =
      let ended : n.ended ≡ map (piece_in same n.cells) p.ended = a.ended in
      let fit : AllFit commands (length gathers) n.ended =
      rw (eg, length-map n.cells g, ended)
      (fits-so same eq n.cells g so commands p.ended a.stand (subst (λ ps. OwnersBelow commands ps) ended below)) in
      let waves_are : ws ≡ map (λ q. q.wave) (placed same g p.ended) =
      is fit
      ∙ ap₂ (λ gs ps. waves_after (gathers_by gs) [] ps) eg ended
      ∙ waves-so same eq n.cells g so [] p.ended tt a.stand in
      ap₂ members_by ended waves_are ∙ members-so same eq n.cells g so [] p.ended
