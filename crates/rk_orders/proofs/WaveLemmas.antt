-- The pieces of a run by names, in the waves of what is told of them.
use Rattle.std.proofs.Common.{◌≡◌, ℕ, ◌≤◌, List, [], ◌∷◌, ◌++◌, map, Bool, true, false, ◌||◌, Option, Some, None, refl, sym, ◌∙◌, ap, subst, arith}
use Rattle.std.proofs.Common.{inl, inr}
use Rattle.std.proofs.lemmas.List.{append_assoc, append-nil}
use Rattle.std.specs.Prelude.{fold}
use Rattle.rk_kernel.specs.declared.cell.Cell.{Cell as Numbered}
use Rattle.rk_waves.specs.CellPieces.{CellPiece, as_piece, no_foot, told, with_foot}
use Rattle.rk_waves.specs.Goes.{Told}
use Rattle.rk_waves.specs.Listed.{Member, members, wave_count}
use Rattle.rk_waves.specs.Programs.{Cell, by_cells}
use Rattle.rk_waves.specs.System.{Foot, conflict}
use Rattle.rk_waves.specs.Tests.{or-left}
use Rattle.rk_waves.specs.Waves.{Apart, AreApart, Each, Follows, Move, Piece, Placed, moves_in, moves_of, placed_after, steps_conflict}
use Rattle.rk_waves.specs.Waves.{steps_of, tolds, wave_of}
use Rattle.rk_waves.proofs.Listing.{each-join}
use Rattle.rk_feet.specs.Named.{Name, Plain}
use Rattle.rk_feet.specs.Played.{PlaysKernel}
use Rattle.rk_feet.specs.Steps.{Step}
use Rattle.rk_feet.specs.Told.{Among, AreTold, By, IsTold, Its, Telling, numbered}
use Rattle.rk_feet.specs.World.{World}
use Rattle.rk_plan.specs.declared.event.Event.{Event}
use Rattle.rk_plan.specs.declared.event.Event.TheVariants.{Touches, Launches, Ends}
use Rattle.rk_plan.specs.Plans.{foot_of, pieces_of, with_event}
use Rattle.rk_orders.specs.Named.{steps_in}
use Rattle.rk_orders.specs.Orders.{Taken}
use Rattle.rk_orders.proofs.ConflictLemmas.{StepsTold, feet, pieces-conflict}
use Rattle.rk_orders.proofs.RunLemmas.{AreBeside, Fits}
use Rattle.rk_orders.proofs.StepLemmas.{IsToldBy, in_world}

-- The pieces by names.

abbrev pub piece : ℕ → List Taken → Piece Taken
piece owner steps = record { owner = owner; steps = steps }

-- the steps of a piece under way, if there are some, are one
abbrev pub end_piece : List Taken → ℕ → List (Piece Taken) → List (Piece Taken)
end_piece [] owner ps = ps
end_piece (t ∷ ts) owner ps = piece owner (t ∷ ts) ∷ ps

-- of these turns and events, after the steps of a piece that is under way
abbrev pub pieces_from : List Taken → List (Option Taken) → List Event → List (Piece Taken)
pieces_from so_far [] es = []
pieces_from so_far (o ∷ os) [] = []
pieces_from so_far (Some t ∷ os) (Touches owner foot ∷ es) = pieces_from (so_far ++ t ∷ []) os es
pieces_from so_far (Some t ∷ os) (Launches owner ∷ es) = piece owner (so_far ++ t ∷ []) ∷ pieces_from [] os es
pieces_from so_far (Some t ∷ os) (Ends owner ∷ es) = []
pieces_from so_far (None ∷ os) (Touches owner foot ∷ es) = []
pieces_from so_far (None ∷ os) (Launches owner ∷ es) = []
pieces_from so_far (None ∷ os) (Ends owner ∷ es) = end_piece so_far owner (pieces_from [] os es)

-- The pieces by numbers, one after another.

abbrev pub cell_piece : ℕ → Foot Numbered → CellPiece Numbered
cell_piece owner foot = record { owner = owner; foot = foot }

abbrev pub told_from : Foot Numbered → Bool → List Event → List (CellPiece Numbered)
told_from foot begun [] = []
told_from foot begun (Touches owner more ∷ es) = told_from (with_foot foot (foot_of more)) true es
told_from foot begun (Launches owner ∷ es) = cell_piece owner (with_foot foot no_foot) ∷ told_from no_foot false es
told_from foot true (Ends owner ∷ es) = cell_piece owner foot ∷ told_from no_foot false es
told_from foot false (Ends owner ∷ es) = told_from foot false es

all-pieces : (es : List Event) (ended : List (CellPiece Numbered)) (foot : Foot Numbered) (begun : Bool)
    → (fold with_event (record { ended = ended; foot = foot; begun = begun }) es).ended ≡ ended ++ told_from foot begun es
all-pieces [] ended foot begun = sym (append-nil ended)
all-pieces (Touches owner more ∷ es) ended foot begun = all-pieces es ended (with_foot foot (foot_of more)) true
all-pieces (Launches owner ∷ es) ended foot begun =
    all-pieces es (ended ++ cell_piece owner (with_foot foot no_foot) ∷ []) no_foot false
    ∙ append_assoc ended (cell_piece owner (with_foot foot no_foot) ∷ []) (told_from no_foot false es)
all-pieces (Ends owner ∷ es) ended foot true =
    all-pieces es (ended ++ cell_piece owner foot ∷ []) no_foot false ∙ append_assoc ended (cell_piece owner foot ∷ []) (told_from no_foot false es)
all-pieces (Ends owner ∷ es) ended foot false = all-pieces es ended foot false

pub pieces-are : (es : List Event) → (pieces_of es).ended ≡ told_from no_foot false es
pieces-are es = all-pieces es [] no_foot false

-- What is told stays so with more beside it.

module _ (z : World) where
  among-left : (cs ds : List Numbered) (c : Numbered) → Among cs c → Among (cs ++ ds) c
  among-left [] ds c h = absurd h
  among-left (x ∷ xs) ds c (inl e) = inl e
  among-left (x ∷ xs) ds c (inr h) = inr (among-left xs ds c h)

  among-right : (cs ds : List Numbered) (c : Numbered) → Among ds c → Among (cs ++ ds) c
  among-right [] ds c h = h
  among-right (x ∷ xs) ds c h = inr (among-right xs ds c h)

  are-left : (s : Step) (cs ds : List Numbered) (xs : List (Cell Plain Name)) → AreTold z (in_world z s) cs xs → AreTold z (in_world z s) (cs ++ ds) xs
  are-left s cs ds [] h = tt
  are-left s cs ds (x ∷ xs) h = (go (numbered z x) h.0, are-left s cs ds xs h.1)
    where
      go : (t : Telling) → IsTold z (in_world z s) cs t → IsTold z (in_world z s) (cs ++ ds) t
      go (By c) h = among-left cs ds c h
      go (Its r n) h = h

  are-right : (s : Step) (cs ds : List Numbered) (xs : List (Cell Plain Name)) → AreTold z (in_world z s) ds xs → AreTold z (in_world z s) (cs ++ ds) xs
  are-right s cs ds [] h = tt
  are-right s cs ds (x ∷ xs) h = (go (numbered z x) h.0, are-right s cs ds xs h.1)
    where
      go : (t : Telling) → IsTold z (in_world z s) ds t → IsTold z (in_world z s) (cs ++ ds) t
      go (By c) h = among-right cs ds c h
      go (Its r n) h = h

  steps-left : (foot more : Foot Numbered) (ts : List Taken) → StepsTold z foot ts → StepsTold z (with_foot foot more) ts
  steps-left foot more [] h = tt
  steps-left foot more (t ∷ ts) h = (
    record { reads = are-left t.step foot.reads more.reads t.foot.reads h.0.reads; writes = are-left t.step foot.writes more.writes t.foot.writes h.0.writes },
    steps-left foot more ts h.1,
  )

  one-right : (foot more : Foot Numbered) (t : Taken) → IsToldBy z t more → IsToldBy z t (with_foot foot more)
  one-right foot more t h =
      record { reads = are-right t.step foot.reads more.reads t.foot.reads h.reads; writes = are-right t.step foot.writes more.writes t.foot.writes h.writes }

  one-more : (foot more : Foot Numbered) (ts : List Taken) (t : Taken) → StepsTold z foot ts → IsToldBy z t more
      → StepsTold z (with_foot foot more) (ts ++ t ∷ [])
  one-more foot more ts t h i =
      each-join (λ t. IsToldBy z t (with_foot foot more)) ts (t ∷ []) (steps-left foot more ts h) (one-right foot more t i, tt)

  -- Pieces by numbers and by names, one beside the other.

  pub record IsPiece (p : CellPiece Numbered) (q : Piece Taken) : Type 0 where
    pub owner : p.owner ≡ q.owner
    pub told : StepsTold z p.foot q.steps
    pub own : Each (λ (t : Taken). q.owner ≡ t.step.command) q.steps

  abbrev pub ArePieces : List (CellPiece Numbered) → List (Piece Taken) → Type 0
  ArePieces [] [] = Unit {0}
  ArePieces [] (q ∷ qs) = ⊥
  ArePieces (p ∷ ps) [] = ⊥
  ArePieces (p ∷ ps) (q ∷ qs) = IsPiece p q × ArePieces ps qs

  -- the steps of the piece under way: of which command they are, whether there are some
  abbrev IsOpen : Option ℕ → List Taken → Type 0
  IsOpen None so_far = so_far ≡ []
  IsOpen (Some a) so_far = Each (λ (t : Taken). a ≡ t.step.command) so_far

  is-owned : (o : Option ℕ) (owner : ℕ) (so_far : List Taken) → Fits o owner → IsOpen o so_far → Each (λ (t : Taken). owner ≡ t.step.command) so_far
  is-owned None owner so_far fits h = subst (Each (λ (t : Taken). owner ≡ t.step.command)) (sym h) tt
  is-owned (Some a) owner so_far fits h = subst (λ x. Each (λ (t : Taken). x ≡ t.step.command) so_far) fits h

  own-more : (owner : ℕ) (so_far : List Taken) (t : Taken) → Each (λ (t : Taken). owner ≡ t.step.command) so_far → t.step.command ≡ owner
      → Each (λ (t : Taken). owner ≡ t.step.command) (so_far ++ t ∷ [])
  own-more owner so_far t h e = each-join (λ (t : Taken). owner ≡ t.step.command) so_far (t ∷ []) h (sym e, tt)

  abbrev is_begun : List Taken → Bool
  is_begun [] = false
  is_begun (t ∷ ts) = true

  begun-more : (so_far : List Taken) (t : Taken) → is_begun (so_far ++ t ∷ []) ≡ true
  begun-more [] t = refl
  begun-more (x ∷ xs) t = refl

  pub pieces-beside : (os : List (Option Taken)) (es : List Event) (o : Option ℕ) (foot : Foot Numbered) (so_far : List Taken)
      → AreBeside z o os es → IsOpen o so_far → StepsTold z foot so_far → ArePieces (told_from foot (is_begun so_far) es) (pieces_from so_far os es)
  pieces-beside [] [] o foot so_far beside is h = tt
  pieces-beside [] (e ∷ es) o foot so_far beside is h = absurd beside
  pieces-beside (t ∷ os) [] o foot so_far beside is h = absurd beside
  pieces-beside (Some t ∷ os) (Touches owner more ∷ es) o foot so_far beside is h =
      subst (λ b. ArePieces (told_from (with_foot foot (foot_of more)) b es) (pieces_from (so_far ++ t ∷ []) os es)) (begun-more so_far t)
      (pieces-beside os es (Some owner) (with_foot foot (foot_of more)) (so_far ++ t ∷ []) beside.3
      (own-more owner so_far t (is-owned o owner so_far beside.0 is) beside.1) (one-more foot (foot_of more) so_far t h beside.2))
  pieces-beside (Some t ∷ os) (Launches owner ∷ es) o foot so_far beside is h = (
    record {
      owner = refl;
      told = one-more foot no_foot so_far t h beside.2;
      own = own-more owner so_far t (is-owned o owner so_far beside.0 is) beside.1;
    },
    pieces-beside os es None no_foot [] beside.3 refl tt,
  )
  pieces-beside (Some t ∷ os) (Ends owner ∷ es) o foot so_far beside is h = absurd beside
  pieces-beside (None ∷ os) (Touches owner more ∷ es) o foot so_far beside is h = absurd beside
  pieces-beside (None ∷ os) (Launches owner ∷ es) o foot so_far beside is h = absurd beside
  pieces-beside (None ∷ os) (Ends owner ∷ es) o foot [] beside is h = pieces-beside os es None foot [] beside.1 refl tt
  pieces-beside (None ∷ os) (Ends owner ∷ es) o foot (t ∷ ts) beside is h = (
    record { owner = refl; told = h; own = is-owned o owner (t ∷ ts) beside.0 is },
    pieces-beside os es None no_foot [] beside.1 refl tt,
  )

  -- they have all steps
  pub pieces-steps : (os : List (Option Taken)) (es : List Event) (o : Option ℕ) (so_far : List Taken) → AreBeside z o os es → IsOpen o so_far
      → steps_of (pieces_from so_far os es) ≡ so_far ++ steps_in os
  pieces-steps [] [] o so_far beside is = sym (append-nil so_far ∙ subst (λ o. IsOpen o so_far) beside is)
  pieces-steps [] (e ∷ es) o so_far beside is = absurd beside
  pieces-steps (t ∷ os) [] o so_far beside is = absurd beside
  pieces-steps (Some t ∷ os) (Touches owner more ∷ es) o so_far beside is =
      pieces-steps os es (Some owner) (so_far ++ t ∷ []) beside.3 (own-more owner so_far t (is-owned o owner so_far beside.0 is) beside.1)
      ∙ append_assoc so_far (t ∷ []) (steps_in os)
  pieces-steps (Some t ∷ os) (Launches owner ∷ es) o so_far beside is =
      ap (λ l. (so_far ++ t ∷ []) ++ l) (pieces-steps os es None [] beside.3 refl) ∙ append_assoc so_far (t ∷ []) (steps_in os)
  pieces-steps (Some t ∷ os) (Ends owner ∷ es) o so_far beside is = absurd beside
  pieces-steps (None ∷ os) (Touches owner more ∷ es) o so_far beside is = absurd beside
  pieces-steps (None ∷ os) (Launches owner ∷ es) o so_far beside is = absurd beside
  pieces-steps (None ∷ os) (Ends owner ∷ es) o [] beside is = pieces-steps os es None [] beside.1 refl
  pieces-steps (None ∷ os) (Ends owner ∷ es) o (t ∷ ts) beside is = ap (λ l. t ∷ (ts ++ l)) (pieces-steps os es None [] beside.1 refl)

-- In waves.

abbrev pub ToldPlaced : Type 0
ToldPlaced = Placed (Told (Foot Numbered) Numbered (Unit {0}))

-- pieces in the waves of others
abbrev pub in_waves : List ToldPlaced → List (Piece Taken) → List (Placed Taken)
in_waves [] ps = []
in_waves (q ∷ qs) [] = []
in_waves (q ∷ qs) (p ∷ ps) = record { wave = q.wave; piece = p } ∷ in_waves qs ps

module _ (z : World) where
  pub record IsPlaced (q : ToldPlaced) (p : Piece Taken) : Type 0 where
    pub foot : Foot Numbered
    pub steps : q.piece.steps ≡ told foot ∷ []
    pub owner : q.piece.owner ≡ p.owner
    pub told_by : StepsTold z foot p.steps
    pub own : Each (λ (t : Taken). p.owner ≡ t.step.command) p.steps

  abbrev pub ArePlaced : List ToldPlaced → List (Piece Taken) → Type 0
  ArePlaced [] [] = Unit {0}
  ArePlaced [] (p ∷ ps) = ⊥
  ArePlaced (q ∷ qs) [] = ⊥
  ArePlaced (q ∷ qs) (p ∷ ps) = IsPlaced q p × ArePlaced qs ps

  pub placed-beside : (earlier : List ToldPlaced) (cs : List (CellPiece Numbered)) (ps : List (Piece Taken)) → ArePieces z cs ps
      → ArePlaced (placed_after feet earlier (map as_piece cs)) ps
  unfolding placed_after
  placed-beside earlier [] [] h = tt
  placed-beside earlier [] (p ∷ ps) h = absurd h
  placed-beside earlier (c ∷ cs) [] h = absurd h
  placed-beside earlier (c ∷ cs) (p ∷ ps) h = (
    record { foot = c.foot; steps = refl; owner = h.0.owner; told_by = h.0.told; own = h.0.own },
    placed-beside (record { wave = wave_of feet earlier (as_piece c); piece = as_piece c } ∷ earlier) cs ps h.1,
  )

  pub same-members : (qs : List ToldPlaced) (ps : List (Piece Taken)) → ArePlaced qs ps → members (in_waves qs ps) ≡ members qs
  same-members [] [] h = refl
  same-members [] (p ∷ ps) h = absurd h
  same-members (q ∷ qs) [] h = absurd h
  same-members (q ∷ qs) (p ∷ ps) h =
      ap (λ o. let m : Member = record { wave = q.wave; owner = o } in m ∷ members (in_waves qs ps)) (sym h.0.owner)
      ∙ ap (λ l. let m : Member = record { wave = q.wave; owner = q.piece.owner } in m ∷ l) (same-members qs ps h.1)

  pub each-wave : (P : ℕ → Type 0) (qs : List ToldPlaced) (ps : List (Piece Taken)) → ArePlaced qs ps → Each (λ q. P q.wave) qs
      → Each (λ (q : Placed Taken). P q.wave) (in_waves qs ps)
  each-wave P [] [] h all = tt
  each-wave P [] (p ∷ ps) h all = absurd h
  each-wave P (q ∷ qs) [] h all = absurd h
  each-wave P (q ∷ qs) (p ∷ ps) h all = (all.0, each-wave P qs ps h.1 all.1)

  tolds-in : (wave owner : ℕ) (ts : List Taken) (ms : List (Move Taken)) → tolds (moves_in wave owner ts ++ ms) ≡ ts ++ tolds ms
  tolds-in wave owner [] ms = refl
  tolds-in wave owner (t ∷ ts) ms = ap (λ l. t ∷ l) (tolds-in wave owner ts ms)

  pub same-steps : (qs : List ToldPlaced) (ps : List (Piece Taken)) → ArePlaced qs ps → tolds (moves_of (in_waves qs ps)) ≡ steps_of ps
  same-steps [] [] h = refl
  same-steps [] (p ∷ ps) h = absurd h
  same-steps (q ∷ qs) [] h = absurd h
  same-steps (q ∷ qs) (p ∷ ps) h =
      tolds-in q.wave p.owner p.steps (moves_of (in_waves qs ps)) ∙ ap (λ l. p.steps ++ l) (same-steps qs ps h.1)

  own-in : (wave owner : ℕ) (ts : List Taken) → Each (λ (t : Taken). owner ≡ t.step.command) ts
      → Each (λ (m : Move Taken). m.owner ≡ m.told.step.command) (moves_in wave owner ts)
  own-in wave owner [] h = tt
  own-in wave owner (t ∷ ts) h = (h.0, own-in wave owner ts h.1)

  pub own-steps : (qs : List ToldPlaced) (ps : List (Piece Taken)) → ArePlaced qs ps
      → Each (λ (m : Move Taken). m.owner ≡ m.told.step.command) (moves_of (in_waves qs ps))
  own-steps [] [] h = tt
  own-steps [] (p ∷ ps) h = absurd h
  own-steps (q ∷ qs) [] h = absurd h
  own-steps (q ∷ qs) (p ∷ ps) h =
      each-join (λ (m : Move Taken). m.owner ≡ m.told.step.command) (moves_in q.wave p.owner p.steps) (moves_of (in_waves qs ps))
      (own-in q.wave p.owner p.steps h.0.own) (own-steps qs ps h.1)

  -- pieces that conflict by names are in waves apart
  module _ (k : PlaysKernel) where
    apart-one : (q r : ToldPlaced) (p s : Piece Taken) → IsPlaced q p → IsPlaced r s → Apart feet q r
        → Follows p.owner q.wave s.owner r.wave (steps_conflict (by_cells k.it) p.steps s.steps)
    apart-one q r p s a b h = record {
      own = λ e. h.own (a.owner ∙ e ∙ sym b.owner);
      other = λ ne e. h.other (λ same. ne (sym a.owner ∙ same ∙ b.owner))
          (subst (λ xs. steps_conflict feet xs r.piece.steps ≡ true) (sym a.steps)
          (subst (λ ys. steps_conflict feet (told a.foot ∷ []) ys ≡ true) (sym b.steps)
          (or-left (conflict feet a.foot b.foot || false) false
          (or-left (conflict feet a.foot b.foot) false
          (pieces-conflict k z p.owner s.owner ne p.steps s.steps a.own b.own a.foot b.foot a.told_by b.told_by e)))));
    }

    apart-all : (q : ToldPlaced) (p : Piece Taken) → IsPlaced q p → (rs : List ToldPlaced) (ss : List (Piece Taken)) → ArePlaced rs ss
        → Each (Apart feet q) rs → Each (Apart (by_cells k.it) (record { wave = q.wave; piece = p })) (in_waves rs ss)
    apart-all q p a [] [] h all = tt
    apart-all q p a [] (s ∷ ss) h all = absurd h
    apart-all q p a (r ∷ rs) [] h all = absurd h
    apart-all q p a (r ∷ rs) (s ∷ ss) h all = (apart-one q r p s a h.0 all.0, apart-all q p a rs ss h.1 all.1)

    pub are-apart : (qs : List ToldPlaced) (ps : List (Piece Taken)) → ArePlaced qs ps → AreApart feet qs → AreApart (by_cells k.it) (in_waves qs ps)
    are-apart [] [] h all = tt
    are-apart [] (p ∷ ps) h all = absurd h
    are-apart (q ∷ qs) [] h all = absurd h
    are-apart (q ∷ qs) (p ∷ ps) h all = (apart-all q p h.0 qs ps h.1 all.0, are-apart qs ps h.1 all.1)

-- no wave is behind the last one
pub none-behind : {T : Type 0} (qs : List (Placed T)) → Each (λ q. q.wave ≤ wave_count (members qs)) qs
none-behind {T} qs = go qs (wave_count (members qs)) (omega arith)
  where
    go : (qs : List (Placed T)) (most : ℕ) → wave_count (members qs) ≤ most → Each (λ q. q.wave ≤ most) qs
    go [] most h = tt
    go (q ∷ qs) most h = (omega arith, go qs most (omega arith))
