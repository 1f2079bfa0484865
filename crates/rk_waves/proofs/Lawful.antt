-- A world whose steps are programs over its cells is lawful.
use Rattle.std.proofs.Common.{◌≡◌, inl, inr, List, [], ◌∷◌, Bool, true, false, ◌||◌, Option, Some, None, refl, sym, ◌∙◌, ap, ap₂, subst, true≢false}
use Rattle.std.specs.Prelude.{if◌then◌else◌}
use Rattle.rk_waves.specs.System.{IsLawful, has, AgreeOn, AgreePlainlyOn}
use Rattle.rk_waves.specs.Tests.{or-left, or-right, left-false, right-false}
use Rattle.rk_waves.specs.Programs.{Cell, One, All, Update, Program, Reads, Ends, Programmed, updated, is_cell, with_group, written_cells, written, reads_of}
use Rattle.rk_waves.specs.Programs.{end_of, gathers_all, by_cells}

module _ {World Step Plain Group Value Answer : Type 0} (it : Programmed World Step Plain Group Value Answer) where
  pub cell-is : (c d : Cell Plain Group) → is_cell it.cells c d ≡ true → c ≡ d
  cell-is (One p) (One q) e = ap One (it.cells.plain_is p q e)
  cell-is (One p) (All d) e = absurd (true≢false (sym e))
  cell-is (All c) (One q) e = absurd (true≢false (sym e))
  cell-is (All c) (All d) e = ap All (it.cells.group_is c d e)

  pub cell-self : (c : Cell Plain Group) → is_cell it.cells c c ≡ true
  cell-self (One p) = it.cells.plain_self p
  cell-self (All d) = it.cells.group_self d

  -- where what it reads is equal, a program takes one course
  pub one-course :
      (x : Program Plain Group Value Answer) (w v : World) → AgreeOn (by_cells it) (reads_of (it.at w) x) w v
      → (reads_of (it.at v) x ≡ reads_of (it.at w) x) × (end_of (it.at v) x ≡ end_of (it.at w) x)
  one-course (Ends answer writes) w v h = (refl, refl)
  one-course (Reads c next) w v h =
      let here : it.at w c ≡ it.at v c = h c (or-left (is_cell it.cells c c) (has (by_cells it) (reads_of (it.at w) (next (it.at w c))) c) (cell-self c)) in
      let more : (reads_of (it.at v) (next (it.at w c)) ≡ reads_of (it.at w) (next (it.at w c)))
      × (end_of (it.at v) (next (it.at w c)) ≡ end_of (it.at w) (next (it.at w c))) =
      one-course (next (it.at w c)) w v (λ d e. h d (or-right (is_cell it.cells c d) (has (by_cells it) (reads_of (it.at w) (next (it.at w c))) d) e)) in
      (ap (λ l. c ∷ l) (ap (λ x. reads_of (it.at v) (next x)) (sym here) ∙ more.0), ap (λ x. end_of (it.at v) (next x)) (sym here) ∙ more.1)

  -- with a group or without it, a cell of its own is among the rest
  without-group : (g : Option Group) (cs : List (Cell Plain Group)) (c : Cell Plain Group) → has (by_cells it) (with_group it.cells g cs) c ≡ false
      → has (by_cells it) cs c ≡ false
  without-group None cs c e = e
  without-group (Some d) cs c e = right-false (is_cell it.cells (All d) c) (has (by_cells it) cs c) e

  group-among : (d : Group) (g : Option Group) (cs : List (Cell Plain Group)) → g ≡ Some d → has (by_cells it) (with_group it.cells g cs) (All d) ≡ true
  group-among d g cs e = subst (λ g. has (by_cells it) (with_group it.cells g cs) (All d) ≡ true) (sym e)
      (or-left (it.cells.is_group d d) (has (by_cells it) cs (All d)) (it.cells.group_self d))

  unwritten : (ws : List (Plain × Update Value)) (p : Plain) (old : Value) → has (by_cells it) (written_cells it.cells ws) (One p) ≡ false
      → written it.cells ws p old ≡ old
  unwritten [] p old e = refl
  unwritten (w ∷ ws) p old e =
      ap (λ b. written it.cells ws p (if b then updated w.1 old else old)) (left-false (it.cells.is_plain w.0 p) _ e)
      ∙ unwritten ws p old (without-group (it.cells.group_of w.0) (written_cells it.cells ws) (One p) (right-false (it.cells.is_plain w.0 p) _ e))

  -- where a group isn't written, no cell of it is
  group-unwritten :
      (ws : List (Plain × Update Value)) (d : Group) (p : Plain) → it.cells.group_of p ≡ Some d
      → has (by_cells it) (written_cells it.cells ws) (All d) ≡ false → has (by_cells it) (written_cells it.cells ws) (One p) ≡ false
  group-unwritten [] d p g e = refl
  group-unwritten (w ∷ ws) d p g e =
      go (it.cells.is_plain w.0 p) refl (group-unwritten ws d p g (without-group (it.cells.group_of w.0) (written_cells it.cells ws) (All d) e))
    where
      rest : List (Cell Plain Group)
      rest = written_cells it.cells ws

      among : (g : Option Group) → has (by_cells it) rest (One p) ≡ false → has (by_cells it) (with_group it.cells g rest) (One p) ≡ false
      among None k = k
      among (Some x) k = k

      go : (b : Bool) → it.cells.is_plain w.0 p ≡ b → has (by_cells it) rest (One p) ≡ false
          → has (by_cells it) (written_cells it.cells (w ∷ ws)) (One p) ≡ false
      go true k none = absurd (true≢false (sym (group-among d (it.cells.group_of w.0) rest (ap it.cells.group_of (it.cells.plain_is w.0 p k) ∙ g)) ∙ e))
      go false k none =
          ap (λ b. b || has (by_cells it) (with_group it.cells (it.cells.group_of w.0) rest) (One p)) k
          ∙ among (it.cells.group_of w.0) none

  pub stays : (s : Step) (w : World) (c : Cell Plain Group) → has (by_cells it) ((by_cells it).foot s w).writes c ≡ false → it.at (it.after s w) c ≡ it.at w c
  stays s w (One p) e = it.writes s w p ∙ unwritten (end_of (it.at w) (it.program s)).1 p (it.at w (One p)) e
  stays s w (All d) e =
      it.groups d w w (it.after s w) w refl
      (λ p g. inl (
        it.writes s w p ∙ unwritten (end_of (it.at w) (it.program s)).1 p (it.at w (One p))
            (group-unwritten (end_of (it.at w) (it.program s)).1 d p g e),
        refl,
      ))

  leaves : (s : Step) (w v : World) → AgreeOn (by_cells it) ((by_cells it).foot s w).reads w v
      → AgreePlainlyOn (by_cells it) ((by_cells it).foot s w).writes w v
      → AgreePlainlyOn (by_cells it) ((by_cells it).foot s w).writes (it.after s w) (it.after s v)
  leaves s w v h k (One p) among plain =
      it.writes s w p
      ∙ ap₂ (λ e x. written it.cells e.1 p x) (sym (one-course (it.program s) w v h).1) (k (One p) among plain)
      ∙ sym (it.writes s v p)
  leaves s w v h k (All d) among plain = absurd (true≢false plain)

  gathered : (w v : World) → ((c : Cell Plain Group) → gathers_all c ≡ false → it.at w c ≡ it.at v c) → (c : Cell Plain Group) → it.at w c ≡ it.at v c
  gathered w v h (One p) = h (One p) refl
  gathered w v h (All d) = it.groups d w w w v refl (λ p _. inr (h (One p) refl))

  -- all laws, once for all steps
  pub programmed-lawful : IsLawful (by_cells it)
  programmed-lawful = record {
    same_cell = cell-is;
    one_foot = λ s w v h. ap₂ (λ r e. record { reads = r; writes = written_cells it.cells e.1 }) (one-course (it.program s) w v h).0
        (one-course (it.program s) w v h).1;
    one_answer = λ s w v h. it.answers s v ∙ ap (λ e. e.0) (one-course (it.program s) w v h).1 ∙ sym (it.answers s w);
    leaves = leaves;
    stays = stays;
    gathered = gathered;
  }
