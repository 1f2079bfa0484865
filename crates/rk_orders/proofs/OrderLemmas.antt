-- The theorem: a plan's waves in any order.
use Rattle.std.proofs.Common.{◌≡◌, ℕ, ◌≤◌, ◌<◌, List, [], ◌∷◌, map, length, false, Option, Some, None, refl, sym, ◌∙◌, ap, subst, arith}
use Rattle.std.specs.Prelude.{slice_get}
use Rattle.rk_calls.specs.Refs.{top_refs}
use Rattle.rk_kernel.specs.Cell.{gathers, same_cell}
use Rattle.rk_kernel.specs.World.{fresh_world}
use Rattle.rk_kernel.specs.declared.cell.Cell.{Cell as Numbered}
use Rattle.rk_waves.specs.CellPieces.{CellPiece, as_piece, no_foot, placed}
use Rattle.rk_waves.specs.Goes.{Goes}
use Rattle.rk_waves.specs.Listed.{IsPlan, members}
use Rattle.rk_waves.specs.Programs.{by_cells}
use Rattle.rk_waves.specs.Waves.{Each, Move, Piece, Placed, moves_of, one_by_one, placed_after, tolds}
use Rattle.rk_waves.proofs.PlacedLemmas.{all-from_one, placed-apart}
use Rattle.rk_feet.specs.Named.{Given}
use Rattle.rk_feet.specs.Played.{PlaysKernel}
use Rattle.rk_feet.specs.Snapshots.{IsStart}
use Rattle.rk_feet.specs.World.{World}
use Rattle.rk_feet.proofs.StartLemmas.{starts}
use Rattle.rk_plan.specs.declared.event.Event.{Event}
use Rattle.rk_plan.specs.Laws.{IsRetraced}
use Rattle.rk_plan.specs.Plans.{pieces_of}
use Rattle.rk_plan.specs.Retracing as numbers
use Rattle.rk_plan.specs.Retracing.{Leads, Retraces}
use Rattle.rk_plan.proofs.RetracedLemmas.{retraced-so}
use Rattle.tr_record.specs.declared.records.Record.{Record}
use Rattle.rk_orders.specs.Named.{steps_in, started}
use Rattle.rk_orders.specs.Orders.{GoInAnyOrder, KeepsCommands, Taken, as_answered}
use Rattle.rk_orders.proofs.ConflictLemmas.{feet}
use Rattle.rk_orders.proofs.HeldLemmas.{held-first}
use Rattle.rk_orders.proofs.RunLemmas.{AreBeside, IsGone, as_turn, gone}
use Rattle.rk_orders.proofs.StepLemmas.{lasts-itself}
use Rattle.rk_orders.proofs.WaveLemmas.{ArePlaced, ToldPlaced, are-apart, each-wave, in_waves, none-behind, own-steps, pieces-are, pieces-beside}
use Rattle.rk_orders.proofs.WaveLemmas.{pieces-steps, pieces_from, placed-beside, same-members, same-steps, told_from}

-- What comes next is one thing, so a run comes to one list of events.
module _ (table : List Record) where
  pair-is : (a b : Event × numbers.Course) → Some a ≡ Some b → (a.0 ≡ b.0) × (a.1 ≡ b.1)
  pair-is a b e = let same : a ≡ b = cc in (ap (λ (p : Event × numbers.Course). p.0) same, ap (λ (p : Event × numbers.Course). p.1) same)

  none-left : (c : numbers.Course) (x : Event × numbers.Course) → c.under_way ≡ [] → numbers.turn table c ≡ Some x → ⊥
  none-left c x none e = let no : None ≡ Some x = sym (ap (numbers.turned table c) none) ∙ e in cc

  same-events : (es fs : List Event) (c a b : numbers.Course) → Leads table c es a → a.under_way ≡ [] → Retraces table c fs b → b.under_way ≡ [] → es ≡ fs
  same-events [] [] c a b l done r finished = refl
  same-events [] (f ∷ fs) c a b l done r finished =
      absurd (none-left c (f, r.0) (ap (λ (c : numbers.Course). c.under_way) l ∙ done) r.1)
  same-events (e ∷ es) [] c a b l done r finished =
      absurd (none-left c (e, l.0) (ap (λ (c : numbers.Course). c.under_way) r ∙ finished) l.1)
  same-events (e ∷ es) (f ∷ fs) c a b l done r finished =
      let same = pair-is (e, l.0) (f, r.0) (sym l.1 ∙ r.1) in
      ap (λ e. e ∷ es) same.0
      ∙ ap (λ es. f ∷ es) (same-events es fs l.0 a b l.2 done (subst (λ c. Retraces table c fs b) (sym same.1) r.3) finished)

-- The steps of turns.
steps-map : (ts : List (Option Taken)) → steps_in (map as_turn ts) ≡ map as_answered (steps_in ts)
steps-map [] = refl
steps-map (None ∷ ts) = steps-map ts
steps-map (Some t ∷ ts) = ap (λ l. as_answered t ∷ l) (steps-map ts)

module _ (k : PlaysKernel) (table : List Record) (end : numbers.Course) (done : end.under_way ≡ []) (all_begun : end.begun ≡ length table) (w : World)
    (given : (n : ℕ) → n < 3 → w.opens.number_of (Given n) ≡ Some n)
    (nothing : (r s : ℕ) → w.used r s ≡ false) (es : List Event) where
  -- from the start on
  from-start : (o : Option Record) → Retraces table (numbers.started w.held o) es end
      → IsGone k table end done all_begun w (started o).under_way (started o).begun None es
  from-start None r = gone k table end done all_begun es w [] 0 [] None (λ a b from. nothing a b) tt tt r
  from-start (Some rec) r =
      gone k table end done all_begun es w ((started (Some rec)).under_way) 1 (top_refs ∷ []) None (λ a b from. nothing a b)
      (record { below = omega arith; held = held-first w given; unused = λ b from. nothing 0 b }, tt) tt r

-- The run in waves.
module _ (k : PlaysKernel) (w last : World) (turns : List (Option Taken)) (es : List Event) (goes : Goes (by_cells k.it) w (steps_in turns) last)
    (beside : AreBeside last None turns es) (lists : List (List ℕ))
    (plan : IsPlan (members (placed same_cell gathers (pieces_of es).ended)) lists) where
  cells : List (CellPiece Numbered)
  cells = told_from no_foot false es

  abbrev in_order : List ToldPlaced
  in_order = placed_after feet [] (map as_piece (told_from no_foot false es))

  abbrev pieces : List (Piece Taken)
  pieces = pieces_from [] turns es

  are : ArePlaced last in_order pieces
  are = placed-beside last [] (told_from no_foot false es) pieces (pieces-beside last turns es None no_foot [] beside refl tt)

  abbrev pub run : List (Placed Taken)
  run = in_waves in_order pieces

  pub steps-are : tolds (moves_of run) ≡ steps_in turns
  steps-are = same-steps last in_order pieces are ∙ pieces-steps last turns es None [] beside refl

  pub owners : Each (λ (m : Move Taken). m.owner ≡ m.told.step.command) (moves_of run)
  owners = own-steps last in_order pieces are

  pub is-plan : IsPlan (members run) lists
  is-plan = subst (λ ms. IsPlan ms lists)
      (ap (λ ps. members (placed same_cell gathers ps)) (pieces-are es) ∙ sym (same-members last in_order pieces are)) plan

  pub run-goes : Goes (by_cells k.it) w (tolds (moves_of run)) last
  run-goes = subst (λ l. Goes (by_cells k.it) w l last) (sym steps-are) goes

  within : Each (λ (q : Placed Taken). q.wave ≤ length lists) run
  within = subst (λ n. Each (λ (q : Placed Taken). q.wave ≤ n) run) (sym is-plan.count) (none-behind run)

  pub in-order : (order : ℕ → List (Move Taken)) → KeepsCommands order run → Goes (by_cells k.it) w (tolds (one_by_one order (length lists))) last
  in-order order keeps =
      k.apart w last run order (length lists) (are-apart last k in_order pieces are (placed-apart feet (map as_piece (told_from no_foot false es))))
      (each-wave last (λ n. 1 ≤ n) in_order pieces are (all-from_one feet [] (map as_piece (told_from no_foot false es)))) within run-goes keeps

pub in-any-order : GoInAnyOrder
in-any-order k snapshot whole first purse key after status left table e lists plan =
    let begun = starts snapshot whole in
    let w : World = begun.0 in
    let start : IsStart snapshot w = begun.1 in
    let traced : IsRetraced table (fresh_world snapshot) after = retraced-so first purse key (fresh_world snapshot) after status left table e in
    let it = from-start k table traced.end traced.done traced.all_begun w start.given start.nothing_made traced.events (slice_get table 0)
    (subst (λ h. Retraces table (numbers.start h table) traced.events traced.end) (sym start.fresh) traced.retraces) in
    let same = same-events table plan.events traced.events (numbers.start (fresh_world snapshot) table) plan.end traced.end plan.are.leads plan.are.done
    traced.retraces traced.done in
    let is_plan = subst (λ es. IsPlan (members (placed same_cell gathers (pieces_of es).ended)) lists) same plan.plan in
    let beside = it.beside it.last (lasts-itself it.last) in
    let goes = run-goes k w it.last it.turns traced.events it.goes beside lists is_plan in
    record {
      start = w;
      starts = start;
      end = it.last;
      ends = it.held ∙ traced.world_is;
      run = run k w it.last it.turns traced.events it.goes beside lists is_plan;
      is = record {
        steps = record {
          turns = map as_turn it.turns;
          are = it.are;
          taken = steps-map it.turns ∙ ap (map as_answered) (sym (steps-are k w it.last it.turns traced.events it.goes beside lists is_plan));
        };
        owners = owners k w it.last it.turns traced.events it.goes beside lists is_plan;
        plan = is-plan k w it.last it.turns traced.events it.goes beside lists is_plan;
      };
      goes = record { goes = goes; seen = k.seen w it.last _ goes };
      orders = λ order keeps.
          let go = in-order k w it.last it.turns traced.events it.goes beside lists is_plan order keeps in
          record { goes = go; seen = k.seen w it.last _ go };
    }
