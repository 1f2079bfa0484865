-- Where all marks have one start, no other comes out.
use Rattle.std.proofs.Common.{◌≡◌, ℕ, zero, suc, ◌+◌, ◌-◌, ◌<◌, ◌≤◌, List, [], ◌∷◌, ◌++◌, Bool, true, false, length, get_or, refl, sym, ap, ◌∙◌, arith, subst}
use Rattle.std.specs.Prelude.{Option, Some, None, nat_le, ◌==◌, ◌&&◌, if◌then◌else◌}
use Rattle.std.proofs.lemmas.Bool.{eqb-true}
use Rattle.rk_base.specs.Text.{Text}
use Rattle.ut_bre.specs.declared.set.One.{One}
use Rattle.ut_bre.specs.declared.tree.Times.{Times}
use Rattle.ut_bre.specs.Trees.{meets, ItemTree, one, group, ItemsTree, no_items, item_and}
use Rattle.ut_bre.specs.Picking.{RestTree, rest_items, rest_turns, ReachesEnd, IsLatest}
use Rattle.ut_bre.specs.Walking.{Mark, Flow, Step, front, behind, pop, flow, step, earlier, repeat, out_of, flow_beyond, flow_times, flow_item, flow_items, flow_turn, step_one, step_out, step_beyond, step_times, step_item, step_items, step_turn}
use Rattle.ut_bre.specs.Resting.{flow_rest, step_rest, distance, first_seed, before}
use Rattle.ut_bre.specs.Found.{latest_from}
use Rattle.ut_bre.specs.Settling.{are_none, are_only}
use Rattle.ut_bre.proofs.Existing.{pass}
use Rattle.ut_bre.proofs.Latest.{Passed}

abbrev pub EachMark : (Mark → Type 0) → List Mark → Type 0
EachMark P [] = Unit {0}
EachMark P (m ∷ ms) = P m × EachMark P ms

record InFlow (P : Mark → Type 0) (f : Flow) : Type 0 where
  out : P f.out
  rest : EachMark P f.rest

record InStep (P : Mark → Type 0) (s : Step) : Type 0 where
  flow : InFlow P s.flow
  next : EachMark P s.next

-- What holds of no mark, and of the earlier of two, holds of all that come out where it holds of all that go in.
module _ (P : Mark → Type 0) (none : P None) (least : (a b : Mark) → P a → P b → P (earlier a b)) where
  front-kept : (ms : List Mark) → EachMark P ms → P (front ms)
  front-kept [] h = none
  front-kept (m ∷ ms) h = h.0

  behind-kept : (ms : List Mark) → EachMark P ms → EachMark P (behind ms)
  behind-kept [] h = tt
  behind-kept (m ∷ ms) h = h.1

  popped : (ms : List Mark) → EachMark P ms → InFlow P (pop ms)
  popped ms h = record { out = front-kept ms h; rest = behind-kept ms h }

  repeat-flow : (F : Flow → Flow) → ((f : Flow) → InFlow P f → InFlow P (F f)) → (n : ℕ) (f : Flow) → InFlow P f → InFlow P (repeat F n f)
  repeat-flow F keeps zero f h = h
  repeat-flow F keeps (suc n) f h = keeps (repeat F n f) (repeat-flow F keeps n f h)

  out_of-kept : (F : Flow → Flow) → ((f : Flow) → InFlow P f → InFlow P (F f)) → (n : ℕ) (f : Flow) → InFlow P f → P (out_of F n f)
  out_of-kept F keeps zero f h = h.out
  out_of-kept F keeps (suc n) f h = least (out_of F n f) (repeat F (suc n) f).out (out_of-kept F keeps n f h) (repeat-flow F keeps (suc n) f h).out

  beyond-flow : (F : Flow → Flow) → ((f : Flow) → InFlow P f → InFlow P (F f)) → (most : Option ℕ) (f : Flow) → InFlow P f → InFlow P (flow_beyond F most f)
  beyond-flow F keeps None f h = record { out = least f.out (F f).out h.out (keeps f h).out; rest = (keeps f h).rest }
  beyond-flow F keeps (Some n) f h = record { out = out_of-kept F keeps n f h; rest = (repeat-flow F keeps n f h).rest }

  times-flow : (F : Flow → Flow) → ((f : Flow) → InFlow P f → InFlow P (F f)) → (times : Times) (f : Flow) → InFlow P f → InFlow P (flow_times F times f)
  times-flow F keeps times f h = beyond-flow F keeps times.beyond (repeat F times.least f) (repeat-flow F keeps times.least f h)

  mutual
    item-flow : (x : ItemTree) (f : Flow) → InFlow P f → InFlow P (flow_item x f)
    item-flow (one times what) f h = times-flow (λ f. pop f.rest) (λ f h. popped f.rest h.rest) times f h
    item-flow (group times number body) f h = times-flow (flow_items body) (items-flow body) times f h

    items-flow : (xs : ItemsTree) (f : Flow) → InFlow P f → InFlow P (flow_items xs f)
    items-flow no_items f h = h
    items-flow (item_and x xs) f h = items-flow xs (flow_item x f) (item-flow x f h)

  turn-flow : (x : ItemTree) (f : Flow) → InFlow P f → InFlow P (flow_turn x f)
  turn-flow (one times what) f h = popped f.rest h.rest
  turn-flow (group times number body) f h = items-flow body f h

  rest-flow : (rest : RestTree) (f : Flow) → InFlow P f → InFlow P (flow_rest rest f)
  rest-flow (rest_items xs) f h = items-flow xs f h
  rest-flow (rest_turns x times) f h = times-flow (flow_turn x) (turn-flow x) times f h

  append-kept : (ms ns : List Mark) → EachMark P ms → EachMark P ns → EachMark P (ms ++ ns)
  append-kept [] ns h k = k
  append-kept (m ∷ ms) ns h k = (h.0, append-kept ms ns h.1 k)

  if-kept : (z : Bool) (m : Mark) → P m → P (if z then m else None)
  if-kept true m h = h
  if-kept false m h = none

  one-step : (what : One) (b : ℕ) (s : Step) → InStep P s → InStep P (step_one what b s)
  one-step what b s h =
      record {
        flow = popped s.flow.rest h.flow.rest;
        next = append-kept s.next ((if meets what b then s.flow.out else None) ∷ []) h.next (if-kept (meets what b) s.flow.out h.flow.out, tt);
      }

  repeat-step : (G : Step → Step) → ((s : Step) → InStep P s → InStep P (G s)) → (n : ℕ) (s : Step) → InStep P s → InStep P (repeat G n s)
  repeat-step G keeps zero s h = h
  repeat-step G keeps (suc n) s h = keeps (repeat G n s) (repeat-step G keeps n s h)

  step_out-kept : (G : Step → Step) → ((s : Step) → InStep P s → InStep P (G s)) → (n : ℕ) (s : Step) → InStep P s → P (step_out G n s)
  step_out-kept G keeps zero s h = h.flow.out
  step_out-kept G keeps (suc n) s h = least (step_out G n s) (repeat G (suc n) s).flow.out (step_out-kept G keeps n s h) (repeat-step G keeps (suc n) s h).flow.out

  beyond-step : (F : Flow → Flow) (G : Step → Step) → ((f : Flow) → InFlow P f → InFlow P (F f)) → ((s : Step) → InStep P s → InStep P (G s)) → (most : Option ℕ) (s : Step) → InStep P s → InStep P (step_beyond F G most s)
  beyond-step F G flows keeps None s h =
      let again : P (earlier s.flow.out (F s.flow).out) = least s.flow.out (F s.flow).out h.flow.out (flows s.flow h.flow).out in
      let k = keeps (record { flow = record { out = earlier s.flow.out (F s.flow).out; rest = s.flow.rest }; next = s.next }) (record { flow = record { out = again; rest = h.flow.rest }; next = h.next }) in
      record { flow = record { out = again; rest = k.flow.rest }; next = k.next }
  beyond-step F G flows keeps (Some n) s h =
      let k = repeat-step G keeps n s h in
      record { flow = record { out = step_out-kept G keeps n s h; rest = k.flow.rest }; next = k.next }

  times-step : (F : Flow → Flow) (G : Step → Step) → ((f : Flow) → InFlow P f → InFlow P (F f)) → ((s : Step) → InStep P s → InStep P (G s)) → (times : Times) (s : Step) → InStep P s → InStep P (step_times F G times s)
  times-step F G flows keeps times s h = beyond-step F G flows keeps times.beyond (repeat G times.least s) (repeat-step G keeps times.least s h)

  mutual
    item-step : (b : ℕ) (x : ItemTree) (s : Step) → InStep P s → InStep P (step_item b x s)
    item-step b (one times what) s h = times-step (λ f. pop f.rest) (step_one what b) (λ f h. popped f.rest h.rest) (one-step what b) times s h
    item-step b (group times number body) s h = times-step (flow_items body) (step_items b body) (items-flow body) (items-step b body) times s h

    items-step : (b : ℕ) (xs : ItemsTree) (s : Step) → InStep P s → InStep P (step_items b xs s)
    items-step b no_items s h = h
    items-step b (item_and x xs) s h = items-step b xs (step_item b x s) (item-step b x s h)

  turn-step : (b : ℕ) (x : ItemTree) (s : Step) → InStep P s → InStep P (step_turn b x s)
  turn-step b (one times what) s h = one-step what b s h
  turn-step b (group times number body) s h = items-step b body s h

  front-step : (b : ℕ) (x : ItemTree) (times : Times) (s : Step) → InStep P s → InStep P (step_times (flow_turn x) (step_turn b x) times s)
  front-step b x times s h = times-step (flow_turn x) (step_turn b x) (turn-flow x) (turn-step b x) times s h

  rest-step : (b : ℕ) (rest : RestTree) (s : Step) → InStep P s → InStep P (step_rest b rest s)
  rest-step b (rest_items xs) s h = items-step b xs s h
  rest-step b (rest_turns x times) s h = front-step b x times s h

abbrev pub IsNone : Mark → Type 0
IsNone m = m ≡ None

abbrev pub IsOnly : ℕ → Mark → Type 0
IsOnly d None = Unit {0}
IsOnly d (Some x) = x ≡ d

none-least : (a b : Mark) → IsNone a → IsNone b → IsNone (earlier a b)
none-least a b h k = ap (λ m. earlier m b) h ∙ k

only-least : (d : ℕ) (a b : Mark) → IsOnly d a → IsOnly d b → IsOnly d (earlier a b)
only-least d None b h k = k
only-least d (Some x) None h k = h
only-least d (Some x) (Some y) h k = elim (nat_le x y) as (λ z. IsOnly d (if z then Some x else Some y)) [ true ↦ h | false ↦ k ]

seed-if : (at start : ℕ) (z : Bool) → (at == start) ≡ z → start < at → IsNone (if z then Some 0 else None)
seed-if at start true e lt = let same : at ≡ start = eqb-true at start e in absurd (omega arith)
seed-if at start false e lt = refl

no-seed : (at start : ℕ) → start < at → IsNone (first_seed at start)
no-seed at start lt = seed-if at start (at == start) refl lt

no-distance : (d at end : ℕ) (out : Mark) → IsNone out → IsOnly d (distance out at end)
no-distance d at end out e = subst (IsOnly d) (sym (ap (λ m. distance m at end) e)) tt

place-before : (d end : ℕ) (far : Mark) → IsOnly d far → IsOnly (end - d) (before end far)
place-before d end None h = tt
place-before d end (Some x) h = ap (λ k. end - k) h

-- no other place is told from here on
settled : (line : Text) (x : ItemTree) (times : Times) (rest : RestTree) (start end d n at : ℕ) (ahead back : List Mark) → at + n ≡ end → start < at → EachMark IsNone ahead → EachMark (IsOnly d) back → IsOnly (end - d) (latest_from line x times rest start end n at ahead back)
settled line x times rest start end d zero at ahead back z lt h k =
    let gone = times-flow IsNone refl none-least (flow_turn x) (turn-flow IsNone refl none-least x) times (flow (first_seed end start) ahead) (record { out = no-seed end start (omega arith); rest = h }) in
    let out : Mark = (flow_times (flow_turn x) times (flow (first_seed end start) ahead)).out in
    let left = rest-flow (IsOnly d) tt (only-least d) rest (flow (distance out end end) back) (record { out = no-distance d end end out gone.out; rest = k }) in
    place-before d end (flow_rest rest (flow (distance out end end) back)).out left.out
settled line x times rest start end d (suc n) at ahead back z lt h k =
    let b : ℕ = get_or line at 0 in
    let s : Step = step_times (flow_turn x) (step_turn b x) times (step (first_seed at start) ahead []) in
    let gone = front-step IsNone refl none-least b x times (step (first_seed at start) ahead []) (record { flow = record { out = no-seed at start lt; rest = h }; next = tt }) in
    let t : Step = step_rest b rest (step (distance s.flow.out at end) back []) in
    let left = rest-step (IsOnly d) tt (only-least d) b rest (step (distance s.flow.out at end) back []) (record { flow = record { out = no-distance d at end s.flow.out gone.flow.out; rest = k }; next = tt }) in
    settled line x times rest start end d n (at + 1) s.next t.next (omega arith) (omega arith) gone.next left.next

each-none : (ms : List Mark) → are_none ms ≡ true → EachMark IsNone ms
each-none [] h = tt
each-none (None ∷ ms) h = (refl, each-none ms h)
each-none (Some x ∷ ms) h = absurd (cc)

both-true : (a b : Bool) → (a && b) ≡ true → (a ≡ true) × (b ≡ true)
both-true true b h = (refl, h)
both-true false b h = absurd (cc)

each-only : (d : ℕ) (ms : List Mark) → are_only d ms ≡ true → EachMark (IsOnly d) ms
each-only d [] h = tt
each-only d (None ∷ ms) h = (tt, each-only d ms h)
each-only d (Some x ∷ ms) h = let both = both-true (x == d) (are_only d ms) h in (eqb-true x d both.0, each-only d ms both.1)

the-latest : (P : ℕ → Type 0) (m : ℕ) (r : Option ℕ) → IsOnly m r → IsLatest P r → (IsLatest P None → ⊥) → IsLatest P (Some m)
the-latest P m None o l some = absurd (some l)
the-latest P m (Some k) o l some = subst (λ i. IsLatest P (Some i)) o l

-- so it is the last one, where there is one
pub settled-latest : (line : Text) (x : ItemTree) (times : Times) (rest : RestTree) (start end at d : ℕ) (ahead back : List Mark) → start < at → at ≤ end → end ≤ length line → are_none ahead ≡ true → are_only d back ≡ true → Passed line x times rest start end at ahead back → (IsLatest (ReachesEnd line x times rest start end) None → ⊥) → IsLatest (ReachesEnd line x times rest start end) (Some (end - d))
settled-latest line x times rest start end at d ahead back lt le within none only passed some =
    let all : at + (end - at) ≡ end = omega arith in
    the-latest (ReachesEnd line x times rest start end) (end - d) (latest_from line x times rest start end (end - at) at ahead back) (settled line x times rest start end d (end - at) at ahead back all lt (each-none ahead none) (each-only d back only)) (pass line x times rest start end (end - at) at ahead back all within passed) some
