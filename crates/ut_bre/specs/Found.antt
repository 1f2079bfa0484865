-- What is found in a line, as functions: their laws say that each is the one answer that its definition has.
use Rattle.std.specs.Prelude.{◌≡◌, ◌↔◌, ℕ, zero, suc, ◌+◌, ◌-◌, ◌==◌, ◌&&◌, nat_lt, length, slice_index, replicate, List, [], ◌∷◌, ◌++◌, Option, Some, None, unwrap_or, if◌then◌else◌}
use Rattle.rk_base.specs.Text.{Text}
use Rattle.ut_bre.specs.declared.tree.Times.{Times}
use Rattle.ut_bre.specs.declared.group.Span.{Span}
use Rattle.ut_bre.specs.declared.group.Found.{Found}
use Rattle.ut_bre.specs.Trees.{ItemTree, one, group, ItemsTree, no_items, item_and, times_of, Expression}
use Rattle.ut_bre.specs.Times.{once, less_one}
use Rattle.ut_bre.specs.Matching.{Finds}
use Rattle.ut_bre.specs.Picking.{Turn, RestTree, rest_items, rest_turns, put_turns, FindsGroups}
use Rattle.ut_bre.specs.Walking.{Mark, flow, step, flow_turn, flow_times, flow_items, step_turn, step_times, step_items}
use Rattle.ut_bre.specs.Running.{seed, better, accept}
use Rattle.ut_bre.specs.Resting.{flow_rest, step_rest, distance, first_seed, before}

-- The leftmost longest match: marks go to the line's end, from a place with so many bytes before that end.
abbrev pub scan : Expression → Text → ℕ → ℕ → List Mark → Option Span → Option Span
scan e line zero at marks best = better best (flow_items e.items (flow (seed e.at_start at) marks)).out at
scan e line (suc n) at marks best =
    let s = step_items (slice_index line at) e.items (step (seed e.at_start at) marks []) in
    scan e line n (at + 1) s.next (accept e.at_end best s.flow.out at)

-- the leftmost longest match from a place on
unfoldable pub span_found : Expression → Text → ℕ → Option Span
span_found e line from = if nat_lt (length line) from then None else scan e line (length line - from) from [] None

-- The last place to which these turns lead and from which the rest leads to the end.
abbrev pub latest_from : Text → ItemTree → Times → RestTree → ℕ → ℕ → ℕ → ℕ → List Mark → List Mark → Option ℕ
latest_from line x times rest start end zero at front back =
    let out = (flow_times (flow_turn x) times (flow (first_seed end start) front)).out in
    before end (flow_rest rest (flow (distance out end end) back)).out
latest_from line x times rest start end (suc n) at front back =
    let b = slice_index line at in
    let s = step_times (flow_turn x) (step_turn b x) times (step (first_seed at start) front []) in
    let t = step_rest b rest (step (distance s.flow.out at end) back []) in
    latest_from line x times rest start end n (at + 1) s.next t.next

abbrev pub latest : Text → ItemTree → Times → RestTree → ℕ → ℕ → ℕ
latest line x times rest start end = unwrap_or (latest_from line x times rest start end (end - start) start [] []) end

abbrev pub turn_of : ℕ → ℕ → ℕ → Turn
turn_of number i k = record { number = number; span = record { start = i; end = k } }

-- The turns of a group, one after another, at most so many.
abbrev pub pick_turns : (ℕ → ℕ → List Turn) → Text → ItemTree → ℕ → ℕ → Times → ℕ → ℕ → List Turn
pick_turns own line x number zero times i j = []
pick_turns own line x number (suc n) times i j =
    if (times.least == 0) && (i == j) then [] else (let k = latest line x once (rest_turns x (less_one times)) i j in turn_of number i k ∷ own i k ++ pick_turns own line x number n (less_one times) k j)

abbrev mutual
  pub pick_items : Text → ItemsTree → ℕ → ℕ → List Turn
  pick_items line no_items i j = []
  pick_items line (item_and x xs) i j = (let k = latest line x (times_of x) (rest_items xs) i j in pick_item line x i k ++ pick_items line xs k j)

  pub pick_item : Text → ItemTree → ℕ → ℕ → List Turn
  pick_item line (one times what) i j = []
  pick_item line (group times number body) i j = pick_turns (pick_items line body) line (group times number body) number (suc (times.least + (j - i))) times i j

-- what the groups of a match took
abbrev pub groups_at : Expression → Text → Span → List (Option Span)
groups_at e line span = put_turns (pick_items line e.items span.start span.end) (replicate e.groups None)

-- a match with its groups
abbrev pub with_groups : Expression → Text → Span → Found
with_groups e line span = record { start = span.start; end = span.end; groups = groups_at e line span }

abbrev pub found_at : Expression → Text → Option Span → Option Found
found_at e line None = None
found_at e line (Some span) = Some (with_groups e line span)

-- the same match, with what its groups took
unfoldable pub found : Expression → Text → ℕ → Option Found
found e line from = found_at e line (span_found e line from)

-- of each expression a line has one leftmost longest match from a place on, or none
abbrev pub EachSpanIsFound : Type 0
EachSpanIsFound = (e : Expression) (line : Text) (from : ℕ) (r : Option Span) → Finds e line from r ↔ (r ≡ span_found e line from)

-- and its groups take one thing each
abbrev pub EachMatchIsFound : Type 0
EachMatchIsFound = (e : Expression) (line : Text) (from : ℕ) (r : Option Found) → FindsGroups e line from r ↔ (r ≡ found e line from)
