-- In each line there is one answer.
use Rattle.std.proofs.Common.{◌≡◌, ℕ, zero, suc, ◌+◌, ◌-◌, ◌<◌, ◌≤◌, inl, inr, List, Bool, true, false, [], ◌∷◌, ◌++◌, length, get_or, refl, sym, ap, ◌∙◌, arith, subst}
use Rattle.std.specs.Prelude.{Option, Some, None, replicate, nat_lt, unwrap_or, ◌==◌, ◌&&◌, if◌then◌else◌}
use Rattle.std.proofs.lemmas.Bool.{leb-true, leb-false, eqb-true, eqb-false}
use Rattle.std.proofs.lemmas.Option.{slice_get-get_or}
use Rattle.rk_base.specs.Text.{Text}
use Rattle.ut_bre.specs.declared.tree.Times.{Times}
use Rattle.ut_bre.specs.declared.group.Span.{Span}
use Rattle.ut_bre.specs.declared.group.Found.{Found}
use Rattle.ut_bre.specs.Trees.{ItemTree, one, group, ItemsTree, no_items, item_and, times_of, Expression}
use Rattle.ut_bre.specs.Times.{once, less_one}
use Rattle.ut_bre.specs.Matching.{Repeated, MatchesItem, MatchesItems, Matches, IsNoWorse, Finds}
use Rattle.ut_bre.specs.Picking.{Turn, RestTree, rest_items, rest_turns, ReachesEnd, IsLatest, IsGreatest, IsDone, PicksTurns, PicksItems, PicksItem, put_turns, PutsItems, FindsGroups}
use Rattle.ut_bre.specs.Walking.{Mark, flow, Step, step, flow_turn, flow_times, flow_items, step_turn, step_times, step_items}
use Rattle.ut_bre.specs.Running.{seed, accept}
use Rattle.ut_bre.specs.Found.{scan, span_found, latest_from, latest, turn_of, pick_turns, pick_items, pick_item, groups_at, found_at, found}
use Rattle.ut_bre.specs.Resting.{flow_rest, step_rest, distance, first_seed}
use Rattle.ut_bre.proofs.Standing.{Rel}
use Rattle.ut_bre.proofs.Laws.{sound_items}
use Rattle.ut_bre.proofs.Latest.{Passed, passed-fresh, passed-on, passed-end, sound_front}
use Rattle.ut_bre.proofs.Turning.{next-turn, some-turn, next-place, some-place, turned-smaller, place-within, turn-within}
use Rattle.ut_bre.proofs.Walked.{Walked, walked-fresh, walked-on, walked-end, past-end}

-- The leftmost longest match.

walk : (e : Expression) (line : Text) (start n at : ℕ) (marks : List Mark) (best : Option Span) → at + n ≡ length line → Walked e line start at marks best → Finds e line start (scan e line n at marks best)
walk e line start zero at marks best z w =
    let out : Mark = (flow_items e.items (flow (seed e.at_start at) marks)).out in
    let last : at ≡ length line = omega arith in
    walked-end e line start at marks best out last refl w
walk e line start (suc n) at marks best z w =
    let b : ℕ = get_or line at 0 in
    let s : Step = step_items b e.items (step (seed e.at_start at) marks []) in
    let lt : at < length line = omega arith in
    let on : at + 1 + n ≡ length line = omega arith in
    walk e line start n (at + 1) s.next (accept e.at_end best s.flow.out at) on (walked-on e line start at b marks s.next best s.flow.out (slice_get-get_or line at 0 lt) lt refl refl w)

span-if : (e : Expression) (line : Text) (from : ℕ) (b : Bool) → nat_lt (length line) from ≡ b → Finds e line from (if b then None else scan e line (length line - from) from [] None)
span-if e line from true eb = past-end e line from (let h : suc (length line) ≤ from = leb-true (suc (length line)) from eb in omega arith)
span-if e line from false eb =
    let h : from < suc (length line) = leb-false (suc (length line)) from eb in
    let g : from ≤ length line = omega arith in
    walk e line from (length line - from) from [] None (let k : from + (length line - from) ≡ length line = omega arith in k) (walked-fresh e line from g)

pub span_found-finds : (e : Expression) (line : Text) (from : ℕ) → Finds e line from (span_found e line from)
unfolding span_found
span_found-finds e line from = span-if e line from (nat_lt (length line) from) refl

span-same : (r s : Span) → r.start ≡ s.start → r.end ≡ s.end → r ≡ s
span-same r s a b =
    let x : r ≡ record { start = s.start; end = r.end } = ap (λ (n : ℕ). record { start = n; end = r.end }) a in
    let y : record { start = s.start; end = r.end } ≡ s = ap (λ (n : ℕ). record { start = s.start; end = n }) b in
    x ∙ y

best-same : (r s : Span) → IsNoWorse r s.start s.end → IsNoWorse s r.start r.end → r ≡ s
best-same r s (inl a) (inl b) = absurd (omega arith)
best-same r s (inl a) (inr (b, c)) = absurd (omega arith)
best-same r s (inr (a, c)) (inl b) = absurd (omega arith)
best-same r s (inr (a, c)) (inr (b, d)) = span-same r s a (let e : r.end ≡ s.end = omega arith in e)

pub finds-one : (e : Expression) (line : Text) (from : ℕ) (r s : Option Span) → Finds e line from r → Finds e line from s → r ≡ s
finds-one e line from None None f g = refl
finds-one e line from None (Some s) f g = absurd (f s.start s.end g.behind g.matches)
finds-one e line from (Some r) None f g = absurd (g r.start r.end f.behind f.matches)
finds-one e line from (Some r) (Some s) f g = ap Some (best-same r s (f.best s.start s.end g.behind g.matches) (g.best r.start r.end f.behind f.matches))

-- What groups took.

pub pass : (line : Text) (x : ItemTree) (times : Times) (rest : RestTree) (start end n at : ℕ) (front back : List Mark) → at + n ≡ end → end ≤ length line → Passed line x times rest start end at front back → IsLatest (ReachesEnd line x times rest start end) (latest_from line x times rest start end n at front back)
pass line x times rest start end zero at front back z h p =
    let last : at ≡ end = omega arith in
    let out : Mark = (flow_times (flow_turn x) times (flow (first_seed end start) front)).out in
    let far : Mark = (flow_rest rest (flow (distance out end end) back)).out in
    passed-end line x times rest start end front back out far refl refl (subst (λ m. Passed line x times rest start end m front back) last p)
pass line x times rest start end (suc n) at front back z h p =
    let b : ℕ = get_or line at 0 in
    let s : Step = step_times (flow_turn x) (step_turn b x) times (step (first_seed at start) front []) in
    let t : Step = step_rest b rest (step (distance s.flow.out at end) back []) in
    let lt : at < end = omega arith in
    let within : at < length line = omega arith in
    let on : at + 1 + n ≡ end = omega arith in
    pass line x times rest start end n (at + 1) s.next t.next on h (passed-on line x times rest start end at b front back s.next t.next s.flow.out (slice_get-get_or line at 0 within) lt refl refl refl p)

some-latest : (P : ℕ → Type 0) (r : Option ℕ) (d : ℕ) → IsLatest P r → (IsLatest P None → ⊥) → IsLatest P (Some (unwrap_or r d))
some-latest P None d l n = absurd (n l)
some-latest P (Some k) d l n = l

is-latest : (line : Text) (x : ItemTree) (times : Times) (rest : RestTree) (start end : ℕ) → start ≤ end → end ≤ length line → (IsLatest (ReachesEnd line x times rest start end) None → ⊥) → IsLatest (ReachesEnd line x times rest start end) (Some (latest line x times rest start end))
is-latest line x times rest start end h g n =
    some-latest (ReachesEnd line x times rest start end) (latest_from line x times rest start end (end - start) start [] []) end (pass line x times rest start end (end - start) start [] [] (let k : start + (end - start) ≡ end = omega arith in k) g (passed-fresh line x times rest start end)) n

abbrev Picked : Text → ItemsTree → Type 0
Picked line body = (i j : ℕ) → j ≤ length line → MatchesItems line body i j → PicksItems line body i j (pick_items line body i j)

abbrev turns_of : Text → ItemsTree → ℕ → Times → ℕ → Times → ℕ → ℕ → List Turn
turns_of line body number all fuel times i j = pick_turns (pick_items line body) line (group all number body) number fuel times i j

-- the same for fewer turns or bytes
abbrev Fewer : Text → ItemsTree → ℕ → Times → ℕ → Type 0
Fewer line body number all fuel = (times : Times) (i j : ℕ) → times.least + (j - i) < fuel → j ≤ length line → Repeated (MatchesItems line body) times i j → (n : ℕ) × PicksTurns (MatchesItems line body) (PicksItems line body) number n times i j (turns_of line body number all fuel times i j)

turns-more : (line : Text) (body : ItemsTree) (number : ℕ) (all : Times) → Picked line body → (fuel : ℕ) → Fewer line body number all fuel → (times : Times) (i j : ℕ) → (IsDone times i j → ⊥) → times.least + (j - i) < suc fuel → j ≤ length line → Repeated (MatchesItems line body) times i j → (n : ℕ) × PicksTurns (MatchesItems line body) (PicksItems line body) number n times i j (let k = latest line (group all number body) once (rest_turns (group all number body) (less_one times)) i j in turn_of number i k ∷ pick_items line body i k ++ turns_of line body number all fuel (less_one times) k j)
turns-more line body number all picked fuel fewer times i j more h g r =
    let x : ItemTree = group all number body in
    let order : i ≤ j = (sound_front line x times).ordered i j r in
    let k : ℕ = latest line x once (rest_turns x (less_one times)) i j in
    let next = next-turn line x times i j k more r (is-latest line x once (rest_turns x (less_one times)) i j order g (some-turn line x times i j more r)) in
    let within : k ≤ j = turn-within line body times i j k next in
    let low : k ≤ length line = omega arith in
    let smaller : (less_one times).least + (j - k) < times.least + (j - i) = turned-smaller line body times (less_one times) i k j more refl next in
    let left : (less_one times).least + (j - k) < fuel = omega arith in
    let rest = fewer (less_one times) k j left g next.holds.2 in
    (suc rest.0, (more, k, pick_items line body i k, turns_of line body number all fuel (less_one times) k j, next, picked i k low next.holds.1, rest.1, refl))

turns-by : (line : Text) (body : ItemsTree) (number : ℕ) (all : Times) → Picked line body → (fuel : ℕ) → Fewer line body number all fuel → (times : Times) (i j : ℕ) (p q : Bool) → (times.least == 0) ≡ p → (i == j) ≡ q → times.least + (j - i) < suc fuel → j ≤ length line → Repeated (MatchesItems line body) times i j → (n : ℕ) × PicksTurns (MatchesItems line body) (PicksItems line body) number n times i j (if p && q then [] else (let k = latest line (group all number body) once (rest_turns (group all number body) (less_one times)) i j in turn_of number i k ∷ pick_items line body i k ++ turns_of line body number all fuel (less_one times) k j))
turns-by line body number all picked fuel fewer times i j true true ep eq h g r = (0, ((eqb-true times.least 0 ep, eqb-true i j eq), refl))
turns-by line body number all picked fuel fewer times i j true false ep eq h g r = turns-more line body number all picked fuel fewer times i j (λ (z, e). absurd (eqb-false i j eq e)) h g r
turns-by line body number all picked fuel fewer times i j false q ep eq h g r = turns-more line body number all picked fuel fewer times i j (λ (z, e). absurd (eqb-false times.least 0 ep z)) h g r

turns-picked : (line : Text) (body : ItemsTree) (number : ℕ) (all : Times) → Picked line body → (fuel : ℕ) (times : Times) (i j : ℕ) → times.least + (j - i) < fuel → j ≤ length line → Repeated (MatchesItems line body) times i j → (n : ℕ) × PicksTurns (MatchesItems line body) (PicksItems line body) number n times i j (turns_of line body number all fuel times i j)
turns-picked line body number all picked zero times i j h g r = absurd (omega arith)
turns-picked line body number all picked (suc fuel) times i j h g r = turns-by line body number all picked fuel (turns-picked line body number all picked fuel) times i j (times.least == 0) (i == j) refl refl h g r

mutual
  pub items-picked : (line : Text) (xs : ItemsTree) → Picked line xs
  items-picked line no_items i j h m = refl
  items-picked line (item_and x xs) i j h m =
      let order : i ≤ j = (sound_items line (item_and x xs)).ordered i j m in
      let k : ℕ = latest line x (times_of x) (rest_items xs) i j in
      let g = next-place line x xs i j k (is-latest line x (times_of x) (rest_items xs) i j order h (some-place line x xs i j m)) in
      let within : k ≤ j = place-within line x xs i j k g in
      let low : k ≤ length line = omega arith in
      (k, pick_item line x i k, pick_items line xs k j, g, item-picked line x i k low g.holds.0, items-picked line xs k j h g.holds.1, refl)

  item-picked : (line : Text) (x : ItemTree) (i j : ℕ) → j ≤ length line → MatchesItem line x i j → PicksItem line x i j (pick_item line x i j)
  item-picked line (one times what) i j h m = refl
  item-picked line (group times number body) i j h m =
      turns-picked line body number times (items-picked line body) (suc (times.least + (j - i))) times i j (omega arith) h m

greatest-one : (P : ℕ → Type 0) (m n : ℕ) → IsGreatest P m → IsGreatest P n → m ≡ n
greatest-one P m n a b =
    let x : n ≤ m = a.greatest n b.holds in
    let y : m ≤ n = b.greatest m a.holds in
    omega arith

abbrev OnePick : (ℕ → ℕ → List Turn → Type 0) → Type 0
OnePick Picks = (i j : ℕ) (t u : List Turn) → Picks i j t → Picks i j u → t ≡ u

joined : (a b c d t u : List Turn) → a ≡ b → c ≡ d → t ≡ a ++ c → u ≡ b ++ d → t ≡ u
joined a b c d t u p q r s = cc

turns-one : (R : Rel) (Picks : ℕ → ℕ → List Turn → Type 0) → OnePick Picks → (number n m : ℕ) (times : Times) (i j : ℕ) (t u : List Turn) → PicksTurns R Picks number n times i j t → PicksTurns R Picks number m times i j u → t ≡ u
turns-one R Picks one-pick number zero zero times i j t u p q = p.1 ∙ sym q.1
turns-one R Picks one-pick number zero (suc m) times i j t u p q = absurd (q.0 p.0)
turns-one R Picks one-pick number (suc n) zero times i j t u p q = absurd (p.0 q.0)
turns-one R Picks one-pick number (suc n) (suc m) times i j t u (d, k, own, rest, g, a, b, e) (d', k', own', rest', g', a', b', e') =
    let z : k ≡ k' = greatest-one _ k k' g g' in
    let o : own ≡ own' = one-pick i k own own' a (subst (λ w. Picks i w own') (sym z) a') in
    let r : rest ≡ rest' = turns-one R Picks one-pick number n m (less_one times) k j rest rest' b (subst (λ w. PicksTurns R Picks number m (less_one times) w j rest') (sym z) b') in
    let turn : ℕ → Turn = λ w. record { number = number; span = record { start = i; end = w } } in
    let s : turn k ∷ own ≡ turn k' ∷ own' = ap (λ w. turn w ∷ own) z ∙ ap (λ w. turn k' ∷ w) o in
    joined (turn k ∷ own) (turn k' ∷ own') rest rest' t u s r e e'

mutual
  pub picks_items-one : (line : Text) (xs : ItemsTree) → OnePick (PicksItems line xs)
  picks_items-one line no_items i j t u p q = p ∙ sym q
  picks_items-one line (item_and x xs) i j t u (k, own, rest, g, a, b, e) (k', own', rest', g', a', b', e') =
      let z : k ≡ k' = greatest-one _ k k' g g' in
      let o : own ≡ own' = picks_item-one line x i k own own' a (subst (λ w. PicksItem line x i w own') (sym z) a') in
      let r : rest ≡ rest' = picks_items-one line xs k j rest rest' b (subst (λ w. PicksItems line xs w j rest') (sym z) b') in
      joined own own' rest rest' t u o r e e'

  picks_item-one : (line : Text) (x : ItemTree) → OnePick (PicksItem line x)
  picks_item-one line (one times what) i j t u p q = p ∙ sym q
  picks_item-one line (group times number body) i j t u (n, p) (m, q) =
      turns-one (MatchesItems line body) (PicksItems line body) (picks_items-one line body) number n m times i j t u p q

found_at-finds : (e : Expression) (line : Text) (from : ℕ) (r : Option Span) → Finds e line from r → FindsGroups e line from (found_at e line r)
found_at-finds e line from None f = f
found_at-finds e line from (Some span) f =
    record { best = f; groups = (pick_items line e.items span.start span.end, items-picked line e.items span.start span.end f.matches.within f.matches.items, refl) }

pub found-finds : (e : Expression) (line : Text) (from : ℕ) → FindsGroups e line from (found e line from)
unfolding found
found-finds e line from = found_at-finds e line from (span_found e line from) (span_found-finds e line from)

found-same : (e : Expression) (line : Text) (f g : Found) → f.start ≡ g.start → f.end ≡ g.end → (t u : List Turn) → PicksItems line e.items f.start f.end t → PicksItems line e.items g.start g.end u → f.groups ≡ put_turns t (replicate e.groups None) → g.groups ≡ put_turns u (replicate e.groups None) → f ≡ g
found-same e line f g a b t u p q x y =
    let p' = subst (λ n. PicksItems line e.items n f.end t) a p in
    let p'' = subst (λ n. PicksItems line e.items g.start n t) b p' in
    let same : t ≡ u = picks_items-one line e.items g.start g.end t u p'' q in
    let z : f.groups ≡ g.groups = cc in
    let r : f ≡ record { start = g.start; end = f.end; groups = f.groups } = ap (λ (n : ℕ). record { start = n; end = f.end; groups = f.groups }) a in
    let s : record { start = g.start; end = f.end; groups = f.groups } ≡ record { start = g.start; end = g.end; groups = f.groups } = ap (λ (n : ℕ). record { start = g.start; end = n; groups = f.groups }) b in
    let w : record { start = g.start; end = g.end; groups = f.groups } ≡ g = ap (λ (n : List (Option Span)). record { start = g.start; end = g.end; groups = n }) z in
    r ∙ (s ∙ w)

pub found-one : (e : Expression) (line : Text) (from : ℕ) (f g : Option Found) → FindsGroups e line from f → FindsGroups e line from g → f ≡ g
found-one e line from None None a b = refl
found-one e line from None (Some g) a b = absurd (a g.start g.end b.best.behind b.best.matches)
found-one e line from (Some f) None a b = absurd (b f.start f.end a.best.behind a.best.matches)
found-one e line from (Some f) (Some g) a b =
    let s : Span = record { start = f.start; end = f.end } in
    let t : Span = record { start = g.start; end = g.end } in
    let same : s ≡ t = best-same s t (a.best.best t.start t.end b.best.behind b.best.matches) (b.best.best s.start s.end a.best.behind a.best.matches) in
    let x : f.start ≡ g.start = ap (λ (n : Span). n.start) same in
    let y : f.end ≡ g.end = ap (λ (n : Span). n.end) same in
    ap Some (found-same e line f g x y a.groups.0 b.groups.0 a.groups.1 b.groups.1 a.groups.2 b.groups.2)

pub is-span_found : (e : Expression) (line : Text) (from : ℕ) (r : Option Span) → Finds e line from r → r ≡ span_found e line from
is-span_found e line from r f = finds-one e line from r (span_found e line from) f (span_found-finds e line from)

pub is-found : (e : Expression) (line : Text) (from : ℕ) (r : Option Found) → FindsGroups e line from r → r ≡ found e line from
is-found e line from r f = found-one e line from r (found e line from) f (found-finds e line from)

pub is-groups : (e : Expression) (line : Text) (span : Span) (groups : List (Option Span)) → Matches e line span.start span.end → PutsItems line e.items span.start span.end (replicate e.groups None) groups → groups ≡ groups_at e line span
is-groups e line span groups m (all, picks, is) =
    is ∙ ap (λ (t : List Turn). put_turns t (replicate e.groups None)) (picks_items-one line e.items span.start span.end all (pick_items line e.items span.start span.end) picks (items-picked line e.items span.start span.end m.within m.items))

pub found-at : (e : Expression) (line : Text) (from : ℕ) → found e line from ≡ found_at e line (span_found e line from)
unfolding found
found-at e line from = refl
