-- Rows of items and of turns.
use Rattle.std.proofs.Common.{◌≡◌, ℕ, zero, suc, ◌+◌, ◌-◌, ◌<◌, ◌≤◌, List, [], ◌∷◌, Bool, true, false, refl, sym, ap, ◌∙◌, arith, subst, length, drop, get_or, add-one}
use Rattle.std.specs.Prelude.{Option, Some, None, nat_lt, if◌then◌else◌}
use Rattle.std.proofs.lemmas.Bool.{leb-true, leb-false}
use Rattle.rk_base.specs.Text.{Text}
use Rattle.ut_bre.specs.declared.tree.Times.{Times}
use Rattle.ut_bre.specs.declared.tree.Item.{Item}
use Rattle.ut_bre.specs.Trees.{ItemTree, one, group, ItemsTree, item_and, tree_of, trees_of, times_of, body_of}
use Rattle.ut_bre.specs.Times.{once, star, maybe, less_one, beyond_one}
use Rattle.ut_bre.specs.Matching.{Turns, Repeated, MatchesItem, MatchesItems}
use Rattle.ut_bre.specs.Picking.{MatchesTurn}
use Rattle.ut_bre.specs.Rows.{Row, IsRow, TellsWhere, top_of, but_first, ArePlaceRows, AreTurnRows, AreFound}
use Rattle.ut_bre.proofs.Standing.{Rel}
use Rattle.ut_bre.proofs.Laws.{sound_items}
use Rattle.ut_bre.proofs.ItemLemmas.{drop_item}
use Rattle.ut_bre.proofs.Latest.{sound_front}
use Rattle.ut_bre.proofs.Mirrored.{turn-first}
use Rattle.ut_bre.proofs.Rowed.{IsAtEnd, row-then, where-as, where-later}
use Rattle.ut_bre.proofs.Turning.{once-turn, turn-once, first-turn, item-turns, turns-item}

-- Items.

-- one item more
item-row : (line : Text) (x : ItemTree) (xs : ItemsTree) (start end : ℕ) (behind row : Row) → TellsWhere (λ i. MatchesItems line xs i end) start end behind → IsRow (Repeated (MatchesTurn line x) (times_of x)) behind start end row → TellsWhere (λ i. MatchesItems line (item_and x xs) i end) start end row
item-row line x xs start end behind row tells all =
    let R : Rel = Repeated (MatchesTurn line x) (times_of x) in
    let Q : ℕ → Type 0 = λ i. MatchesItems line xs i end in
    let here = row-then R Q start end behind row (sound_front line x (times_of x)).ordered (λ p q. (sound_items line xs).ordered p end q) tells all in
    where-as (λ i. (p : ℕ) × R i p × Q p) (λ i. MatchesItems line (item_and x xs) i end) start end row (λ i (p, r, q). (p, turns-item line x i p r, q)) (λ i (p, r, q). (p, item-turns line x i p r, q)) here

-- Turns.

abbrev pub turns_left : ℕ → Option ℕ → Times
turns_left n most = record { least = n; beyond = most }

less-needed : (n : ℕ) (most : Option ℕ) → less_one (turns_left (suc n) most) ≡ turns_left n most
less-needed n most = by (nat_lt 0 (suc n)) refl
  where
    by : (b : Bool) → nat_lt 0 (suc n) ≡ b → (if b then turns_left (suc n - 1) most else turns_left 0 (beyond_one most)) ≡ turns_left n most
    by true e = (let z : suc n - 1 ≡ n = omega arith in ap (λ (m : ℕ). turns_left m most) z)
    by false e = (let h : suc n < 1 = leb-false 1 (suc n) e in absurd (omega arith))

less-more : (n : ℕ) → less_one (turns_left 0 (Some (suc n))) ≡ turns_left 0 (Some n)
less-more n = by (nat_lt 0 0) refl
  where
    by : (b : Bool) → nat_lt 0 0 ≡ b → (if b then turns_left (0 - 1) (Some (suc n)) else turns_left 0 (Some (suc n - 1))) ≡ turns_left 0 (Some n)
    by true e = (let h : 1 ≤ 0 = leb-true 1 0 e in absurd (omega arith))
    by false e = (let z : suc n - 1 ≡ n = omega arith in ap (λ (m : ℕ). turns_left 0 (Some m)) z)

-- one needed turn more

needed-tells : (R : Rel) (n : ℕ) (most : Option ℕ) (i end : ℕ) → (p : ℕ) × Repeated R once i p × Repeated R (turns_left n most) p end → Repeated R (turns_left (suc n) most) i end
needed-tells R n most i end (p, r, (k, t, u)) = (k, turn-first R n i p k (turn-once R i p r) t, u)

needed-told : (R : Rel) (n : ℕ) (most : Option ℕ) (i end : ℕ) → Repeated R (turns_left (suc n) most) i end → (p : ℕ) × Repeated R once i p × Repeated R (turns_left n most) p end
needed-told R n most i end (k, t, u) = (let f = first-turn R n i k t in (f.0, once-turn R i f.0 f.1, (k, f.2, u)))

needed-row : (line : Text) (x : ItemTree) (n : ℕ) (most : Option ℕ) (start end : ℕ) (behind row : Row) → TellsWhere (λ i. Repeated (MatchesTurn line x) (turns_left n most) i end) start end behind → IsRow (Repeated (MatchesTurn line x) once) behind start end row → TellsWhere (λ i. Repeated (MatchesTurn line x) (turns_left (suc n) most) i end) start end row
needed-row line x n most start end behind row tells all =
    let R : Rel = MatchesTurn line x in
    let Q : ℕ → Type 0 = λ i. Repeated R (turns_left n most) i end in
    let here = row-then (Repeated R once) Q start end behind row (sound_front line x once).ordered (λ p q. (sound_front line x (turns_left n most)).ordered p end q) tells all in
    where-as (λ i. (p : ℕ) × Repeated R once i p × Q p) (λ i. Repeated R (turns_left (suc n) most) i end) start end row (λ i t. needed-tells R n most i end t) (λ i t. needed-told R n most i end t) here

-- one turn more that may be taken

turn-maybe : (R : Rel) (i m : ℕ) → R i m → Repeated R maybe i m
turn-maybe R i m r = (i, refl, (1, (let h : 1 ≤ 1 = omega arith in h), (i, refl, r)))

maybe-tells : (R : Rel) (c i end : ℕ) → (p : ℕ) × Repeated R maybe i p × Repeated R (turns_left 0 (Some c)) p end → Repeated R (turns_left 0 (Some (suc c))) i end
maybe-tells R c i end (p, (a, e, (zero, w, t)), (k, z, (n, v, u))) =
    let low : n ≤ suc c = omega arith in
    let same : k ≡ i = sym (e ∙ (t ∙ z)) in
    (i, refl, (n, low, subst (λ (b : ℕ). Turns R n b end) same u))
maybe-tells R c i end (p, (a, e, (suc zero, w, (d, y, r))), (k, z, (n, v, u))) =
    let low : suc n ≤ suc c = omega arith in
    let first : R i p = subst (λ (b : ℕ). R b p) (sym y ∙ sym e) r in
    (i, refl, (suc n, low, turn-first R n i p end first (subst (λ (b : ℕ). Turns R n b end) (sym z) u)))
maybe-tells R c i end (p, (a, e, (suc (suc m), w, t)), rest) = absurd (omega arith)

maybe-told : (R : Rel) (c i end : ℕ) → Repeated R (turns_left 0 (Some (suc c))) i end → (p : ℕ) × Repeated R maybe i p × Repeated R (turns_left 0 (Some c)) p end
maybe-told R c i end (k, e, (zero, w, t)) =
    let none : 0 ≤ 1 = omega arith in
    let low : 0 ≤ c = omega arith in
    (i, (i, refl, (0, none, refl)), (k, e, (0, low, t)))
maybe-told R c i end (k, e, (suc n, w, t)) =
    let f = first-turn R n k end t in
    let low : n ≤ c = omega arith in
    (f.0, turn-maybe R i f.0 (subst (λ (b : ℕ). R b f.0) (sym e) f.1), (f.0, refl, (n, low, f.2)))

maybe-row : (line : Text) (x : ItemTree) (c start end : ℕ) (behind row : Row) → TellsWhere (λ i. Repeated (MatchesTurn line x) (turns_left 0 (Some c)) i end) start end behind → IsRow (Repeated (MatchesTurn line x) maybe) behind start end row → TellsWhere (λ i. Repeated (MatchesTurn line x) (turns_left 0 (Some (suc c))) i end) start end row
maybe-row line x c start end behind row tells all =
    let R : Rel = MatchesTurn line x in
    let Q : ℕ → Type 0 = λ i. Repeated R (turns_left 0 (Some c)) i end in
    let here = row-then (Repeated R maybe) Q start end behind row (sound_front line x maybe).ordered (λ p q. (sound_front line x (turns_left 0 (Some c))).ordered p end q) tells all in
    where-as (λ i. (p : ℕ) × Repeated R maybe i p × Q p) (λ i. Repeated R (turns_left 0 (Some (suc c))) i end) start end row (λ i t. maybe-tells R c i end t) (λ i t. maybe-told R c i end t) here

-- what stands behind the turns that are counted: no turn, or those of a star

pub none-row : (R : Rel) (start end : ℕ) (row : Row) → TellsWhere (IsAtEnd end) start end row → TellsWhere (λ i. Repeated R (turns_left 0 (Some 0)) i end) start end row
none-row R start end row tells = where-as (IsAtEnd end) (λ i. Repeated R (turns_left 0 (Some 0)) i end) start end row (λ i e. (i, refl, (0, (let h : 0 ≤ 0 = omega arith in h), e))) (λ i t. none-left i t) tells
  where
    none-left : (i : ℕ) → Repeated R (turns_left 0 (Some 0)) i end → i ≡ end
    none-left i (k, e, (zero, w, t)) = e ∙ t
    none-left i (k, e, (suc n, w, t)) = absurd (omega arith)

pub star-row : (line : Text) (x : ItemTree) (start end : ℕ) (behind row : Row) → TellsWhere (IsAtEnd end) start end behind → IsRow (Repeated (MatchesTurn line x) star) behind start end row → TellsWhere (λ i. Repeated (MatchesTurn line x) (turns_left 0 None) i end) start end row
star-row line x start end behind row tells all =
    let R : Rel = Repeated (MatchesTurn line x) star in
    let here = row-then R (IsAtEnd end) start end behind row (sound_front line x star).ordered (λ p e. (let h : p ≤ end = omega arith in h)) tells all in
    where-as (λ i. (p : ℕ) × R i p × IsAtEnd end p) (λ i. R i end) start end row (λ i (p, r, e). subst (R i) e r) (λ i r. (end, r, refl)) here

-- the same for a group, by its items
pub rows-of : (line : Text) (x : ItemTree) (body : ItemsTree) (start end : ℕ) (left : Times) (rows : List Row) → body_of x ≡ Some body → AreTurnRows (MatchesTurn line x) start end left rows → AreTurnRows (MatchesItems line body) start end left rows
rows-of line (one times what) body start end left rows e all = absurd (cc)
rows-of line (group times number own) body start end left rows e all =
    let same : own ≡ body = cc in
    subst (λ (b : ItemsTree). AreTurnRows (MatchesItems line b) start end left rows) same all

-- The rows of items, as far as they are found.
pub record PlacesFound (line : Text) (left : List Item) (start end : ℕ) (bottom : Row) (rows : List Row) : Type 0 where
  pub each : ArePlaceRows line start end (trees_of left) rows
  pub tells : TellsWhere (λ i. MatchesItems line (trees_of left) i end) start end (top_of rows bottom)

pub places-none : (line : Text) (left : List Item) (start end : ℕ) (bottom : Row) (rows : List Row) → left ≡ [] → rows ≡ [] → TellsWhere (IsAtEnd end) start end bottom → PlacesFound line left start end bottom rows
places-none line left start end bottom rows el er tells =
    let none : PlacesFound line [] start end bottom [] = record { each = tt; tells = tells } in
    subst (λ (xs : List Item). PlacesFound line xs start end bottom rows) (sym el) (subst (λ (rs : List Row). PlacesFound line [] start end bottom rs) (sym er) none)

kept-rows : (line : Text) (start end : ℕ) (xs : ItemsTree) (rows : List Row) (keeps : Bool) → ArePlaceRows line start end xs rows → ArePlaceRows line start end xs (if keeps then rows else [])
kept-rows line start end xs rows true all = all
kept-rows line start end xs rows false all = tt

pub places-more : (line : Text) (items : List Item) (i : ℕ) (item : Item) (start end : ℕ) (bottom : Row) (rows new : List Row) (behind row : Row) (times : Times) (keeps : Bool) → i < length items → item ≡ get_or items i item → PlacesFound line (drop (i + 1) items) start end bottom rows → behind ≡ top_of rows bottom → times ≡ times_of (tree_of item) → IsRow (Repeated (MatchesTurn line (tree_of item)) times) behind start end row → new ≡ row ∷ (if keeps then rows else []) → PlacesFound line (drop i items) start end bottom new
places-more line items i item start end bottom rows new behind row times keeps lt is found eb et ends en =
    let x : ItemTree = tree_of item in
    let left : List Item = drop (i + 1) items in
    let ends' = subst (λ (t : Times). IsRow (Repeated (MatchesTurn line x) t) (top_of rows bottom) start end row) et (subst (λ (b : Row). IsRow (Repeated (MatchesTurn line x) times) b start end row) eb ends) in
    let it = item-row line x (trees_of left) start end (top_of rows bottom) row found.tells ends' in
    let here : PlacesFound line (item ∷ left) start end bottom (row ∷ (if keeps then rows else [])) = record { each = (it, kept-rows line start end (trees_of left) rows keeps found.each); tells = it } in
    subst (λ (xs : List Item). PlacesFound line xs start end bottom new) (sym (drop_item items i item lt is)) (subst (λ (rs : List Row). PlacesFound line (item ∷ left) start end bottom rs) (sym en) here)

-- The rows of turns, as far as they are found.

pub found-none : (R : Rel) (start end : ℕ) (left : Times) (bottom : Row) (rows : List Row) → rows ≡ [] → TellsWhere (λ i. Repeated R left i end) start end bottom → AreFound R start end left bottom rows
found-none R start end left bottom rows e tells =
    let none : AreFound R start end left bottom [] = record { each = tt; tells = tells } in
    subst (λ (rs : List Row). AreFound R start end left bottom rs) (sym e) none

pub maybe-more : (line : Text) (x : ItemTree) (start end c : ℕ) (bottom : Row) (rows new : List Row) (behind row : Row) (times : Times) → AreFound (MatchesTurn line x) start end (turns_left 0 (Some c)) bottom rows → behind ≡ top_of rows bottom → times ≡ maybe → IsRow (Repeated (MatchesTurn line x) times) behind start end row → new ≡ row ∷ rows → AreFound (MatchesTurn line x) start end (turns_left 0 (Some (c + 1))) bottom new
maybe-more line x start end c bottom rows new behind row times found eb et ends en =
    let R : Rel = MatchesTurn line x in
    let ends' = subst (λ (t : Times). IsRow (Repeated R t) (top_of rows bottom) start end row) et (subst (λ (b : Row). IsRow (Repeated R times) b start end row) eb ends) in
    let it = maybe-row line x c start end (top_of rows bottom) row found.tells ends' in
    let here : AreFound R start end (turns_left 0 (Some (suc c))) bottom (row ∷ rows) = record { each = (it, subst (λ (t : Times). AreTurnRows R start end t rows) (sym (less-more c)) found.each); tells = it } in
    subst (λ (n : ℕ). AreFound R start end (turns_left 0 (Some n)) bottom new) (sym (add-one c)) (subst (λ (rs : List Row). AreFound R start end (turns_left 0 (Some (suc c))) bottom rs) (sym en) here)

pub needed-more : (line : Text) (x : ItemTree) (start end c : ℕ) (most : Option ℕ) (bottom : Row) (rows new : List Row) (behind row : Row) (times : Times) → AreFound (MatchesTurn line x) start end (turns_left c most) bottom rows → behind ≡ top_of rows bottom → times ≡ once → IsRow (Repeated (MatchesTurn line x) times) behind start end row → new ≡ row ∷ rows → AreFound (MatchesTurn line x) start end (turns_left (c + 1) most) bottom new
needed-more line x start end c most bottom rows new behind row times found eb et ends en =
    let R : Rel = MatchesTurn line x in
    let ends' = subst (λ (t : Times). IsRow (Repeated R t) (top_of rows bottom) start end row) et (subst (λ (b : Row). IsRow (Repeated R times) b start end row) eb ends) in
    let it = needed-row line x c most start end (top_of rows bottom) row found.tells ends' in
    let here : AreFound R start end (turns_left (suc c) most) bottom (row ∷ rows) = record { each = (it, subst (λ (t : Times). AreTurnRows R start end t rows) (sym (less-needed c most)) found.each); tells = it } in
    subst (λ (n : ℕ). AreFound R start end (turns_left n most) bottom new) (sym (add-one c)) (subst (λ (rs : List Row). AreFound R start end (turns_left (suc c) most) bottom rs) (sym en) here)

-- What holds of the rows from a later start on.

pub turn_rows-later : (R : Rel) (start at end : ℕ) (left : Times) (rows : List Row) → start ≤ at → AreTurnRows R start end left rows → AreTurnRows R at end left rows
turn_rows-later R start at end left [] h all = tt
turn_rows-later R start at end left (row ∷ rows) h all = (where-later (λ i. Repeated R left i end) start at end row h all.0, turn_rows-later R start at end (less_one left) rows h all.1)

pub place_rows-later : (line : Text) (start at end : ℕ) (xs : ItemsTree) (rows : List Row) → start ≤ at → ArePlaceRows line start end xs rows → ArePlaceRows line at end xs rows
place_rows-later line start at end xs [] h all = tt
place_rows-later line start at end xs (row ∷ rows) h all = (where-later (λ i. MatchesItems line xs i end) start at end row h all.0, place_rows-later line start at end (but_first xs) rows h all.1)

-- without the first one

pub turn_rows-rest : (R : Rel) (start end : ℕ) (left : Times) (rows : List Row) → AreTurnRows R start end left rows → AreTurnRows R start end (less_one left) (drop 1 rows)
turn_rows-rest R start end left [] all = tt
turn_rows-rest R start end left (row ∷ rows) all = all.1

pub place_rows-rest : (line : Text) (start end : ℕ) (xs : ItemsTree) (rows : List Row) → ArePlaceRows line start end xs rows → ArePlaceRows line start end (but_first xs) (drop 1 rows)
place_rows-rest line start end xs [] all = tt
place_rows-rest line start end xs (row ∷ rows) all = all.1

-- where there are none

pub turn_rows-none : (R : Rel) (start end : ℕ) (left : Times) (rows : List Row) → rows ≡ [] → AreTurnRows R start end left rows
turn_rows-none R start end left rows e = subst (λ (rs : List Row). AreTurnRows R start end left rs) (sym e) tt

pub place_rows-none : (line : Text) (start end : ℕ) (xs : ItemsTree) (rows : List Row) → rows ≡ [] → ArePlaceRows line start end xs rows
place_rows-none line start end xs rows e = subst (λ (rs : List Row). ArePlaceRows line start end xs rs) (sym e) tt

pub item-ordered : (line : Text) (x : ItemTree) (i j : ℕ) → MatchesItem line x i j → i ≤ j
item-ordered line x i j m = (sound_front line x (times_of x)).ordered i j (item-turns line x i j m)
