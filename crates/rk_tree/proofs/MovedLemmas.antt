-- Where what stands goes when all within a path goes to another place.
use Rattle.std.proofs.Common.{◌≡◌, ℕ, zero, suc, List, [], ◌∷◌, Bool, true, false, cond, ◌⊎◌, inl, inr, Option, Some, None, refl, sym, ap, subst, ◌∙◌}
use Rattle.std.specs.Prelude.{slice_get}
use Rattle.std.specs.List.{fold}
use Rattle.std.specs.FinMap.{empty, entries, get, insert, get-empty}
use Rattle.rk_base.specs.Text.{Text, same_text, root, is_root, parent, name_of, join, hidden, is_within, moved}
use Rattle.rk_base.specs.Canonical.{is_canonical}
use Rattle.rk_base.proofs.PathLemmas.{path-is_cut, parent-join}
use Rattle.rk_base.proofs.MovedLemmas.{moved-out, moved-from, moved-join, moved-canonical, moved-within, moved-apart, moved-outside, within-canonical}
use Rattle.rk_base.proofs.WithinLemmas.{within-down, within-join, within-not_root, stem-back, is_the_root}
use Rattle.rk_tree.specs.Hierarchy.{Hierarchy, Paths, top, number_at, moves, moved_paths}
use Rattle.rk_tree.specs.Moves.{Moves}
use Rattle.rk_tree.specs.Whole.{IsPlaced, IsWhole}
use Rattle.rk_tree.proofs.BelowLemmas.{none_some, same_number, not_above, row_of, row_stands}
use Rattle.rk_tree.proofs.RowsLemmas.{insert_cases}
use Rattle.rk_tree.proofs.TextLemmas.{told_apart, same_is, same_itself, hidden-back, parent-root}

clash : (b : Bool) → b ≡ true → b ≡ false → ⊥
clash b t f = cc

-- Row by row.

module _ (from to : Text) where
  step_back : (m : Paths) (row : Text × ℕ) (r : Text) (n : ℕ) → get (moves from to m row) r ≡ Some n → (get m r ≡ Some n) ⊎ ((row.0 ≡ to → ⊥) × (moved from to row.0 ≡ r) × (row.1 ≡ n))
  step_back m row r n at = (elim (same_text row.0 to) as (λ (b : Bool). same_text row.0 to ≡ b → get (cond b m (insert m (moved from to row.0) row.1)) r ≡ Some n → (get m r ≡ Some n) ⊎ ((row.0 ≡ to → ⊥) × (moved from to row.0 ≡ r) × (row.1 ≡ n))) [
    | true ↦ λ e is. inl is
    | false ↦ λ e is. elim (insert_cases m (moved from to row.0) row.1 r) [
      | inl here ↦ inr (λ same. clash _ (ap (λ (t : Text). same_text t to) same ∙ same_itself to) e, sym here.0, same_number row.1 n here.1 is)
      | inr other ↦ inl (sym other.1 ∙ is)
    ]
  ]) refl at

  -- what comes to stand was there, or is the number of a row that goes there
  fold_back : (rows : List (Text × ℕ)) (m : Paths) (r : Text) (n : ℕ) → get (fold (moves from to) m rows) r ≡ Some n → (get m r ≡ Some n) ⊎ ((key : Text) × (i : ℕ) × (slice_get rows i ≡ Some (key, n)) × (key ≡ to → ⊥) × (moved from to key ≡ r))
  fold_back [] m r n at = inl at
  fold_back (row ∷ rows) m r n at = elim (fold_back rows (moves from to m row) r n at) [
    | inl before ↦ elim (step_back m row r n before) [
      | inl old ↦ inl old
      | inr here ↦ inr (row.0, 0, ap (λ (k : ℕ). Some (row.0, k)) here.2, here.0, here.1)
    ]
    | inr later ↦ inr (later.0, suc later.1, later.2, later.3, later.4)
  ]

  step_keeps : (m : Paths) (row : Text × ℕ) (q : Text) (x : ℕ) → get m q ≡ Some x → (y : ℕ) × (get (moves from to m row) q ≡ Some y)
  step_keeps m row q x at = elim (same_text row.0 to) as (λ (b : Bool). (y : ℕ) × (get (cond b m (insert m (moved from to row.0) row.1)) q ≡ Some y)) [
    | true ↦ (x, at)
    | false ↦ elim (insert_cases m (moved from to row.0) row.1 q) [
      | inl here ↦ (row.1, here.1)
      | inr other ↦ (x, other.1 ∙ at)
    ]
  ]

  fold_keeps : (rows : List (Text × ℕ)) (m : Paths) (q : Text) (x : ℕ) → get m q ≡ Some x → (y : ℕ) × (get (fold (moves from to) m rows) q ≡ Some y)
  fold_keeps [] m q x at = (x, at)
  fold_keeps (row ∷ rows) m q x at = let s = step_keeps m row q x at in fold_keeps rows (moves from to m row) q s.0 s.1

  step_puts : (m : Paths) (row : Text × ℕ) → (row.0 ≡ to → ⊥) → get (moves from to m row) (moved from to row.0) ≡ Some row.1
  step_puts m row apart = elim (same_text row.0 to) as (λ (b : Bool). same_text row.0 to ≡ b → get (cond b m (insert m (moved from to row.0) row.1)) (moved from to row.0) ≡ Some row.1) [
    | true ↦ λ e. absurd (apart (same_is row.0 to e))
    | false ↦ λ e. elim (insert_cases m (moved from to row.0) row.1 (moved from to row.0)) [
      | inl here ↦ here.1
      | inr other ↦ absurd (other.0 refl)
    ]
  ] refl

  same_row : {o : Option (Text × ℕ)} (a b : Text × ℕ) → o ≡ Some a → o ≡ Some b → a ≡ b
  same_row a b p q = cc

  -- where a row goes, something comes to stand
  fold_puts : (rows : List (Text × ℕ)) (m : Paths) (i : ℕ) (key : Text) (n : ℕ) → slice_get rows i ≡ Some (key, n) → (key ≡ to → ⊥) → (y : ℕ) × (get (fold (moves from to) m rows) (moved from to key) ≡ Some y)
  fold_puts [] m i key n at apart = absurd (none_some refl at)
  fold_puts (row ∷ rows) m zero key n at apart =
      let same : row.0 ≡ key = ap (λ (r : Text × ℕ). r.0) (same_row row (key, n) refl at) in
      fold_keeps rows (moves from to m row) (moved from to key) row.1 (ap (λ (t : Text). get (moves from to m row) (moved from to t)) (sym same) ∙ step_puts m row (λ e. apart (sym same ∙ e)))
  fold_puts (row ∷ rows) m (suc i) key n at apart = fold_puts rows (moves from to m row) i key n at apart

  pub moved_back : (m : Paths) (r : Text) (n : ℕ) → get (moved_paths from to m) r ≡ Some n → (key : Text) × (get m key ≡ Some n) × (key ≡ to → ⊥) × (moved from to key ≡ r)
  unfolding moved_paths
  moved_back m r n at = elim (fold_back (entries m) empty r n at) [
    | inl none ↦ absurd (none_some (get-empty _ r) none)
    | inr row ↦ (row.0, row_stands (record { paths = m; nodes = [] }) row.1 row.0 n row.2, row.3, row.4)
  ]

  moved_somewhere : (m : Paths) (key : Text) (n : ℕ) → get m key ≡ Some n → (key ≡ to → ⊥) → (y : ℕ) × (get (moved_paths from to m) (moved from to key) ≡ Some y)
  unfolding moved_paths
  moved_somewhere m key n at apart = let row = row_of (record { paths = m; nodes = [] }) key n at in fold_puts (entries m) empty row.0 key n row.1 apart

  -- what stands goes to its place, if no two go to one
  pub moved_there : (m : Paths) (key : Text) (n : ℕ) → ((a b : Text) (x y : ℕ) → get m a ≡ Some x → get m b ≡ Some y → (a ≡ to → ⊥) → (b ≡ to → ⊥) → moved from to a ≡ moved from to b → a ≡ b) → get m key ≡ Some n → (key ≡ to → ⊥) → get (moved_paths from to m) (moved from to key) ≡ Some n
  moved_there m key n single at apart =
      let some = moved_somewhere m key n at apart in
      let back = moved_back m (moved from to key) some.0 some.1 in
      some.1 ∙ ap (λ (k : ℕ). Some k) (same_number some.0 n back.1 (ap (get m) (single back.0 key some.0 n back.1 at back.2 apart back.3) ∙ at))

-- The tree.

module _ (tree : Hierarchy) (whole : IsWhole tree) (from to : Text) (n : ℕ) (m : Moves tree from to n) where
  abbrev now : Hierarchy
  now = record tree { paths = moved_paths from to tree.paths }

  pub from_is : is_canonical from ≡ true
  from_is = whole.canonical from n m.stands

  -- what stands below the new place was moved there
  not_below : (q : Text) (k : ℕ) → number_at tree q ≡ Some k → (q ≡ to → ⊥) → is_within to q ≡ true → ⊥
  not_below q k at apart h = none_some (m.bare q h apart) at

  goes_apart : (a b : Text) (x y : ℕ) → number_at tree a ≡ Some x → number_at tree b ≡ Some y → (b ≡ to → ⊥) → is_within from a ≡ true → is_within from b ≡ false → moved from to a ≡ moved from to b → ⊥
  goes_apart a b x y at bt apart h k e =
      not_below b y bt apart (ap (is_within to) (sym (moved-out from to b k) ∙ sym e) ∙ moved-within from to from_is m.from_below m.to_is m.to_below a (whole.canonical a x at) h)

  single : (a b : Text) (x y : ℕ) → number_at tree a ≡ Some x → number_at tree b ≡ Some y → (a ≡ to → ⊥) → (b ≡ to → ⊥) → moved from to a ≡ moved from to b → a ≡ b
  single a b x y at bt aa ba e = elim (is_within from a) as (λ (s : Bool). is_within from a ≡ s → a ≡ b) [
    | true ↦ λ h. elim (is_within from b) as (λ (s : Bool). is_within from b ≡ s → a ≡ b) [
      | true ↦ λ k. moved-apart from to from_is m.from_below m.to_is m.to_below a b h k e
      | false ↦ λ k. absurd (goes_apart a b x y at bt ba h k e)
    ] refl
    | false ↦ λ h. elim (is_within from b) as (λ (s : Bool). is_within from b ≡ s → a ≡ b) [
      | true ↦ λ k. absurd (goes_apart b a y x bt at aa k h (sym e))
      | false ↦ λ k. sym (moved-out from to a h) ∙ e ∙ moved-out from to b k
    ] refl
  ] refl

  pub there : (key : Text) (k : ℕ) → number_at tree key ≡ Some k → (key ≡ to → ⊥) → number_at now (moved from to key) ≡ Some k
  there key k = moved_there from to tree.paths key k single

  pub back : (r : Text) (k : ℕ) → number_at now r ≡ Some k → (key : Text) × (number_at tree key ≡ Some k) × (key ≡ to → ⊥) × (moved from to key ≡ r)
  back = moved_back from to tree.paths

  -- what stands outside stays where it is
  pub stays : (key : Text) (k : ℕ) → number_at tree key ≡ Some k → (key ≡ to → ⊥) → is_within from key ≡ false → number_at now key ≡ Some k
  stays key k at apart out = ap (number_at now) (sym (moved-out from to key out)) ∙ there key k at apart

  root_outside : is_within from root ≡ false
  root_outside = elim (is_within from root) as (λ (b : Bool). is_within from root ≡ b → b ≡ false) [
    | true ↦ λ h. absurd (clash _ refl (within-not_root from root from_is m.from_below h))
    | false ↦ λ h. refl
  ] refl

  pub up_outside : (path : Text) → is_canonical path ≡ true → is_within from path ≡ false → is_within from (parent path) ≡ false
  up_outside path c out = elim (is_root path) as (λ (b : Bool). is_root path ≡ b → is_within from (parent path) ≡ false) [
    | true ↦ λ r. ap (λ (t : Text). is_within from (parent t)) (is_the_root path r) ∙ ap (is_within from) parent-root ∙ root_outside
    | false ↦ λ r. elim (is_within from (parent path)) as (λ (b : Bool). is_within from (parent path) ≡ b → b ≡ false) [
      | true ↦ λ h. let it = path-is_cut path c r in absurd (clash _ (ap (is_within from) (sym it.whole) ∙ within-down from (parent path) (name_of path) h) out)
      | false ↦ λ h. refl
    ] refl
  ] refl

  -- the directory of what goes, goes with it
  pub up_goes : (key : Text) (k : ℕ) → number_at tree key ≡ Some k → is_within from key ≡ true → (key ≡ from → ⊥) → (is_within from (parent key) ≡ true) × (parent (moved from to key) ≡ moved from to (parent key))
  up_goes key k at h apart =
      let c = whole.canonical key k at in
      let it = path-is_cut key c (within-not_root from key from_is m.from_below h) in
      elim (within-join from (parent key) (name_of key) (stem-back from from_is) it.dir it.name (ap (is_within from) it.whole ∙ h)) [
        | inl same ↦ absurd (apart (sym it.whole ∙ same))
        | inr within ↦ (
          within,
          ap (λ (t : Text). parent (moved from to t)) (sym it.whole) ∙ ap parent (moved-join from to from_is m.from_below m.to_is m.to_below (parent key) (name_of key) within)
              ∙ parent-join (moved from to (parent key)) (name_of key) (within-canonical from to from_is m.from_below m.to_is m.to_below (parent key) it.dir within) it.name,
        )
      ]

  up_of : (key : Text) (k : ℕ) → number_at tree key ≡ Some k → (key ≡ to → ⊥) → IsPlaced now (moved from to key)
  up_of key k at apart = elim (is_within from key) as (λ (b : Bool). is_within from key ≡ b → IsPlaced now (moved from to key)) [
    | false ↦ λ out.
        let p = whole.placed key k at in
        record {
          up = p.up;
          stands = ap (λ (t : Text). number_at now (parent t)) (moved-out from to key out) ∙ stays (parent key) p.up p.stands (not_above tree to key k whole m.to_below m.bare apart at) (up_outside key (whole.canonical key k at) out);
          in_dir = p.in_dir;
        }
    | true ↦ λ h. elim (told_apart key from) [
      | inl same ↦ record {
        up = m.placed.up;
        stands = ap (λ (t : Text). number_at now (parent t)) (ap (moved from to) same.0 ∙ moved-from from to) ∙ stays (parent to) m.placed.up m.placed.stands m.apart (up_outside to m.to_is m.outside);
        in_dir = m.placed.in_dir;
      }
      | inr other ↦
          let p = whole.placed key k at in
          let g = up_goes key k at h other.0 in
          record {
            up = p.up;
            stands = ap (number_at now) g.1 ∙ there (parent key) p.up p.stands (λ same. clash _ (ap (is_within from) (sym same) ∙ g.0) m.outside);
            in_dir = p.in_dir;
          }
    ]
  ] refl

  hidden_up : is_root (parent (join root hidden)) ≡ true
  unfolding parent join
  hidden_up = refl

  no_hidden : (q : Text) → is_within (join root hidden) q ≡ true → (o : Option ℕ) → number_at now q ≡ o → o ≡ None
  no_hidden q h None at = refl
  no_hidden q h (Some k) at =
      let b = back q k at in
      absurd ((elim (is_within from b.0) as (λ (s : Bool). is_within from b.0 ≡ s → ⊥) [
        | true ↦ λ w. clash _ (ap (is_within (join root hidden)) b.3 ∙ h) (moved-outside from to from_is m.from_below m.to_is m.to_below (join root hidden) b.0 hidden-back hidden_up m.seen (whole.canonical b.0 k b.1) w)
        | false ↦ λ w. none_some (whole.unseen b.0 (ap (is_within (join root hidden)) (sym (moved-out from to b.0 w) ∙ b.3) ∙ h)) b.1
      ]) refl)

  pub moved-whole : IsWhole now
  moved-whole = record {
    root_at = stays root top whole.root_at (λ same. clash _ (ap is_root (sym same)) m.to_below) root_outside;
    root_dir = whole.root_dir;
    canonical = λ r k at. let b = back r k at in ap is_canonical (sym b.3) ∙ moved-canonical from to from_is m.from_below m.to_is m.to_below b.0 (whole.canonical b.0 k b.1);
    known = λ r k at. let b = back r k at in whole.known b.0 k b.1;
    placed = λ r k at. let b = back r k at in subst (IsPlaced now) b.3 (up_of b.0 k b.1 b.2);
    once = λ x y k at bt d. let a = back x k at in let b = back y k bt in sym a.3 ∙ ap (moved from to) (whole.once a.0 b.0 k a.1 b.1 d) ∙ b.3;
    unseen = λ q h. no_hidden q h (number_at now q) refl;
    fit = whole.fit;
  }
