-- The paths to which names lead, after a name more, a name less, and a name that goes elsewhere.
use Rattle.std.proofs.Common.{◌≡◌, ◌⊎◌, ◌+◌, ◌++◌, ◌∷◌, ℕ, suc, List, length, drop, length-append, Bool, true, false, inl, inr, Option, Some, None, refl, sym, ap, ◌∙◌, arith}
use Rattle.std.specs.Option.{option_and_then}
use Rattle.std.specs.FinMap.{get, insert, remove}
use Rattle.rk_base.specs.Text.{Text, parent, name_of, join, depth, is_root, is_within, moved}
use Rattle.rk_base.specs.Canonical.{is_canonical, is_name}
use Rattle.rk_base.proofs.CanonicalLemmas.{join-canonical}
use Rattle.rk_base.proofs.MovedLemmas.{moved-out, moved-from, moved-join, within-canonical}
use Rattle.rk_base.proofs.PathLemmas.{parent-join, name_of-join, join-not_root, path-is_cut, depth-join}
use Rattle.rk_base.proofs.WithinLemmas.{within-itself, within-is, within-down, within-join, within-not_root, stem-back, stem-below}
use Rattle.rk_tree.specs.declared.inode.Inode.{Inode}
use Rattle.rk_tree.specs.Hierarchy.{Paths, moved_paths}
use Rattle.rk_tree.specs.Moves.{Moves}
use Rattle.rk_tree.specs.Inodes.{under, hierarchy_of}
use Rattle.rk_tree.specs.Whole.{IsWhole}
use Rattle.rk_tree.proofs.BelowLemmas.{none_some, same_number}
use Rattle.rk_tree.proofs.ChangedLemmas.{PutsUnder, apart_or}
use Rattle.rk_tree.proofs.MovedLemmas.{there, back, stays, up_outside, up_goes}
use Rattle.rk_tree.proofs.RemovedLemmas.{remove_cases}
use Rattle.rk_tree.proofs.RowsLemmas.{insert_cases}
use Rattle.rk_tree.proofs.ShownLemmas.{Steps}
use Rattle.rk_tree.proofs.TextLemmas.{told_apart}

clash : (b : Bool) → b ≡ true → b ≡ false → ⊥
clash b t f = cc

-- what a directory's number leads to
abbrev pub after : List Inode → Text → Option ℕ → Option ℕ
after nodes name o = option_and_then (λ n. under nodes n name) o

pub after_same : (old new : List Inode) (name : Text) (o : Option ℕ) → ((n : ℕ) → o ≡ Some n → under new n name ≡ under old n name) → after old name o ≡ after new name o
after_same old new name None h = refl
after_same old new name (Some n) h = sym (h n refl)

-- the same names lead to the same paths
pub steps-same : (old new : List Inode) (paths : Paths) → ((n : ℕ) (name : Text) → under new n name ≡ under old n name) → Steps old paths → Steps new paths
steps-same old new paths same step dir name c n = step dir name c n ∙ after_same old new name (get paths dir) (λ k at. same k name)

-- two names in two directories make two paths
pub same_join : (a b x y : Text) → is_canonical a ≡ true → is_canonical b ≡ true → is_name x ≡ true → is_name y ≡ true → join a x ≡ join b y → (a ≡ b) × (x ≡ y)
same_join a b x y ca cb nx ny e = (sym (parent-join a x ca nx) ∙ ap parent e ∙ parent-join b y cb ny, sym (name_of-join a x nx) ∙ ap name_of e ∙ name_of-join b y ny)

-- a directory isn't the path of a name in it
pub not_up : (dir name : Text) → is_name name ≡ true → dir ≡ join dir name → ⊥
not_up dir name n e =
    let one : depth dir ≡ depth dir + 1 = ap depth e ∙ depth-join dir name n in
    omega (arith, one)

-- A name more.

module _ (old new : List Inode) (paths : Paths) (path name : Text) (dir n : ℕ) (c : is_canonical path ≡ true) (named : is_name name ≡ true) (at : get paths path ≡ Some dir) (once : (q : Text) → get paths q ≡ Some dir → q ≡ path) (absent : get paths (join path name) ≡ None) (bare : (x : Text) → under new n x ≡ None) (puts : PutsUnder old new dir name (Some n)) (step : Steps old paths) where
  abbrev linked_path : Text
  linked_path = join path name

  abbrev linked_paths : Paths
  linked_paths = insert paths linked_path n

  dir_at : get linked_paths path ≡ Some dir
  dir_at = elim (insert_cases paths linked_path n path) [
    | inl here ↦ absurd (not_up path name named here.0)
    | inr other ↦ other.1 ∙ at
  ]

  as_before : (d x : Text) → is_canonical d ≡ true → is_name x ≡ true → (join d x ≡ linked_path → ⊥) → after old x (get paths d) ≡ after new x (get paths d)
  as_before d x cd nx apart = after_same old new x (get paths d) (λ k on. puts.others k x (λ is same.
      apart (ap (λ (t : Text). join t x) (once d (on ∙ ap (λ (j : ℕ). Some j) is)) ∙ ap (join path) same)))

  from_dir : (d x : Text) → is_canonical d ≡ true → is_name x ≡ true → (join d x ≡ linked_path → ⊥) → get paths (join d x) ≡ after new x (get linked_paths d)
  from_dir d x cd nx apart = step d x cd nx ∙ (elim (insert_cases paths linked_path n d) [
    | inl here ↦ ap (λ (t : Text). after old x (get paths t)) here.0 ∙ ap (after old x) absent ∙ sym (bare x) ∙ sym (ap (after new x) here.1)
    | inr other ↦ as_before d x cd nx apart ∙ sym (ap (after new x) other.1)
  ])

  pub steps-linked : Steps new (insert paths (join path name) n)
  steps-linked d x cd nx = elim (insert_cases paths linked_path n (join d x)) [
    | inl here ↦
        let same = same_join d path x name cd c nx named here.0 in
        here.1 ∙ sym (ap (λ (t : Text). after new x (get linked_paths t)) same.0 ∙ ap (after new x) dir_at ∙ ap (under new dir) same.1 ∙ puts.here)
    | inr other ↦ other.1 ∙ from_dir d x cd nx other.0
  ]

-- A name less.

module _ (old new : List Inode) (paths : Paths) (path name : Text) (dir : ℕ) (c : is_canonical path ≡ true) (named : is_name name ≡ true) (at : get paths path ≡ Some dir) (once : (q : Text) → get paths q ≡ Some dir → q ≡ path) (bare : (x : Text) → is_name x ≡ true → get paths (join (join path name) x) ≡ None) (puts : PutsUnder old new dir name None) (step : Steps old paths) where
  abbrev gone : Text
  gone = join path name

  abbrev left : Paths
  left = remove paths gone

  left_at : get left path ≡ Some dir
  left_at = elim (remove_cases paths gone path) [
    | inl here ↦ absurd (not_up path name named here.0)
    | inr other ↦ other.1 ∙ at
  ]

  left_from : (d x : Text) → is_canonical d ≡ true → is_name x ≡ true → (join d x ≡ gone → ⊥) → get paths (join d x) ≡ after new x (get left d)
  left_from d x cd nx apart = elim (remove_cases paths gone d) [
    | inl here ↦ ap (λ (t : Text). get paths (join t x)) here.0 ∙ bare x nx ∙ sym (ap (after new x) here.1)
    | inr other ↦
        step d x cd nx
        ∙ after_same old new x (get paths d) (λ k on. puts.others k x (λ is same.
        apart (ap (λ (t : Text). join t x) (once d (on ∙ ap (λ (j : ℕ). Some j) is)) ∙ ap (join path) same)))
        ∙ sym (ap (after new x) other.1)
  ]

  pub steps-removed : Steps new (remove paths (join path name))
  steps-removed d x cd nx = elim (remove_cases paths gone (join d x)) [
    | inl here ↦
        let same = same_join d path x name cd c nx named here.0 in
        here.1 ∙ sym (ap (λ (t : Text). after new x (get left t)) same.0 ∙ ap (after new x) left_at ∙ ap (under new dir) same.1 ∙ puts.here)
    | inr other ↦ other.1 ∙ left_from d x cd nx other.0
  ]

-- A name that goes elsewhere.

same_option : (o p : Option ℕ) → ((k : ℕ) → o ≡ Some k → p ≡ Some k) → ((k : ℕ) → p ≡ Some k → o ≡ Some k) → o ≡ p
same_option None None a b = refl
same_option None (Some k) a b = b k refl
same_option (Some k) p a b = sym (a k refl)

some_of : (f : ℕ → Option ℕ) (o : Option ℕ) (k : ℕ) → option_and_then f o ≡ Some k → (u : ℕ) × (o ≡ Some u) × (f u ≡ Some k)
some_of f None k h = absurd (none_some refl h)
some_of f (Some u) k h = (u, refl, h)

not_within : (dir name : Text) → is_canonical dir ≡ true → is_name name ≡ true → is_within (join dir name) dir ≡ true → ⊥
unfolding join
not_within dir name c n w = elim (is_root dir) as (λ (b : Bool). is_root dir ≡ b → ⊥) [
  | true ↦ λ r. clash _ r (within-not_root (join dir name) dir (join-canonical dir name c n) (join-not_root dir name n) w)
  | false ↦ λ r.
      let one : length dir ≡ length (join dir name) + length (drop (length (join dir name)) dir) = ap length (within-is (join dir name) dir (join-not_root dir name n) w) ∙ length-append (join dir name) (drop (length (join dir name)) dir) in
      let two : length (join dir name) ≡ length dir + suc (length name) = ap (λ (t : Text). length (t ++ 47 ∷ name)) (stem-below dir r) ∙ length-append dir (47 ∷ name) in
      omega (arith, one, two)
] refl

-- a directory doesn't stand within the path of a name in it
pub up_apart : (dir name : Text) → is_canonical dir ≡ true → is_name name ≡ true → is_within (join dir name) dir ≡ false
up_apart dir name c n = (elim (is_within (join dir name) dir) as (λ (b : Bool). is_within (join dir name) dir ≡ b → b ≡ false) [
  | false ↦ λ w. refl
  | true ↦ λ w. absurd (not_within dir name c n w)
]) refl

-- what is led_to of two names in two directories
pub both_or : (u dir : ℕ) (x name : Text) → ((u ≡ dir) × (x ≡ name)) ⊎ (u ≡ dir → x ≡ name → ⊥)
both_or u dir x name = elim (apart_or u dir) [
  | inr apart ↦ inr (λ e same. apart e)
  | inl is ↦ elim (told_apart x name) [
    | inl same ↦ inl (is, same.0)
    | inr apart ↦ inr (λ e same. apart.0 same)
  ]
]

-- one name leaves, and another one comes
pub record MovesUnder (old new : List Inode) (dir : ℕ) (name : Text) (to : ℕ) (onto : Text) (n : ℕ) : Type 0 where
  pub comes : under new to onto ≡ Some n
  pub goes : under new dir name ≡ None
  pub others : (d : ℕ) (x : Text) → (d ≡ dir → x ≡ name → ⊥) → (d ≡ to → x ≡ onto → ⊥) → under new d x ≡ under old d x

module _ (old new : List Inode) (paths : Paths) (whole : IsWhole (hierarchy_of paths old)) (from_dir to_dir name onto : Text) (dir to n : ℕ) (named : is_name name ≡ true) (renamed : is_name onto ≡ true) (at : get paths from_dir ≡ Some dir) (to_at : get paths to_dir ≡ Some to) (once : (q : Text) → get paths q ≡ Some dir → q ≡ from_dir) (to_once : (q : Text) → get paths q ≡ Some to → q ≡ to_dir) (m : Moves (hierarchy_of paths old) (join from_dir name) (join to_dir onto) n) (moves : MovesUnder old new dir name to onto n) (step : Steps old paths) where
  abbrev source : Text
  source = join from_dir name

  abbrev target : Text
  target = join to_dir onto

  abbrev now : Paths
  now = moved_paths source target paths

  source_is : is_canonical source ≡ true
  source_is = whole.canonical source n m.stands

  from_is : is_canonical from_dir ≡ true
  from_is = whole.canonical from_dir dir at

  to_is : is_canonical to_dir ≡ true
  to_is = whole.canonical to_dir to to_at

  to_out : is_within source to_dir ≡ false
  to_out = ap (is_within source) (sym (parent-join to_dir onto to_is renamed)) ∙ up_outside (hierarchy_of paths old) whole source target n m target m.to_is m.outside

  pub to_now : get now to_dir ≡ Some to
  to_now = stays (hierarchy_of paths old) whole source target n m to_dir to to_at (not_up to_dir onto renamed) to_out

  not_one : source ≡ target → ⊥
  not_one same = clash _ (ap (is_within source) (sym same) ∙ within-itself source) m.outside

  pub target_now : get now target ≡ Some n
  target_now = ap (get now) (sym (moved-from source target)) ∙ there (hierarchy_of paths old) whole source target n m source n m.stands not_one

  -- what stands in the directory at a path, which isn't the one that loses or gains the name
  keeps : (key x : Text) (u k : ℕ) → get paths key ≡ Some u → (key ≡ from_dir → x ≡ name → ⊥) → (key ≡ to_dir → x ≡ onto → ⊥) → under old u x ≡ Some k → under new u x ≡ Some k
  keeps key x u k on one two is = moves.others u x
      (λ e same. one (once key (on ∙ ap (λ (j : ℕ). Some j) e)) same)
      (λ e same. two (to_once key (on ∙ ap (λ (j : ℕ). Some j) e)) same) ∙ is

  goes_in : (d x key : Text) (k : ℕ) → is_canonical d ≡ true → is_name x ≡ true → get paths key ≡ Some k → is_within source key ≡ true → (key ≡ source → ⊥) → moved source target key ≡ join d x → after new x (get now d) ≡ Some k
  goes_in d x key k cd nx on h other is =
      let it = path-is_cut key (whole.canonical key k on) (within-not_root source key source_is m.from_below h) in
      let g = up_goes (hierarchy_of paths old) whole source target n m key k on h other in
      let same = same_join (moved source target (parent key)) d (name_of key) x (within-canonical source target source_is m.from_below m.to_is m.to_below (parent key) it.dir g.0) cd it.name nx
      (sym (moved-join source target source_is m.from_below m.to_is m.to_below (parent key) (name_of key) g.0) ∙ ap (moved source target) it.whole ∙ is) in
      let u = some_of (λ j. under old j (name_of key)) (get paths (parent key)) k (sym (step (parent key) (name_of key) it.dir it.name) ∙ ap (get paths) it.whole ∙ on) in
      ap (λ (t : Text). after new t (get now d)) (sym same.1)
      ∙ ap (λ (t : Text). after new (name_of key) (get now t)) (sym same.0)
      ∙ ap (after new (name_of key)) (there (hierarchy_of paths old) whole source target n m (parent key) u.0 u.1 (λ e. clash _ (ap (is_within source) (sym e) ∙ g.0) m.outside))
      ∙ keeps (parent key) (name_of key) u.0 k u.1
      (λ e s. clash _ (ap (is_within source) (sym e) ∙ g.0) (up_apart from_dir name from_is named))
      (λ e s. clash _ (ap (is_within source) (sym e) ∙ g.0) to_out) u.2

  goes_by : (d x : Text) (k : ℕ) → is_canonical d ≡ true → is_name x ≡ true → get paths (join d x) ≡ Some k → is_within source (join d x) ≡ false → (join d x ≡ target → ⊥) → after new x (get now d) ≡ Some k
  goes_by d x k cd nx on w other =
      let u = some_of (λ j. under old j x) (get paths d) k (sym (step d x cd nx) ∙ on) in
      ap (after new x) (stays (hierarchy_of paths old) whole source target n m d u.0 u.1 (λ e. none_some (m.bare (join d x) (ap (λ (t : Text). is_within target (join t x)) e ∙ within-down target target x (within-itself target)) (λ same. not_up target x nx (sym same ∙ ap (λ (t : Text). join t x) e))) on) (out d x w))
      ∙ keeps d x u.0 k u.1
      (λ e s. clash _ (ap (is_within source) (ap (join d) s ∙ ap (λ (t : Text). join t name) e) ∙ within-itself source) w)
      (λ e s. other (ap (join d) s ∙ ap (λ (t : Text). join t onto) e)) u.2 where
        out : (d x : Text) → is_within source (join d x) ≡ false → is_within source d ≡ false
        out d x w = (elim (is_within source d) as (λ (b : Bool). is_within source d ≡ b → b ≡ false) [
          | false ↦ λ e. refl
          | true ↦ λ e. absurd (clash _ (within-down source d x e) w)
        ]) refl

  forward : (d x : Text) → is_canonical d ≡ true → is_name x ≡ true → (k : ℕ) → get now (join d x) ≡ Some k → after new x (get now d) ≡ Some k
  forward d x cd nx k on =
      let b = back (hierarchy_of paths old) whole source target n m (join d x) k on in
      (elim (is_within source b.0) as (λ (s : Bool). is_within source b.0 ≡ s → after new x (get now d) ≡ Some k) [
        | true ↦ λ h. elim (told_apart b.0 source) [
          | inl same ↦
              let e = same_join d to_dir x onto cd to_is nx renamed (sym b.3 ∙ ap (moved source target) same.0 ∙ moved-from source target) in
              ap (λ (t : Text). after new t (get now d)) e.1 ∙ ap (λ (t : Text). after new onto (get now t)) e.0 ∙ ap (after new onto) to_now ∙ moves.comes ∙ sym m.stands ∙ ap (get paths) (sym same.0) ∙ b.1
          | inr other ↦ goes_in d x b.0 k cd nx b.1 h other.0 b.3
        ]
        | false ↦ λ w.
            let e : b.0 ≡ join d x = sym (moved-out source target b.0 w) ∙ b.3 in
            goes_by d x k cd nx (ap (get paths) (sym e) ∙ b.1) (ap (is_within source) (sym e) ∙ w) (λ s. b.2 (e ∙ s))
      ]) refl

  comes_by : (d x key : Text) (u k : ℕ) → is_name x ≡ true → get paths key ≡ Some u → moved source target key ≡ d → (u ≡ dir → x ≡ name → ⊥) → (u ≡ to → x ≡ onto → ⊥) → under old u x ≡ Some k → get now (join d x) ≡ Some k
  comes_by d x key u k nx on is one two found =
      let ck = whole.canonical key u on in
      let stands : get paths (join key x) ≡ Some k = step key x ck nx ∙ ap (after old x) on ∙ found in
      let other : join key x ≡ target → ⊥ = λ e. let s = same_join key to_dir x onto ck to_is nx renamed e in two (same_number u to on (ap (get paths) s.0 ∙ to_at)) s.1 in
      (elim (is_within source key) as (λ (s : Bool). is_within source key ≡ s → get now (join d x) ≡ Some k) [
        | true ↦ λ h.
            ap (λ (t : Text). get now (join t x)) (sym is) ∙ ap (get now) (sym (moved-join source target source_is m.from_below m.to_is m.to_below key x h)) ∙ there (hierarchy_of paths old) whole source target n m (join key x) k stands other
        | false ↦ λ w.
            ap (λ (t : Text). get now (join t x)) (sym is ∙ moved-out source target key w)
            ∙ stays (hierarchy_of paths old) whole source target n m (join key x) k stands other (outer key x u ck nx on one w)
      ]) refl where
        outer : (key x : Text) (u : ℕ) → is_canonical key ≡ true → is_name x ≡ true → get paths key ≡ Some u → (u ≡ dir → x ≡ name → ⊥) → is_within source key ≡ false → is_within source (join key x) ≡ false
        outer key x u ck nx on one w = (elim (is_within source (join key x)) as (λ (b : Bool). is_within source (join key x) ≡ b → b ≡ false) [
          | false ↦ λ e. refl
          | true ↦ λ e. elim (within-join source key x (stem-back source source_is) ck nx e) [
            | inl same ↦ let s = same_join key from_dir x name ck from_is nx named same in absurd (one (same_number u dir on (ap (get paths) s.0 ∙ at)) s.1)
            | inr within ↦ absurd (clash _ within w)
          ]
        ]) refl

  backward : (d x : Text) → is_canonical d ≡ true → is_name x ≡ true → (k : ℕ) → after new x (get now d) ≡ Some k → get now (join d x) ≡ Some k
  backward d x cd nx k is =
      let u = some_of (λ j. under new j x) (get now d) k is in
      let b = back (hierarchy_of paths old) whole source target n m d u.0 u.1 in
      elim (both_or u.0 to x onto) [
        | inl two ↦
            let key : b.0 ≡ to_dir = to_once b.0 (b.1 ∙ ap (λ (j : ℕ). Some j) two.0) in
            let here : d ≡ to_dir = sym b.3 ∙ ap (moved source target) key ∙ moved-out source target to_dir to_out in
            ap (λ (t : Text). get now (join d t)) two.1 ∙ ap (λ (t : Text). get now (join t onto)) here ∙ target_now ∙ sym moves.comes ∙ ap (λ (j : ℕ). under new j onto) (sym two.0) ∙ ap (under new u.0) (sym two.1) ∙ u.2
        | inr not_two ↦ elim (both_or u.0 dir x name) [
          | inl one ↦ absurd (none_some (ap (λ (j : ℕ). under new j x) one.0 ∙ ap (under new dir) one.1 ∙ moves.goes) u.2)
          | inr not_one ↦ comes_by d x b.0 u.0 k nx b.1 b.3 not_one not_two (sym (moves.others u.0 x not_one not_two) ∙ u.2)
        ]
      ]

  pub steps-moved : Steps new (moved_paths (join from_dir name) (join to_dir onto) paths)
  steps-moved d x cd nx = same_option (get now (join d x)) (after new x (get now d)) (forward d x cd nx) (backward d x cd nx)
