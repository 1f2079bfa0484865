-- The tree of a snapshot, a row after another.
use Rattle.std.proofs.Common.{Bor, ◌≡◌, ◌+◌, ◌++◌, ℕ, suc, List, [], ◌∷◌, length, Bool, true, false, cond, inl, inr, Option, Some, None, refl, sym, ap, subst, ◌∙◌, arith, append_assoc, append-nil}
use lib.Dec.{T}
use Rattle.std.specs.Prelude.{slice_get}
use Rattle.std.specs.Map.{values_of}
use Rattle.std.specs.Option.{MatchOption, option_and_then}
use Rattle.std.specs.Ordering.{eq_by_cmp, is_lt, ordering_reverse}
use Rattle.std.specs.declared.cmp.Ordering.{Ordering}
use Rattle.std.specs.declared.cmp.Ordering.TheVariants.{Less, Equal, Greater}
use Rattle.std.specs.Cmp.Lexicographic.{nat_list_cmp_total}
use Rattle.std.specs.FinMap.Entries.{below_all}
use Rattle.std.specs.FinMap.{empty, entries, get, get-entries, get-insert, entries_sorted, find, insert, is_sorted}
use Rattle.rk_base.specs.Text.{Text, text_cmp, root, is_root, hidden, parent, name_of, last_of, join, is_within}
use Rattle.rk_base.specs.Canonical.{is_canonical, is_name}
use Rattle.rk_base.proofs.PathLemmas.{path-is_cut}
use Rattle.rk_base.proofs.WithinLemmas.{is_the_root, within-itself}
use Rattle.rk_tree.specs.Node.{Node, Dir}
use Rattle.rk_tree.specs.Entries.{Entries, is_dir, IsWholeSnapshot}
use Rattle.rk_tree.specs.Hierarchy.{Hierarchy, Paths, node, number_at, path_of, child, linked, added, with_path}
use Rattle.rk_tree.specs.Rows.{map_of}
use Rattle.rk_tree.specs.Copies.{numbered, tree_of}
use Rattle.rk_tree.specs.Copying.{MayTake, with_node_at}
use Rattle.rk_tree.specs.Whole.{IsWhole, MayHold}
use Rattle.rk_tree.proofs.BelowLemmas.{child_at, none_some, same_number}
use Rattle.rk_tree.proofs.ClimbingLemmas.{root_path}
use Rattle.rk_tree.proofs.CompareLemmas.{cmp-front}
use Rattle.rk_tree.proofs.CopiesLemmas.{find_numbered, below_less, not_below_root}
use Rattle.rk_tree.proofs.HierarchyLemmas.{dir_path}
use Rattle.rk_tree.proofs.RowsLemmas.{empty_rows, find_head, find_later, get-found, same_maps, and_first, and_second}
use Rattle.rk_tree.proofs.TextLemmas.{told_apart}

clash : (b : Bool) → b ≡ true → b ≡ false → ⊥
clash b t f = cc

-- A node more, at a path.

-- where a path comes to stand
pub record Lands (tree : Hierarchy) (path name : Text) (up : ℕ) : Type 0 where
  pub named : is_name name ≡ true
  pub whole : join (parent path) name ≡ path
  pub at : path_of tree up ≡ Some (parent path)
  pub in_dir : is_dir (node tree up) ≡ true

-- it isn't the root
pub not_the_root : (tree : Hierarchy) (path : Text) → IsWhole tree → number_at tree path ≡ None → is_root path ≡ false
not_the_root tree path whole absent = by (is_root path) refl where
  by : (b : Bool) → is_root path ≡ b → b ≡ false
  by false r = refl
  by true r = absurd (none_some absent (ap (number_at tree) (is_the_root path r) ∙ whole.root_at))

pub has_last : (path : Text) (last : Option Text) → is_root path ≡ false → last ≡ last_of path → last ≡ None → ⊥
has_last path last below is none = absurd (some_none (sym none ∙ is ∙ ap (λ (b : Bool). cond b None (Some (name_of path))) below)) where
  some_none : None ≡ Some (name_of path) → ⊥
  some_none e = cc

last_is : (path name : Text) → is_root path ≡ false → last_of path ≡ Some name → name_of path ≡ name
last_is path name below is = same (sym (ap (λ (b : Bool). cond b None (Some (name_of path))) below) ∙ is) where
  same : {a b : Text} → Some a ≡ Some b → a ≡ b
  same e = cc

pub lands : (tree : Hierarchy) (path name : Text) (it : Node) (up : ℕ) → IsWhole tree → MayTake tree path it → last_of path ≡ Some name → number_at tree (parent path) ≡ Some up → Lands tree path name up
lands tree path name it up whole takes last at =
    let below = not_the_root tree path whole takes.absent in
    let cut = path-is_cut path takes.canonical below in
    let is = last_is path name below last in
    let d : is_dir (node tree up) ≡ true = ap (λ (k : ℕ). is_dir (node tree k)) (same_number {o = number_at tree (parent path)} up takes.placed.up at takes.placed.stands) ∙ takes.placed.in_dir in
    record {
      named = ap is_name (sym is) ∙ cut.name;
      whole = ap (join (parent path)) (sym is) ∙ cut.whole;
      at = dir_path tree (parent path) up whole d at;
      in_dir = d;
    }

pub may_hold : (tree : Hierarchy) (path name : Text) (it : Node) (up : ℕ) → IsWhole tree → MayTake tree path it → Lands tree path name up → MayHold tree up name
may_hold tree path name it up whole takes l = record {
  in_dir = l.in_dir;
  seen = λ at_top named.
      let at_root : parent path ≡ root = same (sym l.at ∙ ap (path_of tree) at_top ∙ root_path tree whole) in
      let here : path ≡ join root hidden = sym l.whole ∙ ap (λ (t : Text). join t name) at_root ∙ ap (join root) named in
      clash _ (ap (is_within (join root hidden)) here ∙ within-itself (join root hidden)) takes.seen;
} where
  same : {a b : Text} → Some a ≡ Some b → a ≡ b
  same e = cc

pub child_absent : (tree : Hierarchy) (path name : Text) (it : Node) (up : ℕ) → MayTake tree path it → Lands tree path name up → child tree up name ≡ None
child_absent tree path name it up takes l = child_at tree up (parent path) name l.named l.at ∙ ap (number_at tree) l.whole ∙ takes.absent

pub added_at : (tree : Hierarchy) (path name : Text) (it : Node) (up : ℕ) → Lands tree path name up → added tree up name it ≡ with_node_at tree path it
unfolding added linked
added_at tree path name it up l =
    ap (λ (o : Option Text). record { paths = with_path o (λ p. insert tree.paths (join p name) (length tree.nodes)) tree.paths; nodes = tree.nodes ++ it ∷ [] }) l.at
    ∙ ap (λ (p : Text). record { paths = insert tree.paths p (length tree.nodes); nodes = tree.nodes ++ it ∷ [] }) l.whole

-- Rows in order.

not_both : (a b : Text) → T (is_lt (text_cmp a b)) → T (is_lt (text_cmp b a)) → ⊥
not_both a b = by (text_cmp a b) (text_cmp b a) (nat_list_cmp_total.antisymm a b) where
  by : (p q : Ordering) → p ≡ ordering_reverse q → T (is_lt p) → T (is_lt q) → ⊥
  by Less Less e h k = cc
  by Less Equal e h k = k
  by Less Greater e h k = k
  by Equal q e h k = h
  by Greater q e h k = h

not_itself : (a : Text) → T (is_lt (text_cmp a a)) → ⊥
not_itself a h = not_both a a h h

module _ (path : Text) (it : Node) (rest : List (Text × Node)) where
  below_seam : (x : Text) (done : List (Text × Node)) → T (below_all text_cmp x (done ++ (path, it) ∷ rest)) → T (is_lt (text_cmp x path))
  below_seam x [] h = and_first _ _ h
  below_seam x (row ∷ done) h = below_seam x done (and_second _ _ h)

  -- a path that comes next isn't among those done
  absent_before : (done : List (Text × Node)) → T (is_sorted text_cmp (done ++ (path, it) ∷ rest)) → find text_cmp path done ≡ None
  absent_before [] h = refl
  absent_before (row ∷ done) h = elim (told_apart path row.0) [
    | inl same ↦ absurd (not_itself path (subst (λ (t : Text). T (is_lt (text_cmp t path))) (sym same.0) (below_seam row.0 done (and_first _ _ h))))
    | inr apart ↦ ap (λ (b : Bool). cond b (Some row.1) (find text_cmp path done)) apart.1 ∙ absent_before done (and_second _ _ h)
  ]

  -- what is less than it is
  there_before : (done : List (Text × Node)) (q : Text) (e : Node) → T (is_sorted text_cmp (done ++ (path, it) ∷ rest)) → T (is_lt (text_cmp q path)) → find text_cmp q (done ++ (path, it) ∷ rest) ≡ Some e → find text_cmp q done ≡ Some e
  there_before [] q e h less at = elim (told_apart q path) [
    | inl same ↦ absurd (not_itself path (subst (λ (t : Text). T (is_lt (text_cmp t path))) same.0 less))
    | inr apart ↦ absurd (not_both q path less (below_less path q rest e (and_first _ _ h) (sym (ap (λ (b : Bool). cond b (Some it) (find text_cmp q rest)) apart.1) ∙ at)))
  ]
  there_before (row ∷ done) q e h less at = elim (told_apart q row.0) [
    | inl same ↦ ap (λ (b : Bool). cond b (Some row.1) (find text_cmp q done)) same.1 ∙ sym (ap (λ (b : Bool). cond b (Some row.1) (find text_cmp q (done ++ (path, it) ∷ rest))) same.1) ∙ at
    | inr apart ↦
        ap (λ (b : Bool). cond b (Some row.1) (find text_cmp q done)) apart.1
        ∙ there_before done q e (and_second _ _ h) less (sym (ap (λ (b : Bool). cond b (Some row.1) (find text_cmp q (done ++ (path, it) ∷ rest))) apart.1) ∙ at)
  ]

nameless : is_name [] ≡ true → ⊥
unfolding is_name
nameless h = cc

less_of : {a b : Ordering} → a ≡ b → T (is_lt b) → T (is_lt a)
less_of e h = subst (λ (o : Ordering). T (is_lt o)) (sym e) h

named_less : (name : Text) → is_name name ≡ true → T (is_lt (text_cmp [] name))
named_less [] n = absurd (nameless n)
named_less (b ∷ bs) n = tt

joined_less : (dir name : Text) → is_name name ≡ true → T (is_lt (text_cmp dir (join dir name)))
unfolding join
joined_less dir name n = (elim (is_root dir) as (λ (b : Bool). is_root dir ≡ b → T (is_lt (text_cmp dir (cond b [] dir ++ 47 ∷ name)))) [
  | true ↦ λ e. less_of (ap (λ (t : Text). text_cmp t (47 ∷ name)) (is_the_root dir e) ∙ cmp-front (47 ∷ []) [] name) (named_less name n)
  | false ↦ λ e. less_of (ap (λ (t : Text). text_cmp t (dir ++ 47 ∷ name)) (sym (append-nil dir)) ∙ cmp-front dir [] (47 ∷ name)) tt
]) refl

-- a directory comes before what stands in it
parent_less : (path : Text) → is_canonical path ≡ true → is_root path ≡ false → T (is_lt (text_cmp (parent path) path))
parent_less path c r = let cut = path-is_cut path c r in subst (λ (t : Text). T (is_lt (text_cmp (parent path) t))) cut.whole (joined_less (parent path) (name_of path) cut.name)

-- The rows so far.

abbrev pub tree_by : List (Text × Node) → Hierarchy
tree_by rows = record { paths = map_of (numbered 0 rows); nodes = values_of rows }

absent_number : (k : ℕ) (q : Text) (rows : List (Text × Node)) → find text_cmp q rows ≡ None → find text_cmp q (numbered k rows) ≡ None
absent_number k q [] none = refl
absent_number k q (row ∷ rows) none = elim (told_apart q row.0) [
  | inl same ↦ absurd (none_some (sym (ap (λ (b : Bool). cond b (Some row.1) (find text_cmp q rows)) same.1) ∙ none) refl)
  | inr apart ↦ ap (λ (b : Bool). cond b (Some k) (find text_cmp q (numbered (k + 1) rows))) apart.1 ∙ absent_number (k + 1) q rows (sym (ap (λ (b : Bool). cond b (Some row.1) (find text_cmp q rows)) apart.1) ∙ none)
]

number_of : (q : Text) (rows : List (Text × Node)) (e : Node) → find text_cmp q rows ≡ Some e → (n : ℕ) × (number_at (tree_by rows) q ≡ Some n) × (node (tree_by rows) n ≡ Some e)
number_of q rows e at =
    let s = some_of (slice_get (values_of rows)) (find text_cmp q (numbered 0 rows)) e (find_numbered [] 0 q rows refl ∙ at) in
    (s.0, get-found (numbered 0 rows) q ∙ s.1, s.2) where
      some_of : {A B : Type 0} (f : A → Option B) (o : Option A) (y : B) → option_and_then f o ≡ Some y → (x : A) × (o ≡ Some x) × (f x ≡ Some y)
      some_of f None y h = cc
      some_of f (Some x) y h = (x, refl, h)

numbered-push : (k : ℕ) (rows : List (Text × Node)) (path : Text) (it : Node) → numbered k (rows ++ (path, it) ∷ []) ≡ numbered k rows ++ (path, k + length (values_of rows)) ∷ []
numbered-push k [] path it = ap (λ (n : ℕ). (path, n) ∷ []) (plus k) where
  plus : (k : ℕ) → k ≡ k + 0
  plus k = omega arith
numbered-push k (row ∷ rows) path it = ap (λ (more : List (Text × ℕ)). (row.0, k) ∷ more) (numbered-push (k + 1) rows path it ∙ ap (λ (n : ℕ). numbered (k + 1) rows ++ (path, n) ∷ []) (one_on k (length (values_of rows)))) where
  one_on : (k n : ℕ) → (k + 1) + n ≡ k + suc n
  one_on k n = omega arith

values-push : (rows : List (Text × Node)) (path : Text) (it : Node) → values_of (rows ++ (path, it) ∷ []) ≡ values_of rows ++ it ∷ []
values-push [] path it = refl
values-push (row ∷ rows) path it = ap (λ (more : List Node). row.1 ∷ more) (values-push rows path it)

find-push : (rows : List (Text × ℕ)) (path q : Text) (n : ℕ) → find text_cmp path rows ≡ None → find text_cmp q (rows ++ (path, n) ∷ []) ≡ cond (eq_by_cmp text_cmp q path) (Some n) (find text_cmp q rows)
find-push [] path q n none = refl
find-push (row ∷ rows) path q n none = elim (told_apart path row.0) [
  | inl same ↦ absurd (none_some (sym (ap (λ (b : Bool). cond b (Some row.1) (find text_cmp path rows)) same.1) ∙ none) refl)
  | inr apart ↦
      let later = find-push rows path q n (sym (ap (λ (b : Bool). cond b (Some row.1) (find text_cmp path rows)) apart.1) ∙ none) in
      elim (told_apart q row.0) [
        | inl here ↦
            ap (λ (b : Bool). cond b (Some row.1) (find text_cmp q (rows ++ (path, n) ∷ []))) here.1
            ∙ sym (ap (λ (b : Bool). cond b (Some n) (cond (eq_by_cmp text_cmp q row.0) (Some row.1) (find text_cmp q rows))) (other here.0 apart.0) ∙ ap (λ (b : Bool). cond b (Some row.1) (find text_cmp q rows)) here.1)
        | inr there ↦
            ap (λ (b : Bool). cond b (Some row.1) (find text_cmp q (rows ++ (path, n) ∷ []))) there.1 ∙ later
            ∙ sym (ap (λ (b : Bool). cond (eq_by_cmp text_cmp q path) (Some n) (cond b (Some row.1) (find text_cmp q rows))) there.1)
      ]
] where
  other : {a b : Text} → q ≡ a → (b ≡ a → ⊥) → eq_by_cmp text_cmp q b ≡ false
  other {a} {b} same apart = elim (told_apart q b) [
    | inl tied ↦ absurd (apart (sym tied.0 ∙ same))
    | inr e ↦ e.1
  ]

map_of-push : (rows : List (Text × ℕ)) (path : Text) (n : ℕ) → find text_cmp path rows ≡ None → map_of (rows ++ (path, n) ∷ []) ≡ insert (map_of rows) path n
map_of-push rows path n none = same_maps _ _ (λ q.
    get-found (rows ++ (path, n) ∷ []) q ∙ find-push rows path q n none
    ∙ sym (get-insert nat_list_cmp_total (map_of rows) path n q ∙ ap (cond (eq_by_cmp text_cmp q path) (Some n)) (get-found rows q)))

-- a row more is a node more at its path
tree-push : (rows : List (Text × Node)) (path : Text) (it : Node) → find text_cmp path rows ≡ None → with_node_at (tree_by rows) path it ≡ tree_by (rows ++ (path, it) ∷ [])
tree-push rows path it none =
    ap (λ (m : Paths). record { paths = m; nodes = values_of rows ++ it ∷ [] })
    (sym (map_of-push (numbered 0 rows) path (length (values_of rows)) (absent_number 0 path rows none)) ∙ ap (λ (n : ℕ). map_of (numbered 0 rows ++ (path, n) ∷ [])) (none_on (length (values_of rows))) ∙ sym (ap (λ (r : List (Text × ℕ)). map_of r) (numbered-push 0 rows path it)))
    ∙ ap (λ (ns : List Node). record { paths = map_of (numbered 0 (rows ++ (path, it) ∷ [])); nodes = ns }) (sym (values-push rows path it)) where
      none_on : (n : ℕ) → n ≡ 0 + n
      none_on n = omega arith

-- The rows of a snapshot, the first of which is the root's.

-- a tree has these rows yet to take
pub record Takes (snapshot : Entries) (tree : Hierarchy) (left : List (Text × Node)) : Type 0 where
  pub mode : Node
  pub more : List (Text × Node)
  pub split : ((root, mode) ∷ more) ++ left ≡ entries snapshot
  pub made : tree ≡ tree_by ((root, mode) ∷ more)

module _ (snapshot : Entries) (whole : IsWholeSnapshot snapshot) where
  first_row : (mode : ℕ) (row : Text × Node) (rest : List (Text × Node)) → get snapshot root ≡ Some (Dir mode) → entries snapshot ≡ row ∷ rest → row ≡ (root, Dir mode)
  first_row mode row rest at is =
      let sorted : T (is_sorted text_cmp (row ∷ rest)) = subst (λ (r : List (Text × Node)). T (is_sorted text_cmp r)) is (entries_sorted snapshot) in
      let there : find text_cmp root (row ∷ rest) ≡ Some (Dir mode) = ap (find text_cmp root) (sym is) ∙ sym (get-entries snapshot root) ∙ at in
      elim (told_apart root row.0) [
        | inl same ↦ pair (sym same.0) (same_entry (sym (ap (λ (b : Bool). cond b (Some row.1) (find text_cmp root rest)) same.1) ∙ there))
        | inr apart ↦
            let later : find text_cmp root rest ≡ Some (Dir mode) = sym (ap (λ (b : Bool). cond b (Some row.1) (find text_cmp root rest)) apart.1) ∙ there in
            absurd (not_below_root row.0 (whole.canonical row.0 row.1 (get-entries snapshot row.0 ∙ ap (find text_cmp row.0) is ∙ find_head row.0 row rest refl)) (below_less row.0 root rest (Dir mode) (and_first _ _ sorted) later))
      ] where
        same_entry : {a b : Node} → Some a ≡ Some b → a ≡ b
        same_entry e = cc

        pair : row.0 ≡ root → row.1 ≡ Dir mode → row ≡ (root, Dir mode)
        pair p q = λ i. (p i, q i)

  -- the root alone has all other rows to take
  takes_rest : (mode : ℕ) (row : Text × Node) (rest : List (Text × Node)) (tree : Hierarchy) → get snapshot root ≡ Some (Dir mode) → entries snapshot ≡ row ∷ rest → tree ≡ record { paths = insert empty root 0; nodes = Dir mode ∷ [] } → Takes snapshot tree rest
  takes_rest mode row rest tree at is made = record {
    mode = Dir mode;
    more = [];
    split = ap (λ (r : Text × Node). r ∷ rest) (sym (first_row mode row rest at is)) ∙ sym is;
    made = made ∙ ap (λ (m : Paths). record { paths = m; nodes = Dir mode ∷ [] }) (sym root_map);
  } where
    root_map : map_of {X = ℕ} ((root, 0) ∷ []) ≡ insert empty root 0
    root_map = map_of-push [] root 0 refl ∙ ap (λ (m : Paths). insert m root 0) (empty_rows [] refl)

  -- the first row is taken off
  pub takes_first : (mode : ℕ) (first : Option (Bor Text × Bor Node)) (rows left : List (Text × Node)) (tree : Hierarchy) → get snapshot root ≡ Some (Dir mode) → rows ≡ entries snapshot → MatchOption first ((rows ≡ []) × (left ≡ [])) (λ row. rows ≡ (row.0.now, row.1.now) ∷ left) → tree ≡ record { paths = insert empty root 0; nodes = Dir mode ∷ [] } → Takes snapshot tree left
  takes_first mode None rows left tree at is steps made = absurd (none_some (get-entries snapshot root ∙ ap (find text_cmp root) (sym is ∙ steps.0)) at)
  takes_first mode (Some row) rows left tree at is steps made = takes_rest mode (row.0.now, row.1.now) left tree at (sym is ∙ steps) made

  module _ (tree : Hierarchy) (left rest : List (Text × Node)) (path : Text) (it : Node) (takes : Takes snapshot tree left) (next : left ≡ (path, it) ∷ rest) where
    abbrev done : List (Text × Node)
    done = (root, takes.mode) ∷ takes.more

    split : done ++ (path, it) ∷ rest ≡ entries snapshot
    split = ap (λ (r : List (Text × Node)). done ++ r) (sym next) ∙ takes.split

    sorted : T (is_sorted text_cmp (done ++ (path, it) ∷ rest))
    sorted = subst (λ (r : List (Text × Node)). T (is_sorted text_cmp r)) (sym split) (entries_sorted snapshot)

    stands : get snapshot path ≡ Some it
    stands = get-entries snapshot path ∙ ap (find text_cmp path) (sym split) ∙ at_seam done sorted where
      at_seam : (front : List (Text × Node)) → T (is_sorted text_cmp (front ++ (path, it) ∷ rest)) → find text_cmp path (front ++ (path, it) ∷ rest) ≡ Some it
      at_seam [] h = find_head path (path, it) rest refl
      at_seam (row ∷ front) h = find_later path row (front ++ (path, it) ∷ rest) it h (at_seam front (and_second _ _ h))

    absent : find text_cmp path done ≡ None
    absent = absent_before path it rest done sorted

    below : is_root path ≡ false
    below = by (is_root path) refl where
      by : (b : Bool) → is_root path ≡ b → b ≡ false
      by false r = refl
      by true r = absurd (none_some absent (find_head path (root, takes.mode) takes.more (is_the_root path r)))

    -- the next row may come
    pub takes_next : MayTake tree path it
    takes_next =
        let canon = whole.canonical path it stands in
        let dir = some_dir (get snapshot (parent path)) (whole.placed path it stands) in
        let up = number_of (parent path) done dir.0 (there_before path it rest done (parent path) dir.0 sorted (parent_less path canon below) (ap (find text_cmp (parent path)) split ∙ sym (get-entries snapshot (parent path)) ∙ dir.1)) in
        record {
          canonical = canon;
          absent = ap (λ (h : Hierarchy). number_at h path) takes.made ∙ get-found (numbered 0 done) path ∙ absent_number 0 path done absent;
          placed = record {
            up = up.0;
            stands = ap (λ (h : Hierarchy). number_at h (parent path)) takes.made ∙ up.1;
            in_dir = ap (λ (h : Hierarchy). is_dir (node h up.0)) takes.made ∙ ap is_dir up.2 ∙ sym (ap is_dir dir.1) ∙ whole.placed path it stands;
          };
          seen = unhidden (is_within (join root hidden) path) refl;
          fit = whole.fit path it stands;
        } where
          some_dir : (o : Option Node) → is_dir o ≡ true → (e : Node) × (o ≡ Some e)
          some_dir None h = cc
          some_dir (Some e) h = (e, refl)

          unhidden : (b : Bool) → is_within (join root hidden) path ≡ b → b ≡ false
          unhidden false h = refl
          unhidden true h = absurd (none_some (whole.unseen path h) stands)

    -- and then the others are left
    pub takes_more : (new : Hierarchy) → new ≡ with_node_at tree path it → Takes snapshot new rest
    takes_more new is = record {
      mode = takes.mode;
      more = takes.more ++ (path, it) ∷ [];
      split = append_assoc done ((path, it) ∷ []) rest ∙ split;
      made = is ∙ ap (λ (h : Hierarchy). with_node_at h path it) takes.made ∙ tree-push done path it absent;
    }

  pub takes_all : (tree : Hierarchy) (left : List (Text × Node)) → Takes snapshot tree left → left ≡ [] → tree ≡ tree_of snapshot
  unfolding tree_of
  takes_all tree left takes none =
      takes.made ∙ ap tree_by (sym (append-nil ((root, takes.mode) ∷ takes.more)) ∙ ap (λ (r : List (Text × Node)). ((root, takes.mode) ∷ takes.more) ++ r) (sym none) ∙ takes.split)
