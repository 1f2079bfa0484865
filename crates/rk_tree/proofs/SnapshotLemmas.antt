-- What stands in each directory, put at its paths, makes the snapshot of a tree.
use Rattle.std.proofs.Common.{◌≡◌, ◌+◌, ◌<◌, ◌≤◌, ℕ, zero, suc, List, [], ◌∷◌, length, get_or, drop, drop-cons, Bool, true, false, cond, ◌⊎◌, inl, inr, Option, Some, None, refl, sym, ap, ◌∙◌, arith}
use Rattle.std.specs.Prelude.{slice_get}
use Rattle.std.specs.List.{cons_option, filter_map, fold}
use Rattle.std.specs.Option.{option_and_then}
use Rattle.std.specs.FinMap.{empty, entries, get, get-empty}
use Rattle.std.proofs.lemmas.List.{drop_all}
use Rattle.std.proofs.lemmas.Option.{slice_get_within}
use Rattle.rk_base.specs.Text.{Text, text_cmp, root, is_root, parent, name_of, join}
use Rattle.rk_base.specs.Canonical.{is_name}
use Rattle.rk_base.proofs.PathLemmas.{path-is_cut, is_in-join, name_of-join}
use Rattle.rk_base.proofs.WithinLemmas.{is_the_root}
use Rattle.rk_tree.specs.Node.{Node}
use Rattle.rk_tree.specs.Entries.{Entries, is_dir}
use Rattle.rk_tree.specs.Hierarchy.{Hierarchy, top, node, number_at, path_of, child, name_in, names}
use Rattle.rk_tree.specs.Copies.{put_found, snapshot_of}
use Rattle.rk_tree.specs.Copying.{put_dir, put_name, put_names}
use Rattle.rk_tree.specs.Whole.{IsWhole}
use Rattle.rk_tree.proofs.BelowLemmas.{child_at, child_named, names-at, row_of}
use Rattle.rk_tree.proofs.CopiesLemmas.{get-snapshot_of}
use Rattle.rk_tree.proofs.HierarchyLemmas.{dir_path}
use Rattle.rk_tree.proofs.RowsLemmas.{insert_cases, same_maps}

-- A fold, step by step.

module _ {A B : Type 0} (f : B → A → B) (first : B) (items : List A) where
  pub fold_on : (before after : B) (i : ℕ) (x : A) → fold f before (drop i items) ≡ fold f first items → i < length items → x ≡ get_or items i x → after ≡ f before x → fold f after (drop (i + 1) items) ≡ fold f first items
  fold_on before after i x so_far lt is put =
      ap (λ (b : B). fold f b (drop (i + 1) items)) put
      ∙ sym (ap (fold f before) (drop-cons items i x lt ∙ ap (λ (y : A). y ∷ drop (suc i) items) (sym is) ∙ ap (λ (k : ℕ). x ∷ drop k items) (one_up i))) ∙ so_far where
        one_up : (i : ℕ) → suc i ≡ i + 1
        one_up i = omega arith

  pub fold_all : (made : B) (i : ℕ) → fold f made (drop i items) ≡ fold f first items → length items ≤ i → made ≡ fold f first items
  fold_all made i so_far past = sym (ap (fold f made) (drop_all i items past)) ∙ so_far

-- What is put.

-- what stands at a path
abbrev pub entry_of : Hierarchy → Text → Option Node
entry_of tree q = option_and_then (node tree) (number_at tree q)

-- what stands under a name of a directory is put by its number
abbrev pub put_child : Hierarchy → Text → Entries → Text × ℕ → Entries
put_child tree path snapshot row = put_name tree path snapshot row.0

pub found_child : (tree : Hierarchy) (dir : ℕ) (path : Text) (row : Text × ℕ) → path_of tree dir ≡ Some path → Some row.1 ≡ child tree dir row.0 → entry_of tree (join path row.0) ≡ node tree row.1
found_child tree dir path row at is = ap (option_and_then (node tree)) (sym (child_at tree dir path row.0 (child_named tree dir row.0 row.1 (sym is)) at) ∙ sym is)

-- The directories below a number, one after another.

abbrev pub put_dirs : Hierarchy → Entries → ℕ → Entries
put_dirs tree first zero = first
put_dirs tree first (suc k) = put_dir tree (put_dirs tree first k) k

abbrev pub first_put : Hierarchy → Entries
first_put tree = put_found empty root (node tree top)

module _ (tree : Hierarchy) where
  -- nothing but what stands at each path
  abbrev Right : Entries → Type 0
  Right m = (q : Text) → (get m q ≡ entry_of tree q) ⊎ (get m q ≡ None)

  -- what stands at this one
  abbrev Done : Entries → Text → Type 0
  Done m q = get m q ≡ entry_of tree q

  right_found : (m : Entries) (path : Text) (o : Option Node) → entry_of tree path ≡ o → Right m → Right (put_found m path o)
  right_found m path None is right q = right q
  right_found m path (Some it) is right q = elim (insert_cases m path it q) [
    | inl here ↦ inl (here.1 ∙ sym is ∙ ap (entry_of tree) (sym here.0))
    | inr other ↦ elim (right q) [
      | inl done ↦ inl (other.1 ∙ done)
      | inr none ↦ inr (other.1 ∙ none)
    ]
  ]

  kept_found : (m : Entries) (path : Text) (o : Option Node) (q : Text) → entry_of tree path ≡ o → Done m q → Done (put_found m path o) q
  kept_found m path None q is done = done
  kept_found m path (Some it) q is done = elim (insert_cases m path it q) [
    | inl here ↦ here.1 ∙ sym is ∙ ap (entry_of tree) (sym here.0)
    | inr other ↦ other.1 ∙ done
  ]

  done_found : (m : Entries) (path : Text) (o : Option Node) → entry_of tree path ≡ o → Right m → Done (put_found m path o) path
  done_found m path None is right = elim (right path) [
    | inl done ↦ done
    | inr none ↦ none ∙ sym is
  ]
  done_found m path (Some it) is right = elim (insert_cases m path it path) [
    | inl here ↦ here.1 ∙ sym is
    | inr other ↦ absurd (other.0 refl)
  ]

  right_names : (path : Text) (given : List Text) (m : Entries) → Right m → Right (fold (put_name tree path) m given)
  right_names path [] m right = right
  right_names path (name ∷ given) m right = right_names path given (put_name tree path m name) (right_found m (join path name) (entry_of tree (join path name)) refl right)

  kept_names : (path : Text) (given : List Text) (m : Entries) (q : Text) → Done m q → Done (fold (put_name tree path) m given) q
  kept_names path [] m q done = done
  kept_names path (name ∷ given) m q done = kept_names path given (put_name tree path m name) q (kept_found m (join path name) (entry_of tree (join path name)) q refl done)

  same_name : {o : Option Text} (a b : Text) → o ≡ Some a → o ≡ Some b → a ≡ b
  same_name a b p q = cc

  done_names : (path : Text) (given : List Text) (m : Entries) (i : ℕ) (name : Text) → Right m → slice_get given i ≡ Some name → Done (fold (put_name tree path) m given) (join path name)
  done_names path [] m i name right at = cc
  done_names path (x ∷ given) m zero name right at =
      let same : x ≡ name = same_name {o = Some x} x name refl at in
      kept_names path given (put_name tree path m x) (join path name)
      (ap (λ (t : Text). get (put_name tree path m x) (join path t)) (sym same) ∙ done_found m (join path x) (entry_of tree (join path x)) refl right ∙ ap (λ (t : Text). entry_of tree (join path t)) same)
  done_names path (x ∷ given) m (suc i) name right at = done_names path given (put_name tree path m x) i name (right_found m (join path x) (entry_of tree (join path x)) refl right) at

  right_dir : (m : Entries) (dir : ℕ) → Right m → Right (put_dir tree m dir)
  right_dir m dir right = elim (is_dir (node tree dir)) as (λ (b : Bool). Right (cond b (put_names tree dir m (path_of tree dir)) m)) [
    | true ↦ elim (path_of tree dir) as (λ (o : Option Text). Right (put_names tree dir m o)) [
      | None ↦ right
      | Some path ↦ right_names path (names tree dir) m right
    ]
    | false ↦ right
  ]

  kept_dir : (m : Entries) (dir : ℕ) (q : Text) → Done m q → Done (put_dir tree m dir) q
  kept_dir m dir q done = elim (is_dir (node tree dir)) as (λ (b : Bool). Done (cond b (put_names tree dir m (path_of tree dir)) m) q) [
    | true ↦ elim (path_of tree dir) as (λ (o : Option Text). Done (put_names tree dir m o) q) [
      | None ↦ done
      | Some path ↦ kept_names path (names tree dir) m q done
    ]
    | false ↦ done
  ]

  -- what is taken has a place
  taken_at : (f : Text × ℕ → Option Text) (rows : List (Text × ℕ)) (i : ℕ) (row : Text × ℕ) (x : Text) → slice_get rows i ≡ Some row → f row ≡ Some x → (j : ℕ) × (slice_get (filter_map f rows) j ≡ Some x)
  taken_at f [] i row x at is = cc
  taken_at f (r ∷ rows) zero row x at is = (0, head (f r) (ap f (same_row r row refl at) ∙ is)) where
    same_row : {o : Option (Text × ℕ)} (a b : Text × ℕ) → o ≡ Some a → o ≡ Some b → a ≡ b
    same_row a b p q = cc

    head : (o : Option Text) → o ≡ Some x → slice_get (cons_option o (filter_map f rows)) 0 ≡ Some x
    head None e = cc
    head (Some y) e = e
  taken_at f (r ∷ rows) (suc i) row x at is =
      let later = taken_at f rows i row x at is in
      more (f r) later.0 later.1 where
        more : (o : Option Text) (j : ℕ) → slice_get (filter_map f rows) j ≡ Some x → (k : ℕ) × (slice_get (cons_option o (filter_map f rows)) k ≡ Some x)
        more None j e = (j, e)
        more (Some y) j e = (suc j, e)

  module _ (whole : IsWhole tree) where
    -- a name that stands for something is among the names
    name_among : (dir : ℕ) (path name : Text) (n : ℕ) → number_at tree path ≡ Some dir → is_dir (node tree dir) ≡ true → is_name name ≡ true → number_at tree (join path name) ≡ Some n → (j : ℕ) × (slice_get (names tree dir) j ≡ Some name)
    name_among dir path name n at d named there =
        let row = row_of tree (join path name) n there in
        let taken = taken_at (name_in path) (entries tree.paths) row.0 (join path name, n) name row.1
        (ap (λ (b : Bool). cond b (Some (name_of (join path name))) None) (is_in-join path name (whole.canonical path dir at) named) ∙ ap (λ (t : Text). Some t) (name_of-join path name named)) in
        (taken.0, ap (λ (ns : List Text). slice_get ns taken.0) (names-at tree path dir whole at d) ∙ taken.1)

    done_dir : (m : Entries) (dir : ℕ) (path name : Text) (n : ℕ) → Right m → number_at tree path ≡ Some dir → is_dir (node tree dir) ≡ true → is_name name ≡ true → number_at tree (join path name) ≡ Some n → Done (put_dir tree m dir) (join path name)
    done_dir m dir path name n right at d named there =
        let among = name_among dir path name n at d named there in
        ap (λ (b : Bool). get (cond b (put_names tree dir m (path_of tree dir)) m) (join path name)) d
        ∙ ap (λ (o : Option Text). get (put_names tree dir m o) (join path name)) (dir_path tree path dir whole d at)
        ∙ done_names path (names tree dir) m among.0 name right among.1

    right_first : Right (first_put tree)
    right_first = right_found empty root (node tree top) (ap (option_and_then (node tree)) whole.root_at) (λ q. inr (get-empty text_cmp q))

    done_first : Done (first_put tree) root
    done_first = done_found empty root (node tree top) (ap (option_and_then (node tree)) whole.root_at) (λ q. inr (get-empty text_cmp q))

    right_dirs : (k : ℕ) → Right (put_dirs tree (first_put tree) k)
    right_dirs zero = right_first
    right_dirs (suc k) = right_dir (put_dirs tree (first_put tree) k) k (right_dirs k)

    root_dirs : (k : ℕ) → Done (put_dirs tree (first_put tree) k) root
    root_dirs zero = done_first
    root_dirs (suc k) = kept_dir (put_dirs tree (first_put tree) k) k root (root_dirs k)

    done_dirs : (k dir : ℕ) (path name : Text) (n : ℕ) → dir < k → number_at tree path ≡ Some dir → is_dir (node tree dir) ≡ true → is_name name ≡ true → number_at tree (join path name) ≡ Some n → Done (put_dirs tree (first_put tree) k) (join path name)
    done_dirs zero dir path name n lt at d named there = absurd (omega arith)
    done_dirs (suc k) dir path name n lt at d named there = elim (last dir k lt) [
      | inl same ↦
          let at_last : number_at tree path ≡ Some k = at ∙ ap (λ (j : ℕ). Some j) same in
          done_dir (put_dirs tree (first_put tree) k) k path name n (right_dirs k) at_last (sym (ap (λ (j : ℕ). is_dir (node tree j)) same) ∙ d) named there
      | inr below ↦ kept_dir (put_dirs tree (first_put tree) k) k (join path name) (done_dirs k dir path name n below at d named there)
    ] where
      last : (a b : ℕ) → a < suc b → (a ≡ b) ⊎ (a < b)
      last zero zero h = inl refl
      last zero (suc b) h = inr (omega arith)
      last (suc a) zero h = absurd (omega arith)
      last (suc a) (suc b) h = elim (last a b (omega arith)) [
        | inl same ↦ inl (ap suc same)
        | inr less ↦ inr (omega arith)
      ]

    -- each path that stands is done
    done_all : (q : Text) (n : ℕ) → number_at tree q ≡ Some n → Done (put_dirs tree (first_put tree) (length tree.nodes)) q
    done_all q n at = (elim (is_root q) as (λ (b : Bool). is_root q ≡ b → Done (put_dirs tree (first_put tree) (length tree.nodes)) q) [
      | true ↦ λ r.
          let same = is_the_root q r in
          ap (get (put_dirs tree (first_put tree) (length tree.nodes))) same ∙ root_dirs (length tree.nodes) ∙ sym (ap (entry_of tree) same)
      | false ↦ λ r.
          let cut = path-is_cut q (whole.canonical q n at) r in
          let p = whole.placed q n at in
          let up = whole.known (parent q) p.up p.stands in
          ap (get (put_dirs tree (first_put tree) (length tree.nodes))) (sym cut.whole)
          ∙ done_dirs (length tree.nodes) p.up (parent q) (name_of q) n (slice_get_within tree.nodes p.up up.0 up.1) p.stands p.in_dir cut.name (ap (number_at tree) cut.whole ∙ at)
          ∙ ap (entry_of tree) cut.whole
    ]) refl

    all_dirs : (q : Text) → Done (put_dirs tree (first_put tree) (length tree.nodes)) q
    all_dirs q = by (number_at tree q) refl where
      by : (o : Option ℕ) → number_at tree q ≡ o → Done (put_dirs tree (first_put tree) (length tree.nodes)) q
      by (Some n) at = done_all q n at
      by None at = elim (right_dirs (length tree.nodes) q) [
        | inl done ↦ done
        | inr none ↦ none ∙ sym (ap (option_and_then (node tree)) at)
      ]

    pub snapshot_of-dirs : put_dirs tree (first_put tree) (length tree.nodes) ≡ snapshot_of tree
    snapshot_of-dirs = same_maps _ _ (λ q. all_dirs q ∙ sym (get-snapshot_of tree q))

pub dirs_on : (tree : Hierarchy) (before after : Entries) (k : ℕ) → before ≡ put_dirs tree (first_put tree) k → after ≡ put_dir tree before k → after ≡ put_dirs tree (first_put tree) (k + 1)
dirs_on tree before after k so_far put = put ∙ ap (λ (m : Entries). put_dir tree m k) so_far ∙ ap (put_dirs tree (first_put tree)) (one_up k) where
  one_up : (k : ℕ) → suc k ≡ k + 1
  one_up k = omega arith

pub dirs_all : (tree : Hierarchy) (made : Entries) (k : ℕ) → IsWhole tree → made ≡ put_dirs tree (first_put tree) k → k ≡ length tree.nodes → made ≡ snapshot_of tree
dirs_all tree made k whole so_far all = so_far ∙ ap (put_dirs tree (first_put tree)) all ∙ snapshot_of-dirs tree whole
