-- Trees with a name more, with a node more, and with a node that is another one.
use Rattle.std.proofs.Common.{◌≡◌, ℕ, zero, suc, List, [], ◌∷◌, ◌++◌, length, Bool, true, false, inl, inr, Option, Some, None, refl, sym, ap, subst, ◌∙◌}
use Rattle.std.specs.Prelude.{slice_get}
use Rattle.std.specs.FinMap.{empty, get, insert, get-empty}
use Rattle.rk_base.specs.Text.{Text, text_cmp, join}
use Rattle.rk_base.specs.Canonical.{is_name}
use Rattle.rk_tree.specs.Node.{Node, File, Dir, Link}
use Rattle.rk_tree.specs.declared.inode.Inode.{Inode}
use Rattle.rk_tree.specs.Entries.{is_dir, IsFit}
use Rattle.rk_tree.specs.Hierarchy.{Hierarchy, Paths, top, node, path_of, child, with_path, with_node, linked, added}
use Rattle.rk_tree.specs.Inodes.{nodes_of, hierarchy_of, under, place_in, place_of, placed, lost, change, with_name, IsPlace, AreAttached}
use Rattle.rk_tree.specs.Refusals.{is_there}
use Rattle.rk_tree.specs.Whole.{IsWhole, MayHold}
use Rattle.rk_tree.proofs.BelowLemmas.{child_at}
use Rattle.rk_tree.proofs.ChangedLemmas.{PutsUnder, puts_name, entries-change, place-change, under-more, place-more, entries-more, length-entries}
use Rattle.rk_tree.proofs.HierarchyLemmas.{path_stands}
use Rattle.rk_tree.proofs.RefusalLemmas.{there_is, not_there}
use Rattle.rk_tree.proofs.RowsLemmas.{insert_cases}
use Rattle.rk_tree.proofs.ShownLemmas.{Leads, Steps, steps, leads}
use Rattle.rk_tree.proofs.StepsLemmas.{steps-same, steps-linked, both_or}
use Rattle.rk_tree.proofs.TreeLemmas.{Kept, IsTree, over, file_bare, path_stays, place_stays}
use Rattle.rk_tree.proofs.WholeLemmas.{linked-whole, added-whole, more-whole, new_nowhere, dir_node, get-more, get-last}

clash : (b : Bool) → b ≡ true → b ≡ false → ⊥
clash b t f = cc

insert_here : (m : Paths) (path : Text) (n : ℕ) → get (insert m path n) path ≡ Some n
insert_here m path n = elim (insert_cases m path n path) [
  | inl here ↦ here.1
  | inr other ↦ absurd (other.0 refl)
]

-- A name more, for a node without names.

module _ (before : List Inode) (paths : Paths) (dir n : ℕ) (path name : Text) (whole : IsWhole (hierarchy_of paths before)) (attached : AreAttached paths before) (step : Steps before paths) (named : is_name name ≡ true) (in_dir : is_dir (slice_get (nodes_of before) dir) ≡ true) (at : get paths path ≡ Some dir) (absent : get paths (join path name) ≡ None) (bare : (x : Text) → under before n x ≡ None) (apart : n ≡ dir → ⊥) where
  puts : PutsUnder before (change (with_name name n) before dir) dir name (Some n)
  puts = puts_name before dir name n (dir_node (slice_get (nodes_of before) dir) in_dir).0 (dir_node (slice_get (nodes_of before) dir) in_dir).1

  pub grown_steps : Steps (change (with_name name n) before dir) (insert paths (join path name) n)
  grown_steps = steps-linked before (change (with_name name n) before dir) paths path name dir n (whole.canonical path dir at) named at (λ q on. whole.once q path dir on at in_dir) absent
      (λ x. puts.others n x (λ e same. apart e) ∙ bare x) puts step

  pub grown_attached : AreAttached (insert paths (join path name) n) (change (with_name name n) before dir)
  grown_attached d x m on = elim (both_or d dir x name) [
    | inl here ↦ (ap is_name here.1 ∙ named, path, path_stays paths (join path name) n d absent path (at ∙ ap (λ (k : ℕ). Some k) (sym here.0)))
    | inr other ↦ let a = attached d x m (sym (puts.others d x other) ∙ on) in (a.0, a.1, path_stays paths (join path name) n d absent a.1 a.2)
  ]

  pub grown_place : (k : ℕ) → (k ≡ n → ⊥) → IsPlace paths k (place_in (slice_get before k)) → IsPlace (insert paths (join path name) n) k (place_in (slice_get (change (with_name name n) before dir) k))
  grown_place k other h = subst (λ (p : Option (ℕ × Text)). IsPlace (insert paths (join path name) n) k p) (sym (place-change (with_name name n) before dir k (λ it. refl))) (place_stays paths (join path name) n k (place_in (slice_get before k)) absent other h)

linked_there : (tree : Hierarchy) (dir n : ℕ) (path name : Text) → path_of tree dir ≡ Some path → linked tree dir name n ≡ record tree { paths = insert tree.paths (join path name) n }
unfolding linked
linked_there tree dir n path name at = ap (λ (o : Option Text). record tree { paths = with_path o (λ p. insert tree.paths (join p name) n) tree.paths }) at

-- a file or a link under one name more
module _ (nodes : List Inode) (paths : Paths) (l : Leads nodes paths) (kept : Kept paths nodes) (dir n : ℕ) (name : Text) where
  abbrev here : Hierarchy
  here = hierarchy_of paths nodes

  linked_core : is_name name ≡ true → MayHold here dir name → child here dir name ≡ None → is_there (node here n) ≡ true → is_dir (node here n) ≡ false → is_there (path_of here dir) ≡ true → IsTree (change (with_name name n) nodes dir) (linked here dir name n)
  linked_core named may absent there file has =
      let p = there_is (path_of here dir) has in
      let at = path_stands here dir p.0 p.1 in
      let free : get paths (join p.0 name) ≡ None = sym (child_at here dir p.0 name named p.1) ∙ absent in
      let bare = file_bare nodes paths kept (steps nodes paths l) n file in
      let apart : n ≡ dir → ⊥ = λ e. clash _ may.in_dir (ap (λ (k : ℕ). is_dir (node here k)) (sym e) ∙ file) in
      let view : hierarchy_of (insert paths (join p.0 name) n) (change (with_name name n) nodes dir) ≡ linked here dir name n =
      ap (λ (es : List Node). record { paths = insert paths (join p.0 name) n; nodes = es }) (entries-change (with_name name n) nodes dir (λ it. refl)) ∙ sym (linked_there here dir n p.0 name p.1) in
      let some = there_is (node here n) there in
      let whole : IsWhole (hierarchy_of (insert paths (join p.0 name) n) (change (with_name name n) nodes dir)) = subst IsWhole (sym view) (linked-whole here dir name n some.0 kept.0 named may absent some.1 file) in
      record {
        paths = insert paths (join p.0 name) n;
        leads = leads (change (with_name name n) nodes dir) (insert paths (join p.0 name) n) whole (grown_steps nodes paths dir n p.0 name kept.0 kept.2 (steps nodes paths l) named may.in_dir at free bare apart);
        kept = (
          whole,
          λ k below d.
              let old : is_dir (slice_get (nodes_of nodes) k) ≡ true = ap (λ (es : List Node). is_dir (slice_get es k)) (sym (entries-change (with_name name n) nodes dir (λ it. refl))) ∙ d in
              grown_place nodes paths dir n p.0 name kept.0 kept.2 (steps nodes paths l) named may.in_dir at free bare apart k (λ e. clash _ old (ap (λ (j : ℕ). is_dir (node here j)) e ∙ file)) (kept.1 k below old),
          grown_attached nodes paths dir n p.0 name kept.0 kept.2 (steps nodes paths l) named may.in_dir at free bare apart,
        );
        is = view;
      }

pub linked-tree : (nodes : List Inode) (tree : Hierarchy) (dir n : ℕ) (name : Text) → IsTree nodes tree → is_name name ≡ true → MayHold tree dir name → child tree dir name ≡ None → is_there (node tree n) ≡ true → is_dir (node tree n) ≡ false → is_there (path_of tree dir) ≡ true → IsTree (change (with_name name n) nodes dir) (linked tree dir name n)
linked-tree nodes tree dir n name t named = over nodes tree t (λ h. MayHold h dir name → child h dir name ≡ None → is_there (node h n) ≡ true → is_dir (node h n) ≡ false → is_there (path_of h dir) ≡ true → IsTree (change (with_name name n) nodes dir) (linked h dir name n))
    (linked_core nodes t.paths t.leads t.kept dir n name named)

pub linked-nowhere : (tree : Hierarchy) (dir n : ℕ) (name : Text) → is_there (path_of tree dir) ≡ false → tree ≡ linked tree dir name n
unfolding linked
linked-nowhere tree dir n name has = ap (λ (o : Option Text). record { paths = with_path o (λ p. insert tree.paths (join p name) n) tree.paths; nodes = tree.nodes }) (sym (not_there (path_of tree dir) has))

-- A node more.

get_other : (xs : List Node) (y : Node) (k : ℕ) → (k ≡ length xs → ⊥) → slice_get (xs ++ y ∷ []) k ≡ slice_get xs k
get_other [] y zero apart = absurd (apart refl)
get_other [] y (suc k) apart = refl
get_other (x ∷ xs) y zero apart = refl
get_other (x ∷ xs) y (suc k) apart = get_other xs y k (λ e. apart (ap suc e))

past_bare : (nodes : List Inode) (n : ℕ) (x : Text) → n ≡ length nodes → under nodes n x ≡ None
past_bare nodes n x e = ap (λ (k : ℕ). under nodes k x) e ∙ at_end nodes where
  at_end : (ns : List Inode) → under ns (length ns) x ≡ None
  at_end [] = get-empty text_cmp x
  at_end (y ∷ ns) = at_end ns

dir_place : (it : Node) (dir : ℕ) (name : Text) → is_dir (Some it) ≡ true → place_of it dir name ≡ Some (dir, name)
dir_place (File mode content) dir name d = cc
dir_place (Dir mode) dir name d = refl
dir_place (Link text) dir name d = cc

last_entry : (xs : List Node) (y : Node) (k : ℕ) → k ≡ length xs → is_dir (slice_get (xs ++ y ∷ []) k) ≡ true → is_dir (Some y) ≡ true
last_entry xs y k e d = sym (ap is_dir (get-last xs y)) ∙ ap (λ (j : ℕ). is_dir (slice_get (xs ++ y ∷ []) j)) (sym e) ∙ d

module _ (nodes : List Inode) (paths : Paths) (l : Leads nodes paths) (kept : Kept paths nodes) (new : Inode) (none : new.names ≡ empty) (fits : IsFit new.node) where
  abbrev more : List Inode
  more = nodes ++ new ∷ []

  more_view : hierarchy_of paths more ≡ with_node (hierarchy_of paths nodes) new.node
  more_view = ap (λ (es : List Node). record { paths = paths; nodes = es }) (entries-more nodes new)

  more_whole : IsWhole (hierarchy_of paths more)
  more_whole = subst IsWhole (sym more_view) (more-whole (hierarchy_of paths nodes) new.node kept.0 fits)

  more_steps : Steps more paths
  more_steps = steps-same nodes more paths (λ k x. under-more nodes new k x none) (steps nodes paths l)

  more_attached : AreAttached paths more
  more_attached d x m on = kept.2 d x m (sym (under-more nodes new d x none) ∙ on)

  last_nowhere : (k : ℕ) (q : Text) → k ≡ length nodes → get paths q ≡ Some k → ⊥
  last_nowhere k q e at = new_nowhere (hierarchy_of paths nodes) kept.0 q k (e ∙ sym (length-entries nodes)) at

  -- an old node has its place
  old_place : (k : ℕ) → (k ≡ top → ⊥) → (k ≡ length nodes → ⊥) → is_dir (slice_get (nodes_of more) k) ≡ true → place_in (slice_get more k) ≡ place_in (slice_get nodes k) → IsPlace paths k (place_in (slice_get more k))
  old_place k below other d same = subst (λ (p : Option (ℕ × Text)). IsPlace paths k p) (sym same)
      (kept.1 k below (ap is_dir (sym (ap (λ (es : List Node). slice_get es k) (entries-more nodes new) ∙ get_other (nodes_of nodes) new.node k (λ e. other (e ∙ length-entries nodes)))) ∙ d))

  last_dir : (k : ℕ) → k ≡ length nodes → is_dir (slice_get (nodes_of more) k) ≡ true → is_dir (Some new.node) ≡ true
  last_dir k e d = last_entry (nodes_of nodes) new.node k (e ∙ sym (length-entries nodes)) (sym (ap (λ (es : List Node). is_dir (slice_get es k)) (entries-more nodes new)) ∙ d)

  -- a node that stands nowhere
  pub lost_core : new.place ≡ None → IsTree more (with_node (hierarchy_of paths nodes) new.node)
  lost_core nowhere = record {
    paths = paths;
    leads = leads more paths more_whole more_steps;
    kept = (
      more_whole,
      λ k below d. elim (place-more nodes new k) [
        | inl old ↦ old_place k below old.0 d old.1
        | inr here ↦ subst (λ (p : Option (ℕ × Text)). IsPlace paths k p) (sym (here.1 ∙ nowhere)) (λ q at. last_nowhere k q here.0 at)
      ],
      more_attached,
    );
    is = more_view;
  }

added_there : (tree : Hierarchy) (dir : ℕ) (path name : Text) (it : Node) → path_of tree dir ≡ Some path → added tree dir name it ≡ record { paths = insert tree.paths (join path name) (length tree.nodes); nodes = tree.nodes ++ it ∷ [] }
unfolding added
added_there tree dir path name it at = ap (λ (h : Hierarchy). record { paths = h.paths; nodes = tree.nodes ++ it ∷ [] }) (linked_there tree dir (length tree.nodes) path name at)

module _ (nodes : List Inode) (paths : Paths) (l : Leads nodes paths) (kept : Kept paths nodes) (dir : ℕ) (name : Text) (it : Node) where
  abbrev base : Hierarchy
  base = hierarchy_of paths nodes

  abbrev wider : List Inode
  wider = nodes ++ placed dir name it ∷ []

  abbrev count : ℕ
  count = length nodes

  added_core : is_name name ≡ true → MayHold base dir name → child base dir name ≡ None → IsFit it → is_there (path_of base dir) ≡ true → IsTree (change (with_name name count) wider dir) (added base dir name it)
  added_core named may absent fits has =
      let p = there_is (path_of base dir) has in
      let at = path_stands base dir p.0 p.1 in
      let free : get paths (join p.0 name) ≡ None = sym (child_at base dir p.0 name named p.1) ∙ absent in
      let wide_whole = more_whole nodes paths l kept (placed dir name it) refl fits in
      let wide_steps = more_steps nodes paths l kept (placed dir name it) refl fits in
      let wide_attached = more_attached nodes paths l kept (placed dir name it) refl fits in
      let in_dir : is_dir (slice_get (nodes_of wider) dir) ≡ true =
      let d = dir_node (node base dir) may.in_dir in
      ap (λ (es : List Node). is_dir (slice_get es dir)) (entries-more nodes (placed dir name it)) ∙ ap is_dir (get-more (nodes_of nodes) it dir d.0 d.1) ∙ sym (ap is_dir d.1) ∙ may.in_dir in
      let bare : (x : Text) → under wider count x ≡ None = λ x. under-more nodes (placed dir name it) count x refl ∙ past_bare nodes count x refl in
      let apart : count ≡ dir → ⊥ = λ e. last_nowhere nodes paths l kept (placed dir name it) refl fits dir p.0 (sym e) at in
      let view : hierarchy_of (insert paths (join p.0 name) count) (change (with_name name count) wider dir) ≡ added base dir name it =
      ap (λ (es : List Node). record { paths = insert paths (join p.0 name) count; nodes = es }) (entries-change (with_name name count) wider dir (λ x. refl) ∙ entries-more nodes (placed dir name it))
      ∙ ap (λ (k : ℕ). record { paths = insert paths (join p.0 name) k; nodes = nodes_of nodes ++ it ∷ [] }) (sym (length-entries nodes)) ∙ sym (added_there base dir p.0 name it p.1) in
      let whole : IsWhole (hierarchy_of (insert paths (join p.0 name) count) (change (with_name name count) wider dir)) = subst IsWhole (sym view) (added-whole base dir name it kept.0 named may absent fits) in
      record {
        paths = insert paths (join p.0 name) count;
        leads = leads (change (with_name name count) wider dir) (insert paths (join p.0 name) count) whole (grown_steps wider paths dir count p.0 name wide_whole wide_attached wide_steps named in_dir at free bare apart);
        kept = (
          whole,
          λ k below d.
              let old : is_dir (slice_get (nodes_of wider) k) ≡ true = ap (λ (es : List Node). is_dir (slice_get es k)) (sym (entries-change (with_name name count) wider dir (λ x. refl))) ∙ d in
              elim (place-more nodes (placed dir name it) k) [
                | inl other ↦ grown_place wider paths dir count p.0 name wide_whole wide_attached wide_steps named in_dir at free bare apart k other.0 (old_place nodes paths l kept (placed dir name it) refl fits k below other.0 old other.1)
                | inr here ↦ subst (λ (q : Option (ℕ × Text)). IsPlace (insert paths (join p.0 name) count) k q)
                    (sym (place-change (with_name name count) wider dir k (λ x. refl) ∙ here.1 ∙ dir_place it dir name (last_dir nodes paths l kept (placed dir name it) refl fits k here.0 old)))
                    (named, p.0, path_stays paths (join p.0 name) count dir free p.0 at, insert_here paths (join p.0 name) count ∙ ap (λ (j : ℕ). Some j) (sym here.0))
              ],
          grown_attached wider paths dir count p.0 name wide_whole wide_attached wide_steps named in_dir at free bare apart,
        );
        is = view;
      }

pub added-tree : (nodes : List Inode) (tree : Hierarchy) (dir : ℕ) (name : Text) (it : Node) → IsTree nodes tree → is_name name ≡ true → MayHold tree dir name → child tree dir name ≡ None → IsFit it → is_there (path_of tree dir) ≡ true → IsTree (change (with_name name (length nodes)) (nodes ++ placed dir name it ∷ []) dir) (added tree dir name it)
added-tree nodes tree dir name it t named = over nodes tree t (λ h. MayHold h dir name → child h dir name ≡ None → IsFit it → is_there (path_of h dir) ≡ true → IsTree (change (with_name name (length nodes)) (nodes ++ placed dir name it ∷ []) dir) (added h dir name it))
    (added_core nodes t.paths t.leads t.kept dir name it named)

added_nowhere : (tree : Hierarchy) (dir : ℕ) (name : Text) (it : Node) → path_of tree dir ≡ None → with_node tree it ≡ added tree dir name it
unfolding added linked
added_nowhere tree dir name it at = sym (ap (λ (o : Option Text). record { paths = with_path o (λ p. insert tree.paths (join p name) (length tree.nodes)) tree.paths; nodes = tree.nodes ++ it ∷ [] }) at)

pub lost-tree : (nodes : List Inode) (tree : Hierarchy) (dir : ℕ) (name : Text) (it : Node) → IsTree nodes tree → IsFit it → is_there (path_of tree dir) ≡ false → IsTree (nodes ++ lost it ∷ []) (added tree dir name it)
lost-tree nodes tree dir name it t fits has = subst (λ (h : Hierarchy). IsTree (nodes ++ lost it ∷ []) h) (added_nowhere tree dir name it (not_there (path_of tree dir) has))
    (over nodes tree t (λ h. IsTree (nodes ++ lost it ∷ []) (with_node h it)) (lost_core nodes t.paths t.leads t.kept (lost it) refl fits refl))
