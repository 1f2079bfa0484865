-- What an import puts in its snapshot.
use Rattle.std.proofs.Common.{◌≡◌, ◌⊎◌, inl, inr, ℕ, List, [], ◌∷◌, ◌++◌, Bool, true, false, ◌&&◌, ◌||◌, Option, Some, None, option_map, arith, refl, sym, ap, subst, ◌∙◌, cond}
use Rattle.std.specs.List.{filter_map, list_any, cons_option}
use Rattle.std.specs.Option.{option_and_then}
use Rattle.std.specs.Cmp.Lexicographic.{nat_list_cmp_total}
use Rattle.std.specs.FinMap.{empty, entries, find, get, get-empty, get-entries, get-insert, insert}
use Rattle.rk_base.specs.Text.{Text, text_cmp, root, join, parent, name_of, is_in, is_within}
use Rattle.rk_base.specs.Canonical.{is_canonical, is_name}
use Rattle.rk_base.proofs.CanonicalLemmas.{either, root-canonical, join-canonical}
use Rattle.rk_base.proofs.PathLemmas.{join-is_in, parent-join}
use Rattle.rk_tree.proofs.TextLemmas.{ties_itself, parent-root, root_seen}
use Rattle.rk_tree.specs.Rows.{map_of}
use Rattle.rk_tree.proofs.RowsLemmas.{row_at, get-map_of, same_maps}
use Rattle.rk_tree.specs.Entries as tree
use Rattle.rk_tree.specs.Entries.{Entries, IsFit, IsWholeSnapshot}
use Rattle.rk_tree.specs.Node.{Node as Entry}
use Rattle.rk_tree.specs.Node as entry
use Rattle.rk_tree.specs.declared.content.Content.TheVariants.{Unread}
use Rattle.rk_folder.specs.Told.{Held, standing, is_nothing, is_file, is_dir, item_in, item_of, items_of, odd_in, is_odd}
use Rattle.rk_folder.specs.Whole.{IsWhole}
use Rattle.rk_folder.specs.Hidden.{hidden_dir}
use Rattle.rk_folder.specs.Import.{listed_entry, listed_of}
use Rattle.rk_folder.specs.Steps.{with_entry, with_entries, row_within, with_within, with_item, with_items, root_entry}
use Rattle.rk_folder.specs.declared.folder.Item.{Item}
use Rattle.rk_folder.specs.declared.folder.Item.TheVariants as item
use Rattle.rk_folder.specs.declared.folder.Standing.{Standing}
use Rattle.rk_folder.specs.declared.folder.Standing.TheVariants.{File, Dir, Special}
use Rattle.rk_folder.proofs.HeldLemmas.{same_path, one_path}
use Rattle.rk_folder.proofs.ListingLemmas.{EachStands, each_stands, row_path, onto}
use Rattle.rk_folder.proofs.FirstLemmas.{clash}
use Rattle.rk_folder.proofs.WithinLemmas.{within-itself, within-root}
use Rattle.rk_folder.proofs.SpecialLemmas.{in_rows, in_rows-within, below-listed, within-file}

get-put : (snapshot : Entries) (path : Text) (it : Entry) (q : Text) → get (insert snapshot path it) q ≡ cond (same_path q path) (Some it) (get snapshot q)
get-put snapshot path it q = get-insert nat_list_cmp_total snapshot path it q

-- A directory that stands is kept, and what is new goes before anything else.

abbrev kept : Option Entry → Option Entry → Option Entry
kept old new = cond (tree.is_dir old) old new

abbrev upon : Option Entry → Option Entry → Option Entry
upon None old = old
upon (Some it) old = Some it

kept-same : (g : Option Entry) → kept g g ≡ g
kept-same g = elim (tree.is_dir g) as (λ (b : Bool). cond b g g ≡ g) [ true ↦ refl | false ↦ refl ]

twice_some : (it : Entry) (h : Bool) → kept (Some it) (cond h (Some it) (Some it)) ≡ Some it
twice_some (entry.File mode bytes) true = refl
twice_some (entry.File mode bytes) false = refl
twice_some (entry.Dir mode) h = refl
twice_some (entry.Link text) true = refl
twice_some (entry.Link text) false = refl

twice : (g : Option Entry) (it : Entry) (h : Bool) → kept (kept g (Some it)) (cond h (Some it) (kept g (Some it))) ≡ kept g (Some it)
twice None it h = twice_some it h
twice (Some (entry.File mode bytes)) it h = twice_some it h
twice (Some (entry.Dir mode)) it h = refl
twice (Some (entry.Link text)) it h = twice_some it h

entry_at : (s g o : Bool) (a b : Option Entry) → (s ≡ true → o ≡ g) → cond o b (cond s a b) ≡ cond g b (cond s a b)
entry_at true g o a b same = ap (λ (c : Bool). cond c b a) (same refl)
entry_at false true true a b same = refl
entry_at false true false a b same = refl
entry_at false false true a b same = refl
entry_at false false false a b same = refl

get-choice : (b : Bool) (snapshot other : Entries) (q : Text) → get (cond b snapshot other) q ≡ cond b (get snapshot q) (get other q)
get-choice true snapshot other q = refl
get-choice false snapshot other q = refl

pub get-with_entry : (path : Text) (it : Entry) (snapshot : Entries) (q : Text) → get (with_entry path it snapshot) q ≡ kept (get snapshot q) (cond (same_path q path) (Some it) (get snapshot q))
unfolding with_entry
get-with_entry path it snapshot q =
    get-choice (tree.is_dir (get snapshot path)) snapshot (insert snapshot path it) q
    ∙ ap (cond (tree.is_dir (get snapshot path)) (get snapshot q)) (get-put snapshot path it q)
    ∙ entry_at (same_path q path) (tree.is_dir (get snapshot q)) (tree.is_dir (get snapshot path)) (Some it) (get snapshot q) (λ e. ap (λ (p : Text). tree.is_dir (get snapshot p)) (sym (one_path q path e)))

-- The snapshot by what stands at each path.

abbrev pub entry_at_path : Text → Option Standing → Option Entry
entry_at_path q o = cond (is_within hidden_dir q) None (option_and_then (listed_entry q) o)

entry_none : (q : Text) → entry_at_path q None ≡ None
entry_none q = elim (is_within hidden_dir q) as (λ (b : Bool). cond b None (option_and_then (listed_entry q) None) ≡ None) [ true ↦ refl | false ↦ refl ]

abbrev seen_in : Text → Text → Option Standing → Option Entry
seen_in dir q o = cond (is_within dir q) (entry_at_path q o) None

none_both : {X : Type 0} (b : Bool) (i : Option X) → i ≡ None → cond b i None ≡ None
none_both true i h = h
none_both false i h = refl

abbrev has : Text → List (Text × Standing) → Bool
has q rows = list_any (λ row. same_path q row.0) rows

not_had : (q : Text) (rows : List (Text × Standing)) → has q rows ≡ false → find text_cmp q rows ≡ None
not_had q [] h = refl
not_had q (row ∷ rows) h =
    let e = either (same_path q row.0) (has q rows) h in
    ap (λ (b : Bool). cond b (Some row.1) (find text_cmp q rows)) e.0 ∙ not_had q rows e.1

-- no row here
skip_row : (g w : Option Entry) (s h : Bool) → (s ≡ true → w ≡ None) → kept g (cond h (upon w g) g) ≡ kept g (cond (s || h) (upon w g) g)
skip_row g w false h none = refl
skip_row g w true true none = refl
skip_row g w true false none = ap (λ (x : Option Entry). kept g (upon x g)) (sym (none refl))

-- a row here
take_row : (g w m : Option Entry) (it : Entry) (s h : Bool) → m ≡ kept g (cond s (Some it) g) → (s ≡ true → w ≡ Some it) → kept m (cond h (upon w m) m) ≡ kept g (cond (s || h) (upon w g) g)
take_row g w m it true h is at =
    ap (λ (x : Option Entry). kept x (cond h (upon w x) x)) is ∙ ap (λ (x : Option Entry). kept (kept g (Some it)) (cond h (upon x (kept g (Some it))) (kept g (Some it)))) (at refl)
    ∙ twice g it h ∙ ap (λ (x : Option Entry). kept g (upon x g)) (sym (at refl))
take_row g w m it false h is at = ap (λ (x : Option Entry). kept x (cond h (upon w x) x)) (is ∙ kept-same g)

row_here : (q dir k : Text) (it : Standing) (a b : Bool) → same_path q k ≡ true → is_within dir k ≡ a → is_within hidden_dir k ≡ b → seen_in dir q (Some it) ≡ cond a (cond b None (listed_entry k it)) None
row_here q dir k it a b s x y =
    let same = one_path q k s in
    ap (λ (c : Bool). cond c (entry_at_path q (Some it)) None) (ap (is_within dir) same ∙ x) ∙ ap (λ (c : Bool). cond a (cond c None (listed_entry q it)) None) (ap (is_within hidden_dir) same ∙ y) ∙ ap (λ (t : Text). cond a (cond b None (listed_entry t it)) None) same

lay_row : (q k : Text) (g w : Option Entry) (snapshot : Entries) (rest : List (Text × Entry)) (a b : Bool) (e : Option Entry) (h : Bool) → get snapshot q ≡ g → (same_path q k ≡ true → w ≡ cond a (cond b None e) None)
    → ((s : Entries) → get (with_entries rest s) q ≡ kept (get s q) (cond h (upon w (get s q)) (get s q)))
    → get (with_entries (cons_option (cond a (cond b None (option_map (λ it. (k, it)) e)) None) rest) snapshot) q ≡ kept g (cond (same_path q k || h) (upon w g) g)
lay_row q k g w snapshot rest false b e h is at so = so snapshot ∙ ap (λ (x : Option Entry). kept x (cond h (upon w x) x)) is ∙ skip_row g w (same_path q k) h at
lay_row q k g w snapshot rest true true e h is at so = so snapshot ∙ ap (λ (x : Option Entry). kept x (cond h (upon w x) x)) is ∙ skip_row g w (same_path q k) h at
lay_row q k g w snapshot rest true false None h is at so = so snapshot ∙ ap (λ (x : Option Entry). kept x (cond h (upon w x) x)) is ∙ skip_row g w (same_path q k) h at
lay_row q k g w snapshot rest true false (Some it) h is at so =
    so (with_entry k it snapshot) ∙ take_row g w (get (with_entry k it snapshot) q) it (same_path q k) h (get-with_entry k it snapshot q ∙ ap (λ (x : Option Entry). kept x (cond (same_path q k) (Some it) x)) is) at

lay_rows : (held : Held) (dir q : Text) (rows : List (Text × Standing)) → EachStands (standing held) rows → (snapshot : Entries) → get (with_entries (filter_map (row_within dir) rows) snapshot) q ≡ kept (get snapshot q) (cond (has q rows) (upon (seen_in dir q (standing held q)) (get snapshot q)) (get snapshot q))
lay_rows held dir q [] each snapshot = sym (kept-same (get snapshot q))
lay_rows held dir q (row ∷ rows) each snapshot =
    lay_row q row.0 (get snapshot q) (seen_in dir q (standing held q)) snapshot (filter_map (row_within dir) rows) (is_within dir row.0) (is_within hidden_dir row.0) (listed_entry row.0 row.1) (has q rows) refl
    (λ s. ap (seen_in dir q) (ap (standing held) (one_path q row.0 s) ∙ each.0) ∙ row_here q dir row.0 row.1 (is_within dir row.0) (is_within hidden_dir row.0) s refl refl)
    (lay_rows held dir q rows each.1)

pub get-within : (held : Held) (dir : Text) (snapshot : Entries) (q : Text) → get (with_within held dir snapshot) q ≡ kept (get snapshot q) (upon (seen_in dir q (standing held q)) (get snapshot q))
unfolding with_within
get-within held dir snapshot q =
    lay_rows held dir q (entries held.places) (each_stands held) snapshot
    ∙ (elim (has q (entries held.places)) as (λ (b : Bool). has q (entries held.places) ≡ b → kept (get snapshot q) (cond b (upon (seen_in dir q (standing held q)) (get snapshot q)) (get snapshot q)) ≡ kept (get snapshot q) (upon (seen_in dir q (standing held q)) (get snapshot q))) [
      | true ↦ λ e. refl
      | false ↦ λ e.
          let gone : standing held q ≡ None = get-entries held.places q ∙ not_had q (entries held.places) e in
          ap (λ (x : Option Entry). kept (get snapshot q) (upon x (get snapshot q))) (sym (ap (seen_in dir q) gone ∙ none_both (is_within dir q) (entry_at_path q None) (entry_none q)))
    ] refl)

-- By items.

abbrev at_item : Text → Text → Item → Bool
at_item dir q (item.File name) = is_within (join dir name) q
at_item dir q (item.Dir name) = is_within (join dir name) q
at_item dir q (item.Special name) = is_within (join dir name) q
at_item dir q item.Odd = false

kept_again : (g i : Option Entry) (a : Bool) → kept (kept g (upon i g)) (upon (cond a i None) (kept g (upon i g))) ≡ kept g (upon i g)
kept_again g None true = ap (λ (x : Option Entry). kept x x) (kept-same g)
kept_again g None false = ap (λ (x : Option Entry). kept x x) (kept-same g)
kept_again g (Some it) true = twice g it true
kept_again g (Some it) false = twice g it false

one_item : (g i m : Option Entry) (w a : Bool) → m ≡ kept g (upon (cond w i None) g) → kept m (upon (cond a i None) m) ≡ kept g (upon (cond (w || a) i None) g)
one_item g i m true a is = ap (λ (x : Option Entry). kept x (upon (cond a i None) x)) is ∙ kept_again g i a
one_item g i m false a is = ap (λ (x : Option Entry). kept x (upon (cond a i None) x)) (is ∙ kept-same g)

get-item : (held : Held) (dir : Text) (snapshot : Entries) (it : Item) (q : Text) → get (with_item held dir snapshot it) q ≡ kept (get snapshot q) (upon (cond (at_item dir q it) (entry_at_path q (standing held q)) None) (get snapshot q))
get-item held dir snapshot (item.File name) q = get-within held (join dir name) snapshot q
get-item held dir snapshot (item.Dir name) q = get-within held (join dir name) snapshot q
get-item held dir snapshot (item.Special name) q = get-within held (join dir name) snapshot q
get-item held dir snapshot item.Odd q = sym (kept-same (get snapshot q))

get-items : (held : Held) (dir : Text) (snapshot : Entries) (items : List Item) (q : Text) → get (with_items held dir snapshot items) q ≡ kept (get snapshot q) (upon (cond (list_any (at_item dir q) items) (entry_at_path q (standing held q)) None) (get snapshot q))
get-items held dir snapshot [] q = sym (kept-same (get snapshot q))
get-items held dir snapshot (it ∷ its) q =
    get-items held dir (with_item held dir snapshot it) its q
    ∙ one_item (get snapshot q) (entry_at_path q (standing held q)) (get (with_item held dir snapshot it) q) (at_item dir q it) (list_any (at_item dir q) its) (get-item held dir snapshot it q)

at_row : (dir q name : Text) (it : Standing) → at_item dir q (item_of name it) ≡ is_within (join dir name) q
at_row dir q name (File bytes) = refl
at_row dir q name Dir = refl
at_row dir q name Special = refl

at_odd : (dir q : Text) (b : Bool) → list_any (at_item dir q) (cond b (item.Odd ∷ []) []) ≡ false
at_odd dir q true = refl
at_odd dir q false = refl

item_row : (held : Held) (dir q : Text) (b : Bool) (row : Text × Standing) (its : List Item) → IsWhole held → standing held row.0 ≡ Some row.1 → is_in dir row.0 ≡ b → list_any (at_item dir q) (cons_option (cond b (Some (item_of (name_of row.0) row.1)) None) its) ≡ ((b && is_within row.0 q) || list_any (at_item dir q) its)
item_row held dir q true row its whole at here =
    ap (λ (b : Bool). b || list_any (at_item dir q) its) (at_row dir q (name_of row.0) row.1 ∙ ap (λ (t : Text). is_within t q) (join-is_in dir row.0 (row_path held row.0 row.1 whole at) here).0)
item_row held dir q false row its whole at here = refl

items-rows : (held : Held) (dir q : Text) (rows : List (Text × Standing)) → IsWhole held → EachStands (standing held) rows → list_any (at_item dir q) (filter_map (item_in dir) rows ++ odd_in held.odd dir) ≡ in_rows dir rows q
unfolding in_rows
items-rows held dir q [] whole each = at_odd dir q (is_odd dir held.odd)
items-rows held dir q (row ∷ rows) whole each =
    ap (list_any (at_item dir q)) (onto (item_in dir row) (filter_map (item_in dir) rows) (odd_in held.odd dir))
    ∙ item_row held dir q (is_in dir row.0) row (filter_map (item_in dir) rows ++ odd_in held.odd dir) whole each.0 refl
    ∙ ap (λ (b : Bool). (is_in dir row.0 && is_within row.0 q) || b) (items-rows held dir q rows whole each.1)

-- what is within a directory is what is within its items
both_same : (a b : Bool) → (a ≡ true → b ≡ true) → (b ≡ true → a ≡ true) → a ≡ b
both_same true b f g = sym (f refl)
both_same false true f g = g refl
both_same false false f g = refl

dir_kept : (g a b : Option Entry) → tree.is_dir g ≡ true → kept g a ≡ kept g b
dir_kept g a b d = ap (λ (c : Bool). cond c g a) d ∙ sym (ap (λ (c : Bool). cond c g b) d)

pub within-items : (held : Held) (dir : Text) (snapshot : Entries) → IsWhole held → is_canonical dir ≡ true → tree.is_dir (get snapshot dir) ≡ true → with_items held dir snapshot (items_of held dir) ≡ with_within held dir snapshot
within-items held dir snapshot whole c d = same_maps _ _ (λ q.
    get-items held dir snapshot (items_of held dir) q
    ∙ ap (λ (b : Bool). kept (get snapshot q) (upon (cond b (entry_at_path q (standing held q)) None) (get snapshot q))) (items-rows held dir q (entries held.places) whole (each_stands held))
    ∙ (elim (same_path q dir) as (λ (b : Bool). same_path q dir ≡ b → kept (get snapshot q) (upon (cond (in_rows dir (entries held.places) q) (entry_at_path q (standing held q)) None) (get snapshot q)) ≡ kept (get snapshot q) (upon (seen_in dir q (standing held q)) (get snapshot q))) [
      | true ↦ λ e. dir_kept (get snapshot q) _ _ (ap (λ (t : Text). tree.is_dir (get snapshot t)) (one_path q dir e) ∙ d)
      | false ↦ λ e. ap (λ (x : Option Entry). kept (get snapshot q) (upon x (get snapshot q))) (elim (standing held q) as (λ (o : Option Standing). standing held q ≡ o → cond (in_rows dir (entries held.places) q) (entry_at_path q o) None ≡ seen_in dir q o) [
        | None ↦ λ none. none_both (in_rows dir (entries held.places) q) (entry_at_path q None) (entry_none q) ∙ sym (none_both (is_within dir q) (entry_at_path q None) (entry_none q))
        | Some it ↦ λ at. ap (λ (b : Bool). cond b (entry_at_path q (Some it)) None) (both_same (in_rows dir (entries held.places) q) (is_within dir q)
            (in_rows-within held dir q (entries held.places) whole (each_stands held))
            (λ h. elim (below-listed held dir q whole c h (ap is_nothing at)) [
              | inl same ↦ absurd (clash _ (ap (λ (t : Text). same_path t dir) same ∙ ties_itself dir) e)
              | inr some ↦ some
            ]))
      ] refl)
    ] refl)
    ∙ sym (get-within held dir snapshot q))

-- a file
pub within-one : (held : Held) (path bytes : Text) (snapshot : Entries) → IsWhole held → is_within hidden_dir path ≡ false → standing held path ≡ Some (File bytes) → with_entry path (entry.File 420 (Unread path)) snapshot ≡ with_within held path snapshot
within-one held path bytes snapshot whole seen file = same_maps _ _ (λ q.
    get-with_entry path (entry.File 420 (Unread path)) snapshot q
    ∙ ap (kept (get snapshot q)) (elim (same_path q path) as (λ (b : Bool). same_path q path ≡ b → cond b (Some (entry.File 420 (Unread path))) (get snapshot q) ≡ upon (seen_in path q (standing held q)) (get snapshot q)) [
      | true ↦ λ e.
          let same = one_path q path e in
          ap (λ (x : Option Entry). upon x (get snapshot q)) (sym (
          ap (λ (t : Text). seen_in path t (standing held t)) same ∙ ap (λ (b : Bool). cond b (entry_at_path path (standing held path)) None) (within-itself path)
          ∙ ap (entry_at_path path) file ∙ ap (λ (b : Bool). cond b None (Some (entry.File 420 (Unread path)))) seen))
      | false ↦ λ e. ap (λ (x : Option Entry). upon x (get snapshot q)) (sym (elim (standing held q) as (λ (o : Option Standing). standing held q ≡ o → seen_in path q o ≡ None) [
        | None ↦ λ none. none_both (is_within path q) (entry_at_path q None) (entry_none q)
        | Some it ↦ λ at. elim (is_within path q) as (λ (b : Bool). is_within path q ≡ b → cond b (entry_at_path q (Some it)) None ≡ None) [
          | true ↦ λ h. absurd (clash _ (ap (λ (t : Text). same_path t path) (within-file held path q whole (ap is_file file) h (ap is_nothing at)) ∙ ties_itself path) e)
          | false ↦ λ h. refl
        ] refl
      ] refl))
    ] refl)
    ∙ sym (get-within held path snapshot q))

-- a directory that was put before
pub within-with_entry : (held : Held) (path : Text) (snapshot : Entries) → is_within hidden_dir path ≡ false → standing held path ≡ Some Dir → with_within held path (with_entry path (entry.Dir 493) snapshot) ≡ with_within held path snapshot
within-with_entry held path snapshot seen dir = same_maps _ _ (λ q.
    get-within held path (with_entry path (entry.Dir 493) snapshot) q
    ∙ ap (λ (x : Option Entry). kept x (upon (seen_in path q (standing held q)) x)) (get-with_entry path (entry.Dir 493) snapshot q)
    ∙ (elim (same_path q path) as (λ (b : Bool). same_path q path ≡ b → kept (kept (get snapshot q) (cond b (Some (entry.Dir 493)) (get snapshot q))) (upon (seen_in path q (standing held q)) (kept (get snapshot q) (cond b (Some (entry.Dir 493)) (get snapshot q)))) ≡ kept (get snapshot q) (upon (seen_in path q (standing held q)) (get snapshot q))) [
      | true ↦ λ e.
          let same = one_path q path e in
          let is : seen_in path q (standing held q) ≡ Some (entry.Dir 493) =
          ap (λ (t : Text). seen_in path t (standing held t)) same ∙ ap (λ (b : Bool). cond b (entry_at_path path (standing held path)) None) (within-itself path)
          ∙ ap (entry_at_path path) dir ∙ ap (λ (b : Bool). cond b None (Some (entry.Dir 493))) seen in
          ap (λ (w : Option Entry). kept (kept (get snapshot q) (Some (entry.Dir 493))) (upon w (kept (get snapshot q) (Some (entry.Dir 493))))) is
          ∙ twice (get snapshot q) (entry.Dir 493) true ∙ ap (λ (w : Option Entry). kept (get snapshot q) (upon w (get snapshot q))) (sym is)
      | false ↦ λ e. ap (λ (x : Option Entry). kept x (upon (seen_in path q (standing held q)) x)) (kept-same (get snapshot q))
    ] refl)
    ∙ sym (get-within held path snapshot q))

-- nothing of the hidden directory
pub within-hidden : (held : Held) (snapshot : Entries) → snapshot ≡ with_within held hidden_dir snapshot
within-hidden held snapshot = same_maps _ _ (λ q.
    sym (get-within held hidden_dir snapshot q
    ∙ ap (λ (w : Option Entry). kept (get snapshot q) (upon w (get snapshot q))) (elim (is_within hidden_dir q) as (λ (b : Bool). cond b (cond b None (option_and_then (listed_entry q) (standing held q))) None ≡ None) [ true ↦ refl | false ↦ refl ])
    ∙ kept-same (get snapshot q)))

-- The whole folder.

alike : {X : Type 0} (b : Bool) (w : Option X) → (b ≡ false → w ≡ None) → cond b w None ≡ w
alike true w h = refl
alike false w h = sym (h refl)

head_row : {X : Type 0} (q k : Text) (more : List (Text × X)) (h : Bool) (w : Option X) (b : Bool) (e : Option X) → same_path q k ≡ true → w ≡ cond b None e → row_at more q ≡ cond h w None → row_at (cons_option (cond b None (option_map (λ it. (k, it)) e)) more) q ≡ w
head_row q k more h w true e s is rest = rest ∙ none_both h w is ∙ sym is
head_row q k more h w false None s is rest = rest ∙ none_both h w is ∙ sym is
head_row q k more h w false (Some it) s is rest = ap (λ (c : Bool). cond c (Some it) (row_at more q)) s ∙ sym is

other_row : {X : Type 0} (q k : Text) (more : List (Text × X)) (b : Bool) (e : Option X) → same_path q k ≡ false → row_at (cons_option (cond b None (option_map (λ it. (k, it)) e)) more) q ≡ row_at more q
other_row q k more true e s = refl
other_row q k more false None s = refl
other_row q k more false (Some it) s = ap (λ (c : Bool). cond c (Some it) (row_at more q)) s

-- what rows have that are made of what stands at each path, but where they are left out
module _ {X : Type 0} (out : Text → Bool) (make : Text → Standing → Option X) where
  abbrev made_row : Text × Standing → Option (Text × X)
  made_row row = cond (out row.0) None (option_map (λ it. (row.0, it)) (make row.0 row.1))

  abbrev made_at : Text → Option Standing → Option X
  made_at q o = cond (out q) None (option_and_then (make q) o)

  made_none : (q : Text) → made_at q None ≡ None
  made_none q = elim (out q) as (λ (b : Bool). cond b None (option_and_then (make q) None) ≡ None) [ true ↦ refl | false ↦ refl ]

  made_rows : (held : Held) (q : Text) (rows : List (Text × Standing)) → EachStands (standing held) rows → row_at (filter_map made_row rows) q ≡ cond (has q rows) (made_at q (standing held q)) None
  made_rows held q [] each = refl
  made_rows held q (row ∷ rows) each =
      let rest = made_rows held q rows each.1 in
      elim (same_path q row.0) as (λ (b : Bool). same_path q row.0 ≡ b → row_at (filter_map made_row (row ∷ rows)) q ≡ cond (b || has q rows) (made_at q (standing held q)) None) [
        | true ↦ λ s.
            let here : standing held q ≡ Some row.1 = ap (standing held) (one_path q row.0 s) ∙ each.0 in
            head_row q row.0 (filter_map made_row rows) (has q rows) (made_at q (standing held q)) (out row.0) (make row.0 row.1) s
            (ap (made_at q) here ∙ ap (λ (p : Text). cond (out p) None (make p row.1)) (one_path q row.0 s)) rest
        | false ↦ λ s. other_row q row.0 (filter_map made_row rows) (out row.0) (make row.0 row.1) s ∙ rest
      ] refl

  pub get-made : (held : Held) (q : Text) → get (map_of (filter_map made_row (entries held.places))) q ≡ made_at q (standing held q)
  get-made held q =
      get-map_of (filter_map made_row (entries held.places)) q ∙ made_rows held q (entries held.places) (each_stands held)
      ∙ alike (has q (entries held.places)) (made_at q (standing held q)) (λ e. ap (made_at q) (get-entries held.places q ∙ not_had q (entries held.places) e) ∙ made_none q)

pub get-listed_of : (held : Held) (q : Text) → get (listed_of held) q ≡ entry_at_path q (standing held q)
get-listed_of held q = get-made (is_within hidden_dir) listed_entry held q

-- the root with nothing in it
pub get-root_entry : (q : Text) → get root_entry q ≡ cond (same_path q root) (Some (entry.Dir 493)) None
get-root_entry q = get-put empty root (entry.Dir 493) q ∙ ap (cond (same_path q root) (Some (entry.Dir 493))) (get-empty text_cmp q)

pub dir_is : (o : Option Standing) → is_dir o ≡ true → o ≡ Some Dir
dir_is None h = cc
dir_is (Some (File bytes)) h = cc
dir_is (Some Dir) h = refl
dir_is (Some Special) h = cc

upon_none : (i : Option Entry) → upon i None ≡ i
upon_none None = refl
upon_none (Some it) = refl

pub within-whole : (held : Held) → IsWhole held → with_within held root root_entry ≡ listed_of held
within-whole held whole = same_maps _ _ (λ q.
    get-within held root root_entry q
    ∙ ap (λ (x : Option Entry). kept x (upon (seen_in root q (standing held q)) x)) (get-root_entry q)
    ∙ (elim (same_path q root) as (λ (b : Bool). same_path q root ≡ b → kept (cond b (Some (entry.Dir 493)) None) (upon (seen_in root q (standing held q)) (cond b (Some (entry.Dir 493)) None)) ≡ entry_at_path q (standing held q)) [
      | true ↦ λ e.
          let same = one_path q root e in
          sym (ap (λ (t : Text). entry_at_path t (standing held t)) same ∙ ap (entry_at_path root) (dir_is (standing held root) whole.root_dir) ∙ ap (λ (b : Bool). cond b None (Some (entry.Dir 493))) root_seen)
      | false ↦ λ e. upon_none (seen_in root q (standing held q)) ∙ (elim (standing held q) as (λ (o : Option Standing). standing held q ≡ o → seen_in root q o ≡ entry_at_path q o) [
        | None ↦ λ none. none_both (is_within root q) (entry_at_path q None) (entry_none q) ∙ sym (entry_none q)
        | Some it ↦ λ at. ap (λ (b : Bool). cond b (entry_at_path q (Some it)) None) (within-root q (whole.paths q (ap is_nothing at)))
      ] refl)
    ] refl)
    ∙ sym (get-listed_of held q))

-- The snapshot is whole.

kept_dir : (g x : Option Entry) → tree.is_dir g ≡ true → tree.is_dir (kept g x) ≡ true
kept_dir g x d = ap (λ (c : Bool). tree.is_dir (cond c g x)) d ∙ d

pub with_entry-keeps : (path : Text) (it : Entry) (snapshot : Entries) (q : Text) → tree.is_dir (get snapshot q) ≡ true → tree.is_dir (get (with_entry path it snapshot) q) ≡ true
with_entry-keeps path it snapshot q d = ap tree.is_dir (get-with_entry path it snapshot q) ∙ kept_dir (get snapshot q) _ d

kept_new : (g : Option Entry) (mode : ℕ) → tree.is_dir (kept g (Some (entry.Dir mode))) ≡ true
kept_new None mode = refl
kept_new (Some (entry.File m bytes)) mode = refl
kept_new (Some (entry.Dir m)) mode = refl
kept_new (Some (entry.Link text)) mode = refl

pub with_entry-dir : (path : Text) (mode : ℕ) (snapshot : Entries) → tree.is_dir (get (with_entry path (entry.Dir mode) snapshot) path) ≡ true
with_entry-dir path mode snapshot =
    ap tree.is_dir (get-with_entry path (entry.Dir mode) snapshot path ∙ ap (λ (b : Bool). kept (get snapshot path) (cond b (Some (entry.Dir mode)) (get snapshot path))) (ties_itself path)) ∙ kept_new (get snapshot path) mode

same_entry : (a b : Entry) → Some a ≡ Some b → a ≡ b
same_entry a b h = cc

old_or_new : (g : Option Entry) (s : Bool) (it e : Entry) → kept g (cond s (Some it) g) ≡ Some e → (g ≡ Some e) ⊎ ((s ≡ true) × (it ≡ e))
old_or_new g s it e h = (elim (tree.is_dir g) as (λ (b : Bool). cond b g (cond s (Some it) g) ≡ Some e → (g ≡ Some e) ⊎ ((s ≡ true) × (it ≡ e))) [
  | true ↦ λ k. inl k
  | false ↦ λ k. (elim s as (λ (b : Bool). s ≡ b → cond b (Some it) g ≡ Some e → (g ≡ Some e) ⊎ ((s ≡ true) × (it ≡ e))) [
    | true ↦ λ t l. inr (t, same_entry it e l)
    | false ↦ λ t l. inl l
  ]) refl k
]) h

laid_cases : (path : Text) (it : Entry) (snapshot : Entries) (q : Text) (e : Entry) → get (with_entry path it snapshot) q ≡ Some e → (get snapshot q ≡ Some e) ⊎ ((q ≡ path) × (it ≡ e))
laid_cases path it snapshot q e at = elim (old_or_new (get snapshot q) (same_path q path) it e (sym (get-with_entry path it snapshot q) ∙ at)) [
  | inl old ↦ inl old
  | inr new ↦ inr (one_path q path new.0, new.1)
]

pub with_entry-whole : (snapshot : Entries) (dir name : Text) (it : Entry) → IsWholeSnapshot snapshot → tree.is_dir (get snapshot dir) ≡ true → is_canonical dir ≡ true → is_name name ≡ true → is_within hidden_dir (join dir name) ≡ false → IsFit it → IsWholeSnapshot (with_entry (join dir name) it snapshot)
with_entry-whole snapshot dir name it whole d c n seen fit =
    let path = join dir name in record {
      root_dir = with_entry-keeps path it snapshot root whole.root_dir;
      canonical = λ q e at. elim (laid_cases path it snapshot q e at) [
        | inl old ↦ whole.canonical q e old
        | inr new ↦ ap is_canonical new.0 ∙ join-canonical dir name c n
      ];
      placed = λ q e at. with_entry-keeps path it snapshot (parent q) (elim (laid_cases path it snapshot q e at) [
        | inl old ↦ whole.placed q e old
        | inr new ↦ ap (λ (t : Text). tree.is_dir (get snapshot t)) (ap parent new.0 ∙ parent-join dir name c n) ∙ d
      ]);
      unseen = λ q h. get-with_entry path it snapshot q
          ∙ ap (λ (b : Bool). kept (get snapshot q) (cond b (Some it) (get snapshot q))) (elim (same_path q path) as (λ (b : Bool). same_path q path ≡ b → b ≡ false) [
            | true ↦ λ e. absurd (clash _ (ap (is_within hidden_dir) (sym (one_path q path e)) ∙ h) seen)
            | false ↦ λ e. refl
          ] refl)
          ∙ kept-same (get snapshot q) ∙ whole.unseen q h;
      fit = λ q e at. elim (laid_cases path it snapshot q e at) [
        | inl old ↦ whole.fit q e old
        | inr new ↦ subst IsFit new.1 fit
      ];
    }

only_root : (q : Text) (e : Entry) → get root_entry q ≡ Some e → (q ≡ root) × (e ≡ entry.Dir 493)
only_root q e at = (elim (same_path q root) as (λ (b : Bool). same_path q root ≡ b → cond b (Some (entry.Dir 493)) None ≡ Some e → (q ≡ root) × (e ≡ entry.Dir 493)) [
  | true ↦ λ s there. (one_path q root s, cc)
  | false ↦ λ s there. cc
]) refl (sym (get-root_entry q) ∙ at)

pub root_entry-dir : tree.is_dir (get root_entry root) ≡ true
root_entry-dir = ap tree.is_dir (get-root_entry root)

pub root_entry-whole : IsWholeSnapshot root_entry
root_entry-whole = record {
  root_dir = root_entry-dir;
  canonical = λ q e at. ap is_canonical (only_root q e at).0 ∙ root-canonical;
  placed = λ q e at. ap (λ (p : Text). tree.is_dir (get root_entry (parent p))) (only_root q e at).0 ∙ ap (λ (p : Text). tree.is_dir (get root_entry p)) parent-root ∙ root_entry-dir;
  unseen = λ q h. get-root_entry q ∙ (elim (same_path q root) as (λ (b : Bool). same_path q root ≡ b → cond b (Some (entry.Dir 493)) None ≡ None) [
    | true ↦ λ s. let yes = ap (is_within hidden_dir) (sym (one_path q root s)) ∙ h in let no = root_seen in cc
    | false ↦ λ s. refl
  ] refl);
  fit = λ q e at. subst IsFit (sym (only_root q e at).1) (omega arith);
}

-- a directory that stands in a whole snapshot stands in a directory
there : (o : Option Entry) → tree.is_dir o ≡ true → (it : Entry) × (o ≡ Some it)
there None h = cc
there (Some it) h = (it, refl)

pub placed-above : (snapshot : Entries) (dir name : Text) → IsWholeSnapshot snapshot → is_canonical dir ≡ true → is_name name ≡ true → tree.is_dir (get snapshot (join dir name)) ≡ true → tree.is_dir (get snapshot dir) ≡ true
placed-above snapshot dir name whole c n d =
    let at = there (get snapshot (join dir name)) d in
    ap (λ (t : Text). tree.is_dir (get snapshot t)) (sym (parent-join dir name c n)) ∙ whole.placed (join dir name) at.0 at.1
