-- Worlds that no cell tells apart have one snapshot: path by path from the root, by the entries of directories.
use Rattle.std.proofs.Common.{◌≡◌, ℕ, zero, suc, ◌+◌, ◌≤◌, [], Bool, true, false, Option, Some, None, refl, sym, ◌∙◌, ap, ap₂, arith}
use Rattle.std.specs.Prelude.{if◌then◌else◌}
use Rattle.std.specs.FinMap.{empty, get}
use Rattle.std.specs.Option.{option_and_then}
use Rattle.rk_base.specs.Text.{Text, is_root, parent, name_of, depth}
use Rattle.rk_base.specs.Canonical.{is_canonical}
use Rattle.rk_base.proofs.PathLemmas.{path-is_cut, depth-join}
use Rattle.rk_tree.specs.declared.content.Content.TheVariants.{Own}
use Rattle.rk_tree.specs.Copies.{snapshot_of}
use Rattle.rk_tree.specs.Entries.{is_dir}
use Rattle.rk_tree.specs.Full.{in_full, own}
use Rattle.rk_tree.specs.Hierarchy.{node as node_at, top as top_at, mode_of, number_at, file_bytes}
use Rattle.rk_tree.specs.Inodes.{under}
use Rattle.rk_tree.specs.Node.{Node as TreeNode, File as AFile, Dir as ADir, Link as ALink}
use Rattle.rk_tree.specs.Refusals.{is_there}
use Rattle.rk_tree.proofs.CopiesLemmas.{get-snapshot_of}
use Rattle.rk_tree.proofs.EntriesLemmas.{get-full, node-own, own_node}
use Rattle.rk_tree.proofs.RowsLemmas.{same_maps}
use Rattle.rk_waves.specs.Programs.{Cell, One}
use Rattle.rk_feet.specs.Course.{what_of}
use Rattle.rk_feet.specs.NamingLemmas.{clash}
use Rattle.rk_feet.specs.Named.{Name, What, File, Dir, Link, Node, Plain, EntryOf, ModeOf, BytesOf, OutputText, ErrorText, node, mode, bytes, top}
use Rattle.rk_feet.specs.Snapshots.{AlikeSeenAsOne}
use Rattle.rk_feet.specs.World.{World, at, entry_named, entry_in, node_named}
use Rattle.rk_feet.proofs.OptionLemmas.{same-some, none-some}
use Rattle.rk_feet.proofs.PlaceLemmas.{mode-read, bytes-read, node-back}
use Rattle.rk_feet.proofs.ShowsLemmas.{whole}

-- the number at a path
abbrev at_path : World → Text → Option ℕ
at_path w path = get w.tree.paths path

path-number : (w : World) (path : Text) → at_path w path ≡ number_at w.held.tree path
path-number w path = ap (λ h. number_at h path) w.tree.is

-- what a directory's entry says of a name
abbrev look : World → Option Node → Text → Option Node
look w None name = None
look w (Some dir) name = node (at w (One (EntryOf dir.name name)))

abbrev step_to : World → Text → Option Node → Option Node
step_to w path dir = if is_root path then Some (record { name = top; what = Dir }) else if is_canonical path then look w dir (name_of path) else None

what-root : (w : World) → what_of (node_at w.held.tree top_at) ≡ Dir
what-root w = go (node_at w.held.tree top_at) (whole w).root_dir
  where
    go : (o : Option TreeNode) → is_dir o ≡ true → what_of o ≡ Dir
    go None h = refl
    go (Some (AFile mode content)) h = absurd (clash false h refl)
    go (Some (ADir mode)) h = refl
    go (Some (ALink text)) h = absurd (clash false h refl)

module _ (w : World) where
  there-at : (path : Text) (n : ℕ) → at_path w path ≡ Some n → is_there (node_at w.held.tree n) ≡ true
  there-at path n e = ap is_there ((whole w).known path n (sym (path-number w path) ∙ e)).1

  under-look : (dir name : Text) (o : Option ℕ) → at_path w dir ≡ o
      → entry_named w (option_and_then (λ n. under w.inodes n name) o) ≡ look w (entry_named w o) name
  under-look dir name None e = refl
  under-look dir name (Some n) e = sym (ap (entry_in w name) (node-back w n (there-at dir n e)))

  -- what stands at a path is what the entry of its directory says
  entry-is : (path : Text) → entry_named w (at_path w path) ≡ step_to w path (entry_named w (at_path w (parent path)))
  entry-is path = ap (entry_named w) (w.tree.leads path) ∙ go (is_root path) (is_canonical path)
    where
      go : (r c : Bool)
          → entry_named w (if r then Some top_at else if c then option_and_then (λ n. under w.inodes n (name_of path)) (at_path w (parent path)) else None)
          ≡ (if r then Some (record { name = top; what = Dir }) else if c then look w (entry_named w (at_path w (parent path))) (name_of path) else None)
      go true c = ap₂ (λ a b. Some (record { name = a; what = b })) w.top_is (what-root w)
      go false true = under-look (parent path) (name_of path) (at_path w (parent path)) refl
      go false false = refl

up_less : (path : Text) (k : ℕ) → is_canonical path ≡ true → is_root path ≡ false → depth path ≤ suc k → depth (parent path) ≤ k
up_less path k c r h =
    let it = path-is_cut path c r in
    let one : depth path ≡ depth (parent path) + 1 = ap depth (sym it.whole) ∙ depth-join (parent path) (name_of path) it.name in
    omega arith

up_none : (path : Text) → is_canonical path ≡ true → is_root path ≡ false → depth path ≤ zero → ⊥
up_none path c r h =
    let it = path-is_cut path c r in
    let one : depth path ≡ depth (parent path) + 1 = ap depth (sym it.whole) ∙ depth-join (parent path) (name_of path) it.name in
    omega arith

-- what a node is, as a number
abbrev kind : What → ℕ
kind File = 0
kind Dir = 1
kind (Link text) = 2

abbrev link_text : What → Text
link_text File = []
link_text Dir = []
link_text (Link text) = text

-- nodes of one kind, with one mode and the same bytes
same-node : (x y : TreeNode) → what_of (Some x) ≡ what_of (Some y) → mode_of (Some x) ≡ mode_of (Some y) → file_bytes (Some x) ≡ file_bytes (Some y)
    → own_node x ≡ own_node y
same-node (AFile m c) (AFile n d) what mode bytes = ap₂ (λ a b. AFile a (Own b)) mode bytes
same-node (AFile m c) (ADir n) what mode bytes = absurd (let k : 0 ≡ 1 = ap kind what in omega (arith, k))
same-node (AFile m c) (ALink t) what mode bytes = absurd (let k : 0 ≡ 2 = ap kind what in omega (arith, k))
same-node (ADir m) (AFile n d) what mode bytes = absurd (let k : 1 ≡ 0 = ap kind what in omega (arith, k))
same-node (ADir m) (ADir n) what mode bytes = ap ADir mode
same-node (ADir m) (ALink t) what mode bytes = absurd (let k : 1 ≡ 2 = ap kind what in omega (arith, k))
same-node (ALink s) (AFile n d) what mode bytes = absurd (let k : 2 ≡ 0 = ap kind what in omega (arith, k))
same-node (ALink s) (ADir n) what mode bytes = absurd (let k : 2 ≡ 1 = ap kind what in omega (arith, k))
same-node (ALink s) (ALink t) what mode bytes = ap (λ x. ALink (link_text x)) what

module _ (w v : World) (alike : (c : Cell Plain Name) → at w c ≡ at v c) where
  step-alike : (path : Text) (dir : Option Node) → step_to w path dir ≡ step_to v path dir
  step-alike path dir = ap (λ o. if is_root path then Some (record { name = top; what = Dir }) else if is_canonical path then o else None) (go dir)
    where
      go : (dir : Option Node) → look w dir (name_of path) ≡ look v dir (name_of path)
      go None = refl
      go (Some x) = ap node (alike (One (EntryOf x.name (name_of path))))

  -- where a path leads rests on its directory alone
  step-by : (path : Text) (a b : Option Node) → (is_canonical path ≡ true → is_root path ≡ false → a ≡ b) → step_to v path a ≡ step_to v path b
  step-by path a b h = go (is_root path) refl (is_canonical path) refl
    where
      go : (r : Bool) → is_root path ≡ r → (c : Bool) → is_canonical path ≡ c
          → (if r then Some (record { name = top; what = Dir }) else if c then look v a (name_of path) else None)
          ≡ (if r then Some (record { name = top; what = Dir }) else if c then look v b (name_of path) else None)
      go true r c d = refl
      go false r true d = ap (λ o. look v o (name_of path)) (h d r)
      go false r false d = refl

  entries-same : (k : ℕ) (path : Text) → depth path ≤ k → entry_named w (at_path w path) ≡ entry_named v (at_path v path)
  entries-same zero path h =
      entry-is w path ∙ step-alike path (entry_named w (at_path w (parent path)))
      ∙ step-by path (entry_named w (at_path w (parent path))) (entry_named v (at_path v (parent path))) (λ c r. absurd (up_none path c r h))
      ∙ sym (entry-is v path)
  entries-same (suc k) path h =
      entry-is w path ∙ step-alike path (entry_named w (at_path w (parent path)))
      ∙ step-by path (entry_named w (at_path w (parent path))) (entry_named v (at_path v (parent path)))
      (λ c r. entries-same k (parent path) (up_less path k c r h))
      ∙ sym (entry-is v path)

  nodes-same : (n m : ℕ) → node_named w n ≡ node_named v m → (x y : TreeNode) → node_at w.held.tree n ≡ Some x → node_at v.held.tree m ≡ Some y
      → own_node x ≡ own_node y
  nodes-same n m same x y is is' =
      same-node x y (ap what_of (sym is) ∙ ap (λ d. d.what) same ∙ ap what_of is')
      (ap mode_of (sym is) ∙ ap mode (sym (mode-read w n (ap is_there is)) ∙ alike (One (ModeOf (w.nodes.name_of n)))
      ∙ ap (λ d. at v (One (ModeOf d.name))) same ∙ mode-read v m (ap is_there is')) ∙ ap mode_of is')
      (ap file_bytes (sym is)
      ∙ ap bytes (sym (bytes-read w n (ap is_there is)) ∙ alike (One (BytesOf (w.nodes.name_of n))) ∙ ap (λ d. at v (One (BytesOf d.name))) same
      ∙ bytes-read v m (ap is_there is'))
      ∙ ap file_bytes is')

  seen-at : (a b : Option ℕ) → ((n : ℕ) → a ≡ Some n → (x : TreeNode) × (node_at w.held.tree n ≡ Some x))
      → ((m : ℕ) → b ≡ Some m → (y : TreeNode) × (node_at v.held.tree m ≡ Some y))
      → entry_named w a ≡ entry_named v b → in_full empty (option_and_then (node_at w.held.tree) a) ≡ in_full empty (option_and_then (node_at v.held.tree) b)
  seen-at None None f g e = refl
  seen-at None (Some m) f g e = absurd (none-some (node_named v m) e)
  seen-at (Some n) None f g e = absurd (none-some (node_named w n) (sym e))
  seen-at (Some n) (Some m) f g e =
      let x = f n refl in
      let y = g m refl in
      ap (in_full empty) x.1 ∙ ap Some (node-own x.0 ∙ nodes-same n m (same-some (node_named w n) (node_named v m) e) x.0 y.0 x.1 y.1 ∙ sym (node-own y.0))
      ∙ sym (ap (in_full empty) y.1)

  snapshots-same : own (snapshot_of w.held.tree) ≡ own (snapshot_of v.held.tree)
  snapshots-same = same_maps _ _ λ path.
      get-full empty (snapshot_of w.held.tree) path ∙ ap (in_full empty) (get-snapshot_of w.held.tree path)
      ∙ seen-at (number_at w.held.tree path) (number_at v.held.tree path) (λ n e. (whole w).known path n e) (λ m e. (whole v).known path m e)
      (ap (entry_named w) (sym (path-number w path)) ∙ entries-same (depth path) path (omega arith) ∙ ap (entry_named v) (path-number v path))
      ∙ sym (get-full empty (snapshot_of v.held.tree) path ∙ ap (in_full empty) (get-snapshot_of v.held.tree path))

pub alike-seen : AlikeSeenAsOne
alike-seen w v alike = record { out = ap bytes (alike (One OutputText)); err = ap bytes (alike (One ErrorText)); snapshot = snapshots-same w v alike }
