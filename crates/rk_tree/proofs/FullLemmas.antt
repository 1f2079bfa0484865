-- A tree and its Full differ in what files hold alone, and each change of the one is that of the other.
use Rattle.std.proofs.Common.{◌≡◌, ℕ, zero, suc, List, [], ◌∷◌, ◌++◌, map, Bool, true, false, cond, not, ◌&&◌, Option, Some, None, refl, sym, ap, ◌∙◌}
use Rattle.std.specs.Prelude.{slice_get, slice_set, length, ◌==◌}
use Rattle.rk_base.specs.Text.{Text, join}
use Rattle.rk_base.specs.Canonical.{is_empty}
use Rattle.rk_base.specs.declared.errno.Errno.TheVariants.{NotDir, IsDir, Denied, Exists, NotEmpty, Invalid}
use Rattle.rk_tree.specs.Content.{Own, Unread, Read}
use Rattle.rk_tree.specs.Node.{Node, File, Dir, Link}
use Rattle.rk_tree.specs.Hierarchy as h
use Rattle.rk_tree.specs.Hierarchy.{Hierarchy, node, mode_of, file_bytes, child, parent_of, path_of, changed_at, change_node, replaced, over_written, with_mode, is_same, with_path, moved_paths, linked, added, removed, renamed, names, set_bytes, set_mode, stands_within, write}
use Rattle.rk_tree.specs.Entries.{is_dir}
use Rattle.rk_tree.specs.Refusals.{first_of, entry_checks, is_there, lacks_w, has_names, goes_below, add_refusal, remove_found, remove_refusal, over_checks, rename_checks, rename_found, rename_refusal}
use Rattle.rk_tree.specs.Full.{Told, full_node, full, in_full, is_known}

-- each change is one of Full; bytes are written over those that are known alone
pub record GoesWith (told : Told) (tree : Hierarchy) : Type 0 where
  pub linked : (dir : ℕ) (name : Text) (n : ℕ) → full told (linked tree dir name n) ≡ linked (full told tree) dir name n
  pub added : (dir : ℕ) (name : Text) (it : Node) → full told (added tree dir name it) ≡ added (full told tree) dir name (full_node told it)
  pub removed : (dir : ℕ) (name : Text) → full told (removed tree dir name) ≡ removed (full told tree) dir name
  pub renamed : (dir : ℕ) (name : Text) (to : ℕ) (new : Text) → full told (renamed tree dir name to new) ≡ renamed (full told tree) dir name to new
  pub set_mode : (n mode : ℕ) → full told (set_mode tree n mode) ≡ set_mode (full told tree) n mode
  pub set_bytes : (n : ℕ) (bytes : Text) → full told (set_bytes tree n bytes) ≡ set_bytes (full told tree) n bytes
  pub write : (n at : ℕ) (bytes : Text) → is_known (node tree n) ≡ true → full told (write tree n at bytes) ≡ write (full told tree) n at bytes
  pub bytes : (n : ℕ) → is_known (node tree n) ≡ true → file_bytes (node (full told tree) n) ≡ file_bytes (node tree n)

pub nodes-full : (told : Told) (nodes : List Node) (n : ℕ) → slice_get (map (full_node told) nodes) n ≡ in_full told (slice_get nodes n)
nodes-full told [] n = refl
nodes-full told (it ∷ nodes) zero = refl
nodes-full told (it ∷ nodes) (suc n) = nodes-full told nodes n

pub set-full : (told : Told) (nodes : List Node) (n : ℕ) (it : Node) → map (full_node told) (slice_set nodes n it) ≡ slice_set (map (full_node told) nodes) n (full_node told it)
set-full told [] n it = refl
set-full told (x ∷ nodes) zero it = refl
set-full told (x ∷ nodes) (suc n) it = ap (λ (l : List Node). full_node told x ∷ l) (set-full told nodes n it)

push-full : (told : Told) (nodes : List Node) (it : Node) → map (full_node told) (nodes ++ it ∷ []) ≡ map (full_node told) nodes ++ full_node told it ∷ []
push-full told [] it = refl
push-full told (x ∷ nodes) it = ap (λ (l : List Node). full_node told x ∷ l) (push-full told nodes it)

pub long-full : (told : Told) (nodes : List Node) → length (map (full_node told) nodes) ≡ length nodes
long-full told [] = refl
long-full told (x ∷ nodes) = ap suc (long-full told nodes)

pub dir-of : (told : Told) (o : Option Node) → is_dir (in_full told o) ≡ is_dir o
dir-of told None = refl
dir-of told (Some (File mode content)) = refl
dir-of told (Some (Dir mode)) = refl
dir-of told (Some (Link text)) = refl

pub mode-of : (told : Told) (o : Option Node) → mode_of (in_full told o) ≡ mode_of o
mode-of told None = refl
mode-of told (Some (File mode content)) = refl
mode-of told (Some (Dir mode)) = refl
mode-of told (Some (Link text)) = refl

module _ (told : Told) (tree : Hierarchy) where
  pub node-full : (n : ℕ) → node (full told tree) n ≡ in_full told (node tree n)
  unfolding full
  node-full n = nodes-full told tree.nodes n

  pub dir-full : (n : ℕ) → is_dir (node (full told tree) n) ≡ is_dir (node tree n)
  dir-full n = ap is_dir (node-full n) ∙ dir-of told (node tree n)

  pub mode-full : (n : ℕ) → mode_of (node (full told tree) n) ≡ mode_of (node tree n)
  mode-full n = ap mode_of (node-full n) ∙ mode-of told (node tree n)

  pub path-full : (dir : ℕ) → path_of (full told tree) dir ≡ path_of tree dir
  unfolding full path_of
  path-full dir = refl

  pub child-full : (dir : ℕ) (name : Text) → child (full told tree) dir name ≡ child tree dir name
  unfolding full child path_of
  child-full dir name = refl

  pub parent-full : (dir : ℕ) → parent_of (full told tree) dir ≡ parent_of tree dir
  unfolding full parent_of path_of
  parent-full dir = refl

  pub names-full : (dir : ℕ) → names (full told tree) dir ≡ names tree dir
  unfolding full names path_of
  names-full dir = refl

  within-full : (above dir : ℕ) → stands_within (full told tree) above dir ≡ stands_within tree above dir
  unfolding full stands_within path_of
  within-full above dir = refl

  linked-full : (dir : ℕ) (name : Text) (n : ℕ) → full told (linked tree dir name n) ≡ linked (full told tree) dir name n
  unfolding full linked path_of
  linked-full dir name n = refl

  removed-full : (dir : ℕ) (name : Text) → full told (removed tree dir name) ≡ removed (full told tree) dir name
  unfolding full removed path_of
  removed-full dir name = refl

  added-full : (dir : ℕ) (name : Text) (it : Node) → full told (added tree dir name it) ≡ added (full told tree) dir name (full_node told it)
  unfolding full added linked path_of
  added-full dir name it =
      ap (λ (k : ℕ). record { paths = (linked tree dir name k).paths; nodes = map (full_node told) (tree.nodes ++ it ∷ []) }) (sym (long-full told tree.nodes))
      ∙ ap (λ (l : List Node). record { paths = (linked tree dir name (length (map (full_node told) tree.nodes))).paths; nodes = l }) (push-full told tree.nodes it)

  renamed-full : (dir : ℕ) (name : Text) (to : ℕ) (new : Text) → full told (renamed tree dir name to new) ≡ renamed (full told tree) dir name to new
  unfolding full renamed child path_of
  renamed-full dir name to new = by (is_same (child tree dir name) (child tree to new)) where
    there : Hierarchy
    there = record tree { paths = with_path (path_of tree dir) (λ from. with_path (path_of tree to) (λ onto. moved_paths (join from name) (join onto new) tree.paths) tree.paths) tree.paths }

    by : (b : Bool) → full told (cond b tree there) ≡ cond b (full told tree) (full told there)
    by true = refl
    by false = refl

  abbrev Agrees : (Node → Node) → Option Node → Type 0
  Agrees f None = Unit {0}
  Agrees f (Some it) = full_node told (f it) ≡ f (full_node told it)

  changed-full : (f : Node → Node) (nodes : List Node) (n : ℕ) (o : Option Node) → Agrees f o → map (full_node told) (changed_at f nodes n o) ≡ changed_at f (map (full_node told) nodes) n (in_full told o)
  changed-full f nodes n None agrees = refl
  changed-full f nodes n (Some it) agrees = set-full told nodes n (f it) ∙ ap (slice_set (map (full_node told) nodes) n) agrees

  change-full : (f : Node → Node) (n : ℕ) → Agrees f (node tree n) → full told (change_node tree n f) ≡ change_node (full told tree) n f
  unfolding full
  change-full f n agrees = ap (λ (l : List Node). record tree { nodes = l }) (changed-full f tree.nodes n (node tree n) agrees ∙ ap (changed_at f (map (full_node told) tree.nodes) n) (sym (nodes-full told tree.nodes n)))

  mode-agrees : (mode : ℕ) (o : Option Node) → Agrees (with_mode mode) o
  mode-agrees mode None = tt
  mode-agrees mode (Some (File old content)) = refl
  mode-agrees mode (Some (Dir old)) = refl
  mode-agrees mode (Some (Link text)) = refl

  bytes-agree : (bytes : Text) (o : Option Node) → Agrees (replaced bytes) o
  bytes-agree bytes None = tt
  bytes-agree bytes (Some (File mode content)) = refl
  bytes-agree bytes (Some (Dir mode)) = refl
  bytes-agree bytes (Some (Link text)) = refl

  written-agrees : (at : ℕ) (bytes : Text) (o : Option Node) → is_known o ≡ true → Agrees (over_written at bytes) o
  written-agrees at bytes None known = tt
  written-agrees at bytes (Some (File mode (Own old))) known = refl
  written-agrees at bytes (Some (File mode (Unread path))) known = cc
  written-agrees at bytes (Some (File mode (Read path old))) known = refl
  written-agrees at bytes (Some (Dir mode)) known = refl
  written-agrees at bytes (Some (Link text)) known = refl

  known-bytes : (o : Option Node) → is_known o ≡ true → file_bytes (in_full told o) ≡ file_bytes o
  known-bytes None known = refl
  known-bytes (Some (File mode (Own old))) known = refl
  known-bytes (Some (File mode (Unread path))) known = cc
  known-bytes (Some (File mode (Read path old))) known = refl
  known-bytes (Some (Dir mode)) known = refl
  known-bytes (Some (Link text)) known = refl

  pub goes-with : GoesWith told tree
  goes-with = record {
    linked = linked-full;
    added = added-full;
    removed = removed-full;
    renamed = renamed-full;
    set_mode = λ n mode. change-full (with_mode mode) n (mode-agrees mode (node tree n));
    set_bytes = λ n bytes. change-full (replaced bytes) n (bytes-agree bytes (node tree n));
    write = λ n at bytes known. change-full (over_written at bytes) n (written-agrees at bytes (node tree n) known);
    bytes = λ n known. ap file_bytes (node-full n) ∙ known-bytes (node tree n) known;
  }

  -- Refusals.

  entry-full : (it : Node) → entry_checks (full_node told it) ≡ entry_checks it
  entry-full (File mode content) = refl
  entry-full (Dir mode) = refl
  entry-full (Link text) = refl

  pub lacks-full : (dir : ℕ) → lacks_w (full told tree) dir ≡ lacks_w tree dir
  lacks-full dir = λ i. not (h.has_w (mode-full dir i))

  pub has_names-full : (n : ℕ) → has_names (full told tree) n ≡ has_names tree n
  has_names-full n = λ i. dir-full n i && not (is_empty (names-full n i))

  pub below-full : (n to : ℕ) → goes_below (full told tree) n to ≡ goes_below tree n to
  below-full n to = λ i. dir-full n i && within-full n to i

  pub add-full : (dir : ℕ) (name : Text) (it : Node) → add_refusal (full told tree) dir name (full_node told it) ≡ add_refusal tree dir name it
  unfolding add_refusal
  add-full dir name it = λ i. first_of (entry-full it i ++ (is_there (child-full dir name i), Exists) ∷ (lacks-full dir i, Denied) ∷ [])

  remove-found : (dir : ℕ) (o : Option ℕ) → remove_found (full told tree) dir o ≡ remove_found tree dir o
  remove-found dir None = refl
  remove-found dir (Some n) = λ i. first_of ((has_names-full n i, NotEmpty) ∷ (lacks-full dir i, Denied) ∷ [])

  pub remove-full : (dir : ℕ) (name : Text) → remove_refusal (full told tree) dir name ≡ remove_refusal tree dir name
  unfolding remove_refusal
  remove-full dir name = ap (remove_found (full told tree) dir) (child-full dir name) ∙ remove-found dir (child tree dir name)

  over-full : (n to : ℕ) (over : Option ℕ) → over_checks (full told tree) n to over ≡ over_checks tree n to over
  over-full n to None = λ i. (below-full n to i, Invalid) ∷ []
  over-full n to (Some m) = λ i. (dir-full n i && not (dir-full m i), NotDir) ∷ (not (dir-full n i) && dir-full m i, IsDir) ∷ (below-full n to i, Invalid) ∷ (has_names-full m i, NotEmpty) ∷ []

  checks-full : (dir n to : ℕ) (over : Option ℕ) → first_of (rename_checks (full told tree) dir n to over) ≡ first_of (rename_checks tree dir n to over)
  checks-full dir n to over = λ i. first_of ((lacks-full dir i, Denied) ∷ (lacks-full to i, Denied) ∷ over-full n to over i)

  rename-found : (dir to : ℕ) (o over : Option ℕ) → rename_found (full told tree) dir to o over ≡ rename_found tree dir to o over
  rename-found dir to None over = refl
  rename-found dir to (Some n) None = checks-full dir n to None
  rename-found dir to (Some n) (Some m) = ap (cond (n == m) None) (checks-full dir n to (Some m))

  pub rename-full : (dir : ℕ) (name : Text) (to : ℕ) (new : Text) → rename_refusal (full told tree) dir name to new ≡ rename_refusal tree dir name to new
  unfolding rename_refusal
  rename-full dir name to new = (λ i. rename_found (full told tree) dir to (child-full dir name i) (child-full to new i)) ∙ rename-found dir to (child tree dir name) (child tree to new)
