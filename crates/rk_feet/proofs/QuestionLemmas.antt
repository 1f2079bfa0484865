-- Stat, List, ReadLink and Same.
use Rattle.std.proofs.Common.{◌≡◌, ℕ, [], ◌∷◌, Bool, true, false, not, Option, Some, None, Ok, refl, sym, ◌∙◌, ap, subst}
use Rattle.std.specs.Prelude.{◌==◌}
use Rattle.std.proofs.lemmas.Bool.{eqb-true, eq-eqb}
use Rattle.rk_base.specs.Text.{Text}
use Rattle.rk_base.specs.declared.errno.Errno.TheVariants.{NoEntry, NotDir, Denied, Invalid}
use Rattle.rk_calls.specs.Given.{Given}
use Rattle.rk_calls.specs.Refs.{RefsHeld}
use Rattle.rk_calls.specs.declared.answer.Answer.TheVariants as answer
use Rattle.rk_tree.specs.Entries.{is_dir}
use Rattle.rk_tree.specs.Hierarchy.{node as node_at, mode_of, has_r, names, text_of}
use Rattle.rk_tree.specs.Node.{Node as TreeNode, File as AFile, Dir as ADir, Link as ALink}
use Rattle.rk_tree.specs.Refusals.{is_there}
use Rattle.rk_tree.proofs.ListLemmas.{names-read}
use Rattle.rk_tree.proofs.ShownLemmas.{steps}
use Rattle.rk_tree.proofs.TreeLemmas.{over}
use Rattle.rk_walk.specs.declared.place.Here.{Here as TreeHere}
use Rattle.rk_walk.specs.declared.place.Place.{Place as TreePlace}
use Rattle.rk_walk.specs.declared.place.Place.TheVariants as place
use Rattle.rk_kernel.specs.World as kernel
use Rattle.rk_kernel.specs.Rows.{giving, unless, at_place}
use Rattle.rk_kernel.specs.Rows.{strict as kernel_strict}
use Rattle.rk_kernel.specs.Questions.{stat_of, is_link}
use Rattle.rk_kernel.specs.Questions as ask
use Rattle.rk_waves.specs.Programs.{One, All}
use Rattle.rk_feet.specs.Named.{ModeOf, BytesOf, Mode, Bytes, Names}
use Rattle.rk_feet.specs.Naming.{same_name}
use Rattle.rk_feet.specs.NamingLemmas.{clash, name-is, name-self}
use Rattle.rk_feet.specs.Ways.{Place, Found, Absent}
use Rattle.rk_feet.specs.Course.{what_of, here_named}
use Rattle.rk_feet.specs.Checks.{strict}
use Rattle.rk_feet.specs.Asking.{stat_what, stat_file, stat_bytes, stat_dir, stat_at, list_what, list_mode, list_names, list_at, read_link_what, read_link_at}
use Rattle.rk_feet.specs.Asking.{same_at, same_from}
use Rattle.rk_feet.specs.World.{World, at, names_under}
use Rattle.rk_feet.specs.Simulates.{Simulates, ends_in}
use Rattle.rk_feet.specs.Laws as law
use Rattle.rk_feet.proofs.SimulationLemmas.{simulates-no, simulates-answer, simulates-unless, simulates-reads}
use Rattle.rk_feet.proofs.PlaceLemmas.{by-path, node-back, mode-read, bytes-read}
use Rattle.rk_feet.proofs.ShowsLemmas.{dir-back}
use Rattle.rk_feet.specs.Named.{Does}
use Rattle.rk_tree.specs.Content.{bytes_of}
use Rattle.rk_tree.specs.Hierarchy.{file_bytes}
use Rattle.rk_tree.specs.Inodes.{hierarchy_of}
use Rattle.rk_walk.specs.Walk.{resolve}
use Rattle.rk_waves.specs.Programs.{Ends}
use Rattle.rk_waves.specs.Programs.{Reads}

-- an absent name with a slash after it is refused, with or without a row of its own
pub strict-absent :
    (w : World) (refs : RefsHeld) (given : TreePlace → Given kernel.World) (at' : Place → Does) (dir : ℕ) (name : Text) (slash : Bool)
    → Simulates w (given (place.Absent dir name false)) (ends_in w (at' (Absent (w.nodes.name_of dir) name false)))
    → Simulates w (at_place w.held refs (kernel_strict (Ok (place.Absent dir name slash))) given)
    (ends_in w (strict at' (Absent (w.nodes.name_of dir) name slash)))
strict-absent w refs given at' dir name true h = simulates-no w refs NoEntry
strict-absent w refs given at' dir name false h = h

-- Stat

stat-node : (w : World) (refs : RefsHeld) (n : ℕ) (o : Option TreeNode) → node_at w.held.tree n ≡ o → is_there o ≡ true
    → Simulates w (giving w.held refs (stat_of o)) (ends_in w (stat_what (w.nodes.name_of n) (what_of o)))
stat-node w refs n None is h = absurd (clash false h refl)
stat-node w refs n (Some (AFile mode content)) is h =
    let there : is_there (node_at w.held.tree n) ≡ true = ap is_there is in
    simulates-reads w _ (One (ModeOf (w.nodes.name_of n))) (Mode mode) (stat_file (w.nodes.name_of n)) (mode-read w n there ∙ ap (λ o. Mode (mode_of o)) is)
    (simulates-reads w _ (One (BytesOf (w.nodes.name_of n))) (Bytes (bytes_of content)) (stat_bytes (Mode mode))
    (bytes-read w n there ∙ ap (λ o. Bytes (file_bytes o)) is)
    (simulates-answer w refs (stat_of (Some (AFile mode content)))))
stat-node w refs n (Some (ADir mode)) is h =
    simulates-reads w _ (One (ModeOf (w.nodes.name_of n))) (Mode mode) stat_dir (mode-read w n (ap is_there is) ∙ ap (λ o. Mode (mode_of o)) is)
    (simulates-answer w refs (stat_of (Some (ADir mode))))
stat-node w refs n (Some (ALink text)) is h = simulates-answer w refs (stat_of (Some (ALink text)))

pub stats : law.Stats
stats w refs path follow =
    by-path w stat_at (λ spot. at_place w.held refs spot (ask.stat_at w.held refs)) path follow (λ e. simulates-no w refs e)
    (λ here is plain. stat-node w refs here.node (node_at w.held.tree here.node) refl is.there)
    (λ dir name slash is stands. simulates-no w refs NoEntry)

-- List

pub names-of : (w : World) (n : ℕ) → is_dir (node_at w.held.tree n) ≡ true → at w (All (w.nodes.name_of n)) ≡ Names (names w.held.tree n)
names-of w n d =
    ap (λ o. Names (names_under w o)) (dir-back w n d)
    ∙ ap Names (over w.inodes w.held.tree w.tree (λ h. is_dir (node_at h n) ≡ true → names_under w (Some n) ≡ names h n)
    (λ d. names-read w.tree.paths w.inodes w.tree.kept.0 (steps w.inodes w.tree.paths w.tree.leads) w.tree.kept.2 n d w.inodes
    (hierarchy_of w.tree.paths w.inodes) refl refl) d)

list-node :
    (w : World) (refs : RefsHeld) (n : ℕ) (o : Option TreeNode) → node_at w.held.tree n ≡ o → is_there o ≡ true
    → Simulates w (unless w.held refs ((not (is_dir o), NotDir) ∷ (not (has_r (mode_of o)), Denied) ∷ [])
    (giving w.held refs (answer.Names (names w.held.tree n)))) (ends_in w (list_what (w.nodes.name_of n) (what_of o)))
list-node w refs n None is h = absurd (clash false h refl)
list-node w refs n (Some (AFile mode content)) is h = simulates-no w refs NotDir
list-node w refs n (Some (ADir mode)) is h =
    simulates-reads w _ (One (ModeOf (w.nodes.name_of n))) (Mode mode) (list_mode (w.nodes.name_of n))
    (mode-read w n (ap is_there is) ∙ ap (λ o. Mode (mode_of o)) is)
    (simulates-unless w refs (not (has_r mode)) (not (has_r mode)) Denied [] (giving w.held refs (answer.Names (names w.held.tree n)))
    (Reads (All (w.nodes.name_of n)) list_names) refl
    (λ r. simulates-reads w _ (All (w.nodes.name_of n)) (Names (names w.held.tree n)) list_names (names-of w n (ap is_dir is))
    (simulates-answer w refs (answer.Names (names w.held.tree n)))))
list-node w refs n (Some (ALink text)) is h = simulates-no w refs NotDir

pub lists : law.Lists
lists w refs path =
    by-path w (strict list_at) (λ spot. at_place w.held refs (kernel_strict spot) (ask.list_at w.held refs)) path true (λ e. simulates-no w refs e)
    (λ here is plain. list-node w refs here.node (node_at w.held.tree here.node) refl is.there)
    (λ dir name slash is stands. strict-absent w refs (ask.list_at w.held refs) list_at dir name slash (simulates-no w refs NoEntry))

-- ReadLink

link-node :
    (w : World) (refs : RefsHeld) (o : Option TreeNode) → is_there o ≡ true
    → Simulates w (unless w.held refs ((not (is_link o), Invalid) ∷ []) (giving w.held refs (answer.Text (text_of o)))) (ends_in w (read_link_what (what_of o)))
link-node w refs None h = absurd (clash false h refl)
link-node w refs (Some (AFile mode content)) h = simulates-no w refs Invalid
link-node w refs (Some (ADir mode)) h = simulates-no w refs Invalid
link-node w refs (Some (ALink text)) h = simulates-answer w refs (answer.Text text)

pub reads-links : law.ReadsLinks
reads-links w refs path =
    by-path w (strict read_link_at) (λ spot. at_place w.held refs (kernel_strict spot) (ask.read_link_at w.held refs)) path false (λ e. simulates-no w refs e)
    (λ here is plain. link-node w refs (node_at w.held.tree here.node) is.there)
    (λ dir name slash is stands. strict-absent w refs (ask.read_link_at w.held refs) read_link_at dir name slash (simulates-no w refs NoEntry))

-- Same

some-one : (a b : ℕ) → Some a ≡ Some b → a ≡ b
some-one a b e = cc

pub same-number : (w : World) (a b : ℕ) → is_there (node_at w.held.tree a) ≡ true → is_there (node_at w.held.tree b) ≡ true
    → (a == b) ≡ same_name (w.nodes.name_of a) (w.nodes.name_of b)
same-number w a b ha hb = go (a == b) refl (same_name (w.nodes.name_of a) (w.nodes.name_of b)) refl
  where
    go : (x : Bool) → (a == b) ≡ x → (y : Bool) → same_name (w.nodes.name_of a) (w.nodes.name_of b) ≡ y → x ≡ y
    go true e true f = refl
    go false e false f = refl
    go true e false f = absurd (clash _ (ap (λ n. same_name (w.nodes.name_of a) (w.nodes.name_of n)) (sym (eqb-true a b e)) ∙ name-self (w.nodes.name_of a)) f)
    go false e true f =
        absurd (clash _ (eq-eqb a b (some-one a b
        (sym (node-back w a ha) ∙ ap w.nodes.number_of (name-is (w.nodes.name_of a) (w.nodes.name_of b) f) ∙ node-back w b hb))) e)

same-second : (w : World) (refs : RefsHeld) (b : Text) (first : TreeHere) → is_there (node_at w.held.tree first.node) ≡ true
    → Simulates w (at_place w.held refs (kernel_strict (resolve w.held.tree b true)) (ask.same_at w.held refs (place.Found first)))
    (ends_in w (same_from b (Found (here_named w.held.tree (at w) w.nodes.name_of first))))
same-second w refs b first there =
    by-path w (strict (same_at (Found (here_named w.held.tree (at w) w.nodes.name_of first))))
    (λ spot. at_place w.held refs (kernel_strict spot) (ask.same_at w.held refs (place.Found first))) b true (λ e. simulates-no w refs e)
    (λ here is plain.
    subst (λ s. Simulates w (giving w.held refs (answer.Same (first.node == here.node))) (ends_in w (Ends (answer.Same s) [])))
    (same-number w first.node here.node there is.there)
    (simulates-answer w refs (answer.Same (first.node == here.node))))
    (λ dir name slash is stands. strict-absent w refs (ask.same_at w.held refs (place.Found first))
    (same_at (Found (here_named w.held.tree (at w) w.nodes.name_of first))) dir name slash (simulates-no w refs NoEntry))

same-absent : (w : World) (refs : RefsHeld) (b : Text) (d : ℕ) (n : Text)
    → Simulates w (at_place w.held refs (kernel_strict (resolve w.held.tree b true)) (ask.same_at w.held refs (place.Absent d n false)))
    (ends_in w (same_from b (Absent (w.nodes.name_of d) n false)))
same-absent w refs b d n =
    by-path w (strict (same_at (Absent (w.nodes.name_of d) n false)))
    (λ spot. at_place w.held refs (kernel_strict spot) (ask.same_at w.held refs (place.Absent d n false))) b true (λ e. simulates-no w refs e)
    (λ here is plain. simulates-no w refs NoEntry)
    (λ dir name slash is stands. strict-absent w refs (ask.same_at w.held refs (place.Absent d n false)) (same_at (Absent (w.nodes.name_of d) n false)) dir
    name slash (simulates-no w refs NoEntry))

pub compares : law.Compares
compares w refs a b =
    by-path w (strict (same_from b))
    (λ spot. at_place w.held refs (kernel_strict spot)
    (λ first. at_place w.held refs (kernel_strict (resolve w.held.tree b true)) (ask.same_at w.held refs first))) a true (λ e. simulates-no w refs e)
    (λ here is plain. same-second w refs b here is.there)
    (λ dir name slash is stands. strict-absent w refs
    (λ first. at_place w.held refs (kernel_strict (resolve w.held.tree b true)) (ask.same_at w.held refs first)) (same_from b) dir name slash
    (same-absent w refs b dir name))
