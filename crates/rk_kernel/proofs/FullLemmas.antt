-- Calls in Full, row by row.
use Rattle.std.proofs.Common.{◌≡◌, ℕ, ◌+◌, List, [], ◌∷◌, map, Bool, true, false, cond, not, ◌&&◌, ◌||◌, Option, Some, None, length, drop, refl, sym, ap, ◌∙◌}
use Rattle.std.specs.Prelude.{slice_get, Ok, Err, nat_lt, if◌then◌else◌}
use Rattle.rk_base.specs.Text.{Text}
use Rattle.rk_base.specs.Canonical.{has_nul, is_empty}
use Rattle.rk_base.specs.declared.errno.Errno.{Errno}
use Rattle.rk_base.specs.declared.errno.Errno.TheVariants.{NoEntry, NotDir, IsDir, Exists, Denied, NotEmpty, BadRef, Invalid}
use Rattle.rk_calls.specs.Given.{Given}
use Rattle.rk_calls.specs.Refs.{RefsHeld, ref_at, with_opened}
use Rattle.rk_calls.specs.declared.call.Call.{Call}
use Rattle.rk_calls.specs.declared.call.Call.TheVariants as call
use Rattle.rk_calls.specs.declared.call.How.{How}
use Rattle.rk_calls.specs.declared.call.How.TheVariants as how
use Rattle.rk_calls.specs.declared.answer.Answer.{Answer}
use Rattle.rk_calls.specs.declared.answer.Answer.TheVariants as answer
use Rattle.rk_tree.specs.Entries.{is_dir}
use Rattle.rk_tree.specs.declared.content.Content.TheVariants.{Own, Unread, Read}
use Rattle.rk_tree.specs.Node.{Node, File, Dir, Link}
use Rattle.rk_tree.specs.Hierarchy.{Hierarchy, node, mode_of, text_of, file_bytes, has_r, has_x, added}
use Rattle.rk_tree.specs.Refusals.{lacks_w}
use Rattle.rk_walk.specs.Walk.{Spot, resolve}
use Rattle.rk_walk.specs.declared.place.Place.{Place}
use Rattle.rk_walk.specs.declared.place.Place.TheVariants.{Found, Absent}
use Rattle.rk_kernel.specs.World.{World, with_open, with_offset, rest_of, after_read, line_of, line_end, after_read_line, after_file_write, after_write, place_in}
use Rattle.rk_kernel.specs.Rows.{refused, giving, done, unless, at_place, strict, is_absent, node_at, dir_at, mode_at, names_stand_at, same_node, name_at, is_nameless, lacks_w_above, lacks_w_at, has_slash}
use Rattle.rk_kernel.specs.Changes.{added_at, mkdir_refusals, mkdir_at, removed_at, rmdir_refusals, rmdir_at, unlink_refusals, unlink_at, goes_into_itself, renamed_at, rename_refusals, moved_at, rename_at, symlink_refusals, symlink_at, linked_at, link_refusals, link_at, with_mode_at, chmod_at}
use Rattle.rk_kernel.specs.Opening.{opened, description, is_read, lacks, emptied, open_at}
use Rattle.rk_kernel.specs.Questions.{stat_of, stat_at, names_at, list_refusals, list_at, is_link, read_link_refusals, read_link_at, place_of, path_at, walk_refusals, walk_at, same_at}
use Rattle.rk_kernel.specs.Do.{read_by, read_ref, read_line_by, read_line_ref, write_by, write_ref, piped, followed, itself, answered}
use Rattle.rk_kernel.specs.declared.description.Description.{Description}
use Rattle.rk_kernel.specs.declared.description.Source.{Source}
use Rattle.rk_kernel.specs.declared.description.Source.TheVariants as source
use Rattle.rk_tree.specs.Full.{Told, full, full_node, in_full, is_known}
use Rattle.rk_tree.proofs.FullLemmas.{GoesWith, goes-with, dir-full, mode-full, path-full, names-full, node-full, lacks-full, has_names-full, below-full, long-full}
use Rattle.rk_kernel.proofs.FoundLemmas.{place-found}
use Rattle.rk_kernel.specs.Full.{full_world, full_given, file_at, file_written, is_seen, sees, AnswersAlike}
use Rattle.rk_kernel.specs.Numbers.{file_by, file_of, file_opened}

text-of : (told : Told) (o : Option Node) → text_of (in_full told o) ≡ text_of o
text-of told None = refl
text-of told (Some (File mode content)) = refl
text-of told (Some (Dir mode)) = refl
text-of told (Some (Link text)) = refl

link-of : (told : Told) (o : Option Node) → is_link (in_full told o) ≡ is_link o
link-of told None = refl
link-of told (Some (File mode content)) = refl
link-of told (Some (Dir mode)) = refl
link-of told (Some (Link text)) = refl

stat-of : (told : Told) (o : Option Node) → is_known o ≡ true → stat_of (in_full told o) ≡ stat_of o
stat-of told None known = refl
stat-of told (Some (File mode (Own bytes))) known = refl
stat-of told (Some (File mode (Unread path))) known = cc
stat-of told (Some (File mode (Read path bytes))) known = refl
stat-of told (Some (Dir mode)) known = refl
stat-of told (Some (Link text)) known = refl

-- what is known of what is read or written

abbrev known_from : World → Source → Bool
known_from world (source.Node n) = is_known (node world.tree n)
known_from world _ = true

abbrev seen_by : World → (Description → Bool) → Option Description → Bool
seen_by world asks None = true
seen_by world asks (Some d) = not (asks d) || known_from world d.source

abbrev seen_ref : World → (Description → Bool) → Option ℕ → Bool
seen_ref world asks None = true
seen_ref world asks (Some k) = seen_by world asks (slice_get world.opens k)

abbrev reads : Description → Bool
reads d = d.read

abbrev writes : Text → Description → Bool
writes bytes d = d.write && not (is_empty bytes)

abbrev known_place : World → Spot → Bool
known_place world (Err e) = true
known_place world (Ok place) = is_known (node_at world place)

by-source : (world : World) (s : Source) → is_seen world (file_of s) ≡ known_from world s
by-source world (source.Node n) = refl
by-source world (source.Pipe p) = refl
by-source world source.Output = refl
by-source world source.ErrorText = refl
by-source world source.Nothing = refl

by-if : (world : World) (s : Source) (b : Bool) → is_seen world (cond b (file_of s) None) ≡ true → (not b || known_from world s) ≡ true
by-if world s true seen = sym (by-source world s) ∙ seen
by-if world s false seen = refl

by-one : (world : World) (holds : Description → Bool) (d : Option Description) → is_seen world (file_by holds d) ≡ true → seen_by world holds d ≡ true
by-one world holds None seen = refl
by-one world holds (Some d) seen = by-if world d.source (holds d) seen

by-ref : (world : World) (holds : Description → Bool) (k : Option ℕ) → is_seen world (file_opened world holds k) ≡ true → seen_ref world holds k ≡ true
by-ref world holds None seen = refl
by-ref world holds (Some k) seen = by-one world holds (slice_get world.opens k) seen

nothing-by : (world : World) (d : Option Description) → seen_by world (λ d. d.write && not true) d ≡ true
nothing-by world None = refl
nothing-by world (Some d) = elim d.write as (λ (b : Bool). (not (b && not true) || known_from world d.source) ≡ true) [
  | true ↦ refl
  | false ↦ refl
]

nothing-ref : (world : World) (k : Option ℕ) → seen_ref world (λ d. d.write && not true) k ≡ true
nothing-ref world None = refl
nothing-ref world (Some k) = nothing-by world (slice_get world.opens k)

some-by : (world : World) (d : Option Description) → is_seen world (file_by (λ d. d.write) d) ≡ true → seen_by world (λ d. d.write && not false) d ≡ true
some-by world None seen = refl
some-by world (Some d) seen = (elim d.write as (λ (b : Bool). is_seen world (cond b (file_of d.source) None) ≡ true → (not (b && not false) || known_from world d.source) ≡ true) [
  | true ↦ λ seen. sym (by-source world d.source) ∙ seen
  | false ↦ λ seen. refl
]) seen

some-ref : (world : World) (k : Option ℕ) → is_seen world (file_opened world (λ d. d.write) k) ≡ true → seen_ref world (λ d. d.write && not false) k ≡ true
some-ref world None seen = refl
some-ref world (Some k) seen = some-by world (slice_get world.opens k) seen

by-write : (world : World) (k : Option ℕ) (b : Bool) → is_seen world (file_written world k b) ≡ true → seen_ref world (λ d. d.write && not b) k ≡ true
by-write world k true seen = nothing-ref world k
by-write world k false seen = some-ref world k seen

by-place : (world : World) (spot : Spot) → is_seen world (file_at spot) ≡ true → known_place world spot ≡ true
by-place world (Err e) seen = refl
by-place world (Ok (Found at)) seen = seen
by-place world (Ok (Absent dir name slash)) seen = refl

module _ (told : Told) (w : World) (refs : RefsHeld) where
  go : GoesWith told w.tree
  go = goes-with told w.tree

  -- refusals, and then what is given
  unless-full : (checks : List (Bool × Errno)) (given full_one : Given World) → full_one ≡ full_given told given → unless (full_world told w) refs checks full_one ≡ full_given told (unless w refs checks given)
  unless-full [] given full_one same = same
  unless-full (check ∷ checks) given full_one same =
      elim check.0 as (λ (b : Bool). cond b (refused (full_world told w) refs check.1) (unless (full_world told w) refs checks full_one) ≡ full_given told (cond b (refused w refs check.1) (unless w refs checks given))) [
        | true ↦ refl
        | false ↦ unless-full checks given full_one same
      ]

  place-full : (spot : Spot) (row full_row : Place → Given World) → ((place : Place) → full_row place ≡ full_given told (row place)) → at_place (full_world told w) refs spot full_row ≡ full_given told (at_place w refs spot row)
  place-full (Err e) row full_row same = refl
  place-full (Ok place) row full_row same = same place

  done-full : (tree full_one : Hierarchy) → full_one ≡ full told tree → done (full_world told w) refs full_one ≡ full_given told (done w refs tree)
  unfolding full_world
  done-full tree full_one same = ap (λ (t : Hierarchy). record { answer = answer.Done; refs = refs; world = record w { tree = t } }) same

  -- what stands at a place

  node_at-full : (place : Place) → node_at (full_world told w) place ≡ in_full told (node_at w place)
  unfolding full_world
  node_at-full (Found at) = node-full told w.tree at.node
  node_at-full (Absent dir name slash) = refl

  pub dir_at-full : (place : Place) → dir_at (full_world told w) place ≡ dir_at w place
  unfolding full_world
  dir_at-full (Found at) = dir-full told w.tree at.node
  dir_at-full (Absent dir name slash) = refl

  pub mode_at-full : (place : Place) → mode_at (full_world told w) place ≡ mode_at w place
  unfolding full_world
  mode_at-full (Found at) = mode-full told w.tree at.node
  mode_at-full (Absent dir name slash) = refl

  pub names_stand-full : (place : Place) → names_stand_at (full_world told w) place ≡ names_stand_at w place
  unfolding full_world
  names_stand-full (Found at) = has_names-full told w.tree at.node
  names_stand-full (Absent dir name slash) = refl

  above-full : (up : Option (ℕ × Text)) → lacks_w_above (full_world told w) up ≡ lacks_w_above w up
  unfolding full_world
  above-full None = refl
  above-full (Some up) = lacks-full told w.tree up.0

  pub lacks_w-full : (place : Place) → lacks_w_at (full_world told w) place ≡ lacks_w_at w place
  lacks_w-full place = above-full (name_at place)

  tree-full : (full_world told w).tree ≡ full told w.tree
  unfolding full_world
  tree-full = refl

  pub followed-full : (path : Text) → followed (full_world told w) path ≡ followed w path
  unfolding full_world
  followed-full path = ap strict (place-found told w.tree path true)

  pub itself-full : (path : Text) → itself (full_world told w) path ≡ itself w path
  unfolding full_world
  itself-full path = ap strict (place-found told w.tree path false)

  pub resolve-full : (path : Text) (follow : Bool) → resolve (full_world told w).tree path follow ≡ resolve w.tree path follow
  unfolding full_world
  resolve-full path follow = place-found told w.tree path follow

  -- Questions.

  stat-full : (place : Place) → is_known (node_at w place) ≡ true → stat_at (full_world told w) refs place ≡ full_given told (stat_at w refs place)
  stat-full place known =
      unless-full ((is_absent place, NoEntry) ∷ []) (giving w refs (stat_of (node_at w place))) (giving (full_world told w) refs (stat_of (node_at (full_world told w) place)))
      (ap (λ (a : Answer). giving (full_world told w) refs a) (ap stat_of (node_at-full place) ∙ stat-of told (node_at w place) known))

  names_at-full : (place : Place) → names_at (full_world told w) place ≡ names_at w place
  unfolding full_world
  names_at-full (Found at) = names-full told w.tree at.node
  names_at-full (Absent dir name slash) = refl

  list-full : (place : Place) → list_at (full_world told w) refs place ≡ full_given told (list_at w refs place)
  list-full place =
      (λ i. unless (full_world told w) refs ((is_absent place, NoEntry) ∷ (not (dir_at-full place i), NotDir) ∷ (not (has_r (mode_at-full place i)), Denied) ∷ []) (giving (full_world told w) refs (answer.Names (names_at-full place i))))
      ∙ unless-full (list_refusals w place) (giving w refs (answer.Names (names_at w place))) (giving (full_world told w) refs (answer.Names (names_at w place))) refl

  read_link-full : (place : Place) → read_link_at (full_world told w) refs place ≡ full_given told (read_link_at w refs place)
  read_link-full place =
      (λ i. unless (full_world told w) refs ((is_absent place, NoEntry) ∷ (not ((ap is_link (node_at-full place) ∙ link-of told (node_at w place)) i), Invalid) ∷ []) (giving (full_world told w) refs (answer.Text ((ap text_of (node_at-full place) ∙ text-of told (node_at w place)) i))))
      ∙ unless-full (read_link_refusals w place) (giving w refs (answer.Text (text_of (node_at w place)))) (giving (full_world told w) refs (answer.Text (text_of (node_at w place)))) refl

  path_at-full : (place : Place) → path_at (full_world told w) place ≡ path_at w place
  unfolding full_world
  path_at-full (Found at) = path-full told w.tree at.node
  path_at-full (Absent dir name slash) = refl

  walk-full : (place : Place) → walk_at (full_world told w) refs place ≡ full_given told (walk_at w refs place)
  walk-full place =
      (λ i. unless (full_world told w) refs ((is_absent place, NoEntry) ∷ (not (dir_at-full place i), NotDir) ∷ (not (has_x (mode_at-full place i)), Denied) ∷ []) (giving (full_world told w) refs (place_of (path_at-full place i))))
      ∙ unless-full (walk_refusals w place) (giving w refs (place_of (path_at w place))) (giving (full_world told w) refs (place_of (path_at w place))) refl

  same-full : (a b : Place) → same_at (full_world told w) refs a b ≡ full_given told (same_at w refs a b)
  same-full a b = unless-full ((is_absent a, NoEntry) ∷ (is_absent b, NoEntry) ∷ []) (giving w refs (answer.Same (same_node a b))) (giving (full_world told w) refs (answer.Same (same_node a b))) refl

  -- Changes.

  added_at-full : (up : Option (ℕ × Text)) (it : Node) → full_node told it ≡ it → added_at (full_world told w).tree up it ≡ full told (added_at w.tree up it)
  unfolding full_world
  added_at-full None it plain = refl
  added_at-full (Some up) it plain = ap (λ (x : Node). added (full told w.tree) up.0 up.1 x) (sym plain) ∙ sym (go.added up.0 up.1 it)

  removed_at-full : (up : Option (ℕ × Text)) → removed_at (full_world told w).tree up ≡ full told (removed_at w.tree up)
  unfolding full_world
  removed_at-full None = refl
  removed_at-full (Some up) = sym (go.removed up.0 up.1)

  renamed_at-full : (from to : Option (ℕ × Text)) → renamed_at (full_world told w).tree from to ≡ full told (renamed_at w.tree from to)
  unfolding full_world
  renamed_at-full None to = refl
  renamed_at-full (Some from) None = refl
  renamed_at-full (Some from) (Some to) = sym (go.renamed from.0 from.1 to.0 to.1)

  linked_at-full : (from : Place) (to : Option (ℕ × Text)) → linked_at (full_world told w).tree from to ≡ full told (linked_at w.tree from to)
  unfolding full_world
  linked_at-full (Found at) None = refl
  linked_at-full (Found at) (Some up) = sym (go.linked up.0 up.1 at.node)
  linked_at-full (Absent dir name slash) to = refl

  with_mode_at-full : (place : Place) (mode : ℕ) → with_mode_at (full_world told w).tree place mode ≡ full told (with_mode_at w.tree place mode)
  unfolding full_world
  with_mode_at-full (Found at) mode = sym (go.set_mode at.node mode)
  with_mode_at-full (Absent dir name slash) mode = refl

  mkdir-full : (mode : ℕ) (place : Place) → mkdir_at (full_world told w) refs mode place ≡ full_given told (mkdir_at w refs mode place)
  mkdir-full mode place =
      (λ i. unless (full_world told w) refs ((nat_lt 511 mode, Invalid) ∷ (not (is_absent place), Exists) ∷ (lacks_w-full place i, Denied) ∷ []) (done (full_world told w) refs (added_at (full_world told w).tree (name_at place) (Dir mode))))
      ∙ unless-full (mkdir_refusals w mode place) (done w refs (added_at w.tree (name_at place) (Dir mode))) _ (done-full _ _ (added_at-full (name_at place) (Dir mode) refl))

  rmdir-full : (place : Place) → rmdir_at (full_world told w) refs place ≡ full_given told (rmdir_at w refs place)
  rmdir-full place =
      (λ i. unless (full_world told w) refs ((is_absent place, NoEntry) ∷ (is_nameless place, Invalid) ∷ (not (dir_at-full place i), NotDir) ∷ (names_stand-full place i, NotEmpty) ∷ (lacks_w-full place i, Denied) ∷ []) (done (full_world told w) refs (removed_at (full_world told w).tree (name_at place))))
      ∙ unless-full (rmdir_refusals w place) (done w refs (removed_at w.tree (name_at place))) _ (done-full _ _ (removed_at-full (name_at place)))

  unlink-full : (place : Place) → unlink_at (full_world told w) refs place ≡ full_given told (unlink_at w refs place)
  unlink-full place =
      (λ i. unless (full_world told w) refs ((is_absent place, NoEntry) ∷ (dir_at-full place i, IsDir) ∷ (lacks_w-full place i, Denied) ∷ []) (done (full_world told w) refs (removed_at (full_world told w).tree (name_at place))))
      ∙ unless-full (unlink_refusals w place) (done w refs (removed_at w.tree (name_at place))) _ (done-full _ _ (removed_at-full (name_at place)))

  pub into-full : (from : Place) (to : Option (ℕ × Text)) → goes_into_itself (full_world told w) from to ≡ goes_into_itself w from to
  unfolding full_world
  into-full (Found at) None = refl
  into-full (Found at) (Some up) = below-full told w.tree at.node up.0
  into-full (Absent dir name slash) to = refl

  moved-full : (from to : Place) → moved_at (full_world told w) refs from to ≡ full_given told (moved_at w refs from to)
  moved-full from to =
      (λ i. unless (full_world told w) refs ((lacks_w-full from i, Denied) ∷ (lacks_w-full to i, Denied)
      ∷ (dir_at-full from i && (not (is_absent to) && not (dir_at-full to i)), NotDir) ∷ (not (dir_at-full from i) && has_slash to, NotDir)
      ∷ (not (dir_at-full from i) && dir_at-full to i, IsDir) ∷ (into-full from (name_at to) i, Invalid) ∷ (names_stand-full to i, NotEmpty) ∷ []) (done (full_world told w) refs (renamed_at (full_world told w).tree (name_at from) (name_at to))))
      ∙ unless-full (rename_refusals w from to) (done w refs (renamed_at w.tree (name_at from) (name_at to))) _ (done-full _ _ (renamed_at-full (name_at from) (name_at to)))

  rename-full : (from to : Place) → rename_at (full_world told w) refs from to ≡ full_given told (rename_at w refs from to)
  rename-full from to = unless-full ((is_absent from, NoEntry) ∷ (is_nameless from || is_nameless to, Invalid) ∷ []) (cond (same_node from to) (giving w refs answer.Done) (moved_at w refs from to)) _ (by (same_node from to)) where
    by : (b : Bool) → cond b (giving (full_world told w) refs answer.Done) (moved_at (full_world told w) refs from to) ≡ full_given told (cond b (giving w refs answer.Done) (moved_at w refs from to))
    by true = refl
    by false = moved-full from to

  symlink-full : (text : Text) (place : Place) → symlink_at (full_world told w) refs text place ≡ full_given told (symlink_at w refs text place)
  symlink-full text place =
      (λ i. unless (full_world told w) refs ((is_empty text, NoEntry) ∷ (has_nul text, Invalid) ∷ (not (is_absent place), Exists) ∷ (lacks_w-full place i, Denied) ∷ []) (done (full_world told w) refs (added_at (full_world told w).tree (name_at place) (Link text))))
      ∙ unless-full (symlink_refusals w text place) (done w refs (added_at w.tree (name_at place) (Link text))) _ (done-full _ _ (added_at-full (name_at place) (Link text) refl))

  link-full : (from to : Place) → link_at (full_world told w) refs from to ≡ full_given told (link_at w refs from to)
  link-full from to =
      (λ i. unless (full_world told w) refs ((is_absent from, NoEntry) ∷ (dir_at-full from i, Denied) ∷ (not (is_absent to), Exists) ∷ (lacks_w-full to i, Denied) ∷ []) (done (full_world told w) refs (linked_at (full_world told w).tree from (name_at to))))
      ∙ unless-full (link_refusals w from to) (done w refs (linked_at w.tree from (name_at to))) _ (done-full _ _ (linked_at-full from (name_at to)))

  chmod-full : (mode : ℕ) (place : Place) → chmod_at (full_world told w) refs mode place ≡ full_given told (chmod_at w refs mode place)
  chmod-full mode place = unless-full ((nat_lt 511 mode, Invalid) ∷ (is_absent place, NoEntry) ∷ []) (done w refs (with_mode_at w.tree place mode)) _ (done-full _ _ (with_mode_at-full place mode))

  -- Open.

  opened-full : (tree full_one : Hierarchy) (how : How) (n m : ℕ) → full_one ≡ full told tree → m ≡ n → opened (full_world told w) refs full_one how m ≡ full_given told (opened w refs tree how n)
  unfolding full_world
  opened-full tree full_one how n m same is = λ i. record { answer = answer.Opened; refs = with_opened refs (length w.opens); world = with_open (record w { tree = same i }) (description how (is i)) }

  emptied-full : (how : How) (n : ℕ) → emptied how (full_world told w).tree n ≡ full told (emptied how w.tree n)
  unfolding full_world
  emptied-full how.Read n = refl
  emptied-full how.Make n = sym (go.set_bytes n [])
  emptied-full how.Append n = refl

  long : length (full_world told w).tree.nodes ≡ length w.tree.nodes
  unfolding full_world full
  long = long-full told w.tree.nodes

  open-full : (how : How) (place : Place) → open_at (full_world told w) refs how place ≡ full_given told (open_at w refs how place)
  unfolding full_world
  open-full how (Absent dir name slash) =
      (λ i. unless (full_world told w) refs ((is_read how, NoEntry) ∷ (lacks-full told w.tree dir i, Denied) ∷ []) (opened (full_world told w) refs (added (full_world told w).tree dir name (File 420 (Own []))) how (length (full_world told w).tree.nodes)))
      ∙ unless-full ((is_read how, NoEntry) ∷ (lacks_w w.tree dir, Denied) ∷ []) (opened w refs (added w.tree dir name (File 420 (Own []))) how (length w.tree.nodes)) _ (opened-full _ _ how _ _ (sym (go.added dir name (File 420 (Own [])))) long)
  open-full how (Found at) =
      (λ i. unless (full_world told w) refs ((dir-full told w.tree at.node i, IsDir) ∷ (lacks how (mode-full told w.tree at.node i), Denied) ∷ []) (opened (full_world told w) refs (emptied how (full_world told w).tree at.node) how at.node))
      ∙ unless-full ((is_dir (node w.tree at.node), IsDir) ∷ (lacks how (mode_of (node w.tree at.node)), Denied) ∷ []) (opened w refs (emptied how w.tree at.node) how at.node) _ (opened-full _ _ how _ _ (emptied-full how at.node) refl)

  -- Reading and writing.

  rest-full : (offset : ℕ) (s : Source) → known_from w s ≡ true → rest_of (full_world told w) offset s ≡ rest_of w offset s
  unfolding full_world
  rest-full offset (source.Node n) known = ap (λ (t : Text). drop offset t) (go.bytes n known)
  rest-full offset (source.Pipe p) known = refl
  rest-full offset source.Output known = refl
  rest-full offset source.ErrorText known = refl
  rest-full offset source.Nothing known = refl

  after_read-full : (k : ℕ) (d : Description) (s : Source) → known_from w s ≡ true → after_read (full_world told w) k d s ≡ full_world told (after_read w k d s)
  unfolding full_world
  after_read-full k d (source.Node n) known = λ i. with_offset (full_world told w) k d (length (go.bytes n known i))
  after_read-full k d (source.Pipe p) known = refl
  after_read-full k d source.Output known = refl
  after_read-full k d source.ErrorText known = refl
  after_read-full k d source.Nothing known = refl

  after_line-full : (k : ℕ) (d : Description) (s : Source) → known_from w s ≡ true → after_read_line (full_world told w) k d s ≡ full_world told (after_read_line w k d s)
  unfolding full_world
  after_line-full k d (source.Node n) known = λ i. with_offset (full_world told w) k d (line_end (go.bytes n known i) d.offset)
  after_line-full k d (source.Pipe p) known = refl
  after_line-full k d source.Output known = refl
  after_line-full k d source.ErrorText known = refl
  after_line-full k d source.Nothing known = refl

  after_write-full : (k : ℕ) (d : Description) (bytes : Text) (s : Source) → known_from w s ≡ true → after_write (full_world told w) k d bytes s ≡ full_world told (after_write w k d bytes s)
  unfolding full_world
  after_write-full k d bytes (source.Node n) known =
      (λ i. after_file_write (full_world told w) k d bytes n (place_in d (go.bytes n known i)))
      ∙ ap (λ (t : Hierarchy). record (with_offset w k d (place_in d (file_bytes (node w.tree n)) + length bytes)) { tree = t }) (sym (go.write n (place_in d (file_bytes (node w.tree n))) bytes known))
  after_write-full k d bytes (source.Pipe p) known = refl
  after_write-full k d bytes source.Output known = refl
  after_write-full k d bytes source.ErrorText known = refl
  after_write-full k d bytes source.Nothing known = refl

  read-full : (k : ℕ) (o : Option Description) → seen_by w reads o ≡ true → read_by (full_world told w) refs k o ≡ full_given told (read_by w refs k o)
  read-full k None seen = refl
  read-full k (Some d) seen = (elim d.read as (λ (b : Bool). (not b || known_from w d.source) ≡ true → unless (full_world told w) refs ((not b, BadRef) ∷ []) (giving (after_read (full_world told w) k d d.source) refs (answer.Content (rest_of (full_world told w) d.offset d.source))) ≡ full_given told (unless w refs ((not b, BadRef) ∷ []) (giving (after_read w k d d.source) refs (answer.Content (rest_of w d.offset d.source))))) [
    | true ↦ λ known. λ i. record { answer = answer.Content (rest-full d.offset d.source known i); refs = refs; world = after_read-full k d d.source known i }
    | false ↦ λ known. refl
  ]) seen

  line-full : (k : ℕ) (o : Option Description) → seen_by w reads o ≡ true → read_line_by (full_world told w) refs k o ≡ full_given told (read_line_by w refs k o)
  line-full k None seen = refl
  line-full k (Some d) seen = (elim d.read as (λ (b : Bool). (not b || known_from w d.source) ≡ true → unless (full_world told w) refs ((not b, BadRef) ∷ []) (giving (after_read_line (full_world told w) k d d.source) refs (answer.Content (line_of (rest_of (full_world told w) d.offset d.source)))) ≡ full_given told (unless w refs ((not b, BadRef) ∷ []) (giving (after_read_line w k d d.source) refs (answer.Content (line_of (rest_of w d.offset d.source)))))) [
    | true ↦ λ known. λ i. record { answer = answer.Content (line_of (rest-full d.offset d.source known i)); refs = refs; world = after_line-full k d d.source known i }
    | false ↦ λ known. refl
  ]) seen

  written-full : (k : ℕ) (d : Description) (bytes : Text) (b : Bool) → (not (not b) || known_from w d.source) ≡ true → cond b (full_world told w) (after_write (full_world told w) k d bytes d.source) ≡ full_world told (cond b w (after_write w k d bytes d.source))
  written-full k d bytes true seen = refl
  written-full k d bytes false seen = after_write-full k d bytes d.source seen

  write-full : (bytes : Text) (k : ℕ) (o : Option Description) → seen_by w (writes bytes) o ≡ true → write_by (full_world told w) refs bytes k o ≡ full_given told (write_by w refs bytes k o)
  write-full bytes k None seen = refl
  write-full bytes k (Some d) seen = (elim d.write as (λ (b : Bool). (not (b && not (is_empty bytes)) || known_from w d.source) ≡ true → unless (full_world told w) refs ((not b, BadRef) ∷ []) (giving (if is_empty bytes then full_world told w else after_write (full_world told w) k d bytes d.source) refs answer.Done) ≡ full_given told (unless w refs ((not b, BadRef) ∷ []) (giving (if is_empty bytes then w else after_write w k d bytes d.source) refs answer.Done))) [
    | true ↦ λ known. λ i. record { answer = answer.Done; refs = refs; world = written-full k d bytes (is_empty bytes) known i }
    | false ↦ λ known. refl
  ]) seen

  read_ref-full : (o : Option ℕ) → seen_ref w reads o ≡ true → read_ref (full_world told w) refs o ≡ full_given told (read_ref w refs o)
  unfolding full_world
  read_ref-full None seen = refl
  read_ref-full (Some k) seen = read-full k (slice_get w.opens k) seen

  line_ref-full : (o : Option ℕ) → seen_ref w reads o ≡ true → read_line_ref (full_world told w) refs o ≡ full_given told (read_line_ref w refs o)
  unfolding full_world
  line_ref-full None seen = refl
  line_ref-full (Some k) seen = line-full k (slice_get w.opens k) seen

  write_ref-full : (bytes : Text) (o : Option ℕ) → seen_ref w (writes bytes) o ≡ true → write_ref (full_world told w) refs bytes o ≡ full_given told (write_ref w refs bytes o)
  unfolding full_world
  write_ref-full bytes None seen = refl
  write_ref-full bytes (Some k) seen = write-full bytes k (slice_get w.opens k) seen

  stat_spot : (spot : Spot) → known_place w spot ≡ true → at_place (full_world told w) refs spot (stat_at (full_world told w) refs) ≡ full_given told (at_place w refs spot (stat_at w refs))
  stat_spot (Err e) known = refl
  stat_spot (Ok place) known = stat-full place known

  at_spot : (spot full_spot : Spot) (row full_row : Place → Given World) → full_spot ≡ spot → ((place : Place) → full_row place ≡ full_given told (row place)) → at_place (full_world told w) refs full_spot full_row ≡ full_given told (at_place w refs spot row)
  at_spot spot full_spot row full_row is same = ap (λ (s : Spot). at_place (full_world told w) refs s full_row) is ∙ place-full spot row full_row same

  pipe-full : piped (full_world told w) refs ≡ full_given told (piped w refs)
  unfolding full_world
  pipe-full = refl

  all : (c : Call) → sees w refs c ≡ true → answered (full_world told w) refs c ≡ full_given told (answered w refs c)
  all (call.Open path how) seen = at_spot (followed w path) _ (open_at w refs how) _ (followed-full path) (open-full how)
  all (call.Read r) seen = read_ref-full (ref_at refs r) (by-ref w reads (ref_at refs r) seen)
  all (call.ReadLine r) seen = line_ref-full (ref_at refs r) (by-ref w reads (ref_at refs r) seen)
  all (call.Write r bytes) seen = write_ref-full bytes (ref_at refs r) (by-write w (ref_at refs r) (is_empty bytes) seen)
  all (call.Stat path follow) seen = ap (λ (s : Spot). at_place (full_world told w) refs s (stat_at (full_world told w) refs)) (resolve-full path follow) ∙ stat_spot (resolve w.tree path follow) (by-place w (resolve w.tree path follow) seen)
  all (call.List path) seen = at_spot (followed w path) _ (list_at w refs) _ (followed-full path) list-full
  all (call.ReadLink path) seen = at_spot (itself w path) _ (read_link_at w refs) _ (itself-full path) read_link-full
  all (call.Walk path) seen = at_spot (followed w path) _ (walk_at w refs) _ (followed-full path) walk-full
  all (call.Same a b) seen = at_spot (followed w a) _ (λ first. at_place w refs (followed w b) (same_at w refs first)) _ (followed-full a) (λ first. at_spot (followed w b) _ (same_at w refs first) _ (followed-full b) (same-full first))
  all (call.Mkdir path mode) seen = at_spot (resolve w.tree path false) _ (mkdir_at w refs mode) _ (resolve-full path false) (mkdir-full mode)
  all (call.Rmdir path) seen = at_spot (itself w path) _ (rmdir_at w refs) _ (itself-full path) rmdir-full
  all (call.Unlink path) seen = at_spot (itself w path) _ (unlink_at w refs) _ (itself-full path) unlink-full
  all (call.Rename a b) seen = at_spot (itself w a) _ (λ from. at_place w refs (resolve w.tree b false) (rename_at w refs from)) _ (itself-full a) (λ from. at_spot (resolve w.tree b false) _ (rename_at w refs from) _ (resolve-full b false) (rename-full from))
  all (call.Symlink text path) seen = at_spot (itself w path) _ (symlink_at w refs text) _ (itself-full path) (symlink-full text)
  all (call.Link a b) seen = at_spot (itself w a) _ (λ from. at_place w refs (itself w b) (link_at w refs from)) _ (itself-full a) (λ from. at_spot (itself w b) _ (link_at w refs from) _ (itself-full b) (link-full from))
  all (call.Chmod path mode) seen = at_spot (followed w path) _ (chmod_at w refs mode) _ (followed-full path) (chmod-full mode)
  all call.Pipe seen = pipe-full
  all (call.Launch key map) seen = refl

pub answers : AnswersAlike
answers told w refs c seen = all told w refs c seen
