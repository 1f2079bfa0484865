-- Which files a call leaves as they are.
use Rattle.std.proofs.Common.{◌≡◌, ◌≢◌, ℕ, zero, suc, List, [], ◌∷◌, ◌++◌, length, drop, Bool, true, false, cond, not, ◌&&◌, ◌||◌, Option, Some, None, refl, sym, ap, ◌∙◌}
use Rattle.std.specs.Prelude.{slice_get, slice_set, nat_lt, ◌==◌, Ok, Err}
use Rattle.std.proofs.lemmas.Bool.{eqb-true}
use Rattle.rk_base.specs.Text.{Text}
use Rattle.rk_base.specs.Canonical.{is_empty}
use Rattle.rk_base.specs.declared.errno.Errno.{Errno}
use Rattle.rk_base.specs.declared.errno.Errno.TheVariants.{NoEntry, IsDir, Denied, BadRef, Invalid}
use Rattle.rk_calls.specs.Given.{Given}
use Rattle.rk_calls.specs.Refs.{RefsHeld, ref_at}
use Rattle.rk_calls.specs.declared.answer.Answer.TheVariants as answer
use Rattle.rk_calls.specs.declared.call.Call.{Call}
use Rattle.rk_calls.specs.declared.call.Call.TheVariants as call
use Rattle.rk_calls.specs.declared.call.How.{How}
use Rattle.rk_calls.specs.declared.call.How.TheVariants as how
use Rattle.rk_content.specs.Contents.{Keeps}
use Rattle.rk_tree.specs.Entries.{is_dir}
use Rattle.rk_tree.specs.Hierarchy.{Hierarchy, added, changed_at, child, file_bytes, held_in, is_same, linked, mode_of, moved_paths, node, over_written, path_of, removed, renamed, replaced, set_bytes, with_mode, with_path, write}
use Rattle.rk_tree.specs.Content.{bytes_of}
use Rattle.rk_tree.specs.declared.content.Content.{Content}
use Rattle.rk_tree.specs.declared.content.Content.TheVariants.{Own}
use Rattle.rk_tree.specs.Node.{Node, File, Dir, Link}
use Rattle.rk_tree.specs.Refusals.{lacks_w}
use Rattle.rk_walk.specs.Walk.{Spot, resolve}
use Rattle.rk_walk.specs.declared.place.Place.{Place}
use Rattle.rk_walk.specs.declared.place.Place.TheVariants.{Found, Absent}
use Rattle.rk_kernel.specs.World.{World, rest_of, after_read, after_read_line, after_write, place_in}
use Rattle.rk_kernel.specs.Rows.{refused, giving, done, unless, at_place, strict, is_absent, is_nameless, name_at, same_node, node_at}
use Rattle.rk_kernel.specs.Opening.{opened, is_read, lacks, open_at}
use Rattle.rk_kernel.specs.Changes.{added_at, linked_at, removed_at, renamed_at, with_mode_at, mkdir_refusals, mkdir_at, rmdir_refusals, rmdir_at, unlink_refusals, unlink_at, rename_refusals, rename_at, moved_at, symlink_refusals, symlink_at, link_refusals, link_at, chmod_at}
use Rattle.rk_kernel.specs.Questions.{stat_of, stat_at, names_at, list_refusals, list_at, read_link_refusals, read_link_at, place_of, path_at, walk_refusals, walk_at, same_at}
use Rattle.rk_kernel.specs.Do.{read_by, read_ref, read_line_by, read_line_ref, write_by, write_ref, followed, itself, answered}
use Rattle.rk_kernel.specs.Numbers.{AreNumbered, IsFileContent, IsOther, Stays, file_of, file_by, file_opened, is_at_start, file_read, file_made, file_changed, without_number}
use Rattle.rk_kernel.specs.declared.description.Description.{Description}
use Rattle.rk_kernel.specs.declared.description.Source.{Source}
use Rattle.rk_kernel.specs.declared.description.Source.TheVariants as source

-- Trees.

one_more : (nodes : List Node) (it : Node) (n : ℕ) → held_in (Some it) ≡ Own [] → held_in (slice_get (nodes ++ it ∷ []) n) ≡ held_in (slice_get nodes n)
one_more [] it zero none = none
one_more [] it (suc n) none = refl
one_more (x ∷ nodes) it zero none = refl
one_more (x ∷ nodes) it (suc n) none = one_more nodes it n none

added-stays : (but : Option ℕ) (tree : Hierarchy) (dir : ℕ) (name : Text) (it : Node) → held_in (Some it) ≡ Own [] → Stays but tree (added tree dir name it)
unfolding added
added-stays but tree dir name it none n other = one_more tree.nodes it n none

added_at-stays : (but : Option ℕ) (tree : Hierarchy) (up : Option (ℕ × Text)) (it : Node) → held_in (Some it) ≡ Own [] → Stays but tree (added_at tree up it)
added_at-stays but tree None it none n other = refl
added_at-stays but tree (Some up) it none n other = added-stays but tree up.0 up.1 it none n other

linked_at-stays : (but : Option ℕ) (tree : Hierarchy) (from : Place) (up : Option (ℕ × Text)) → Stays but tree (linked_at tree from up)
unfolding linked
linked_at-stays but tree (Found at) (Some up) n other = refl
linked_at-stays but tree (Found at) None n other = refl
linked_at-stays but tree (Absent dir name slash) up n other = refl

removed_at-stays : (but : Option ℕ) (tree : Hierarchy) (up : Option (ℕ × Text)) → Stays but tree (removed_at tree up)
unfolding removed
removed_at-stays but tree None n other = refl
removed_at-stays but tree (Some up) n other = refl

renamed_at-stays : (but : Option ℕ) (tree : Hierarchy) (from to : Option (ℕ × Text)) → Stays but tree (renamed_at tree from to)
unfolding renamed
renamed_at-stays but tree (Some from) (Some to) n other = elim (is_same (child tree from.0 from.1) (child tree to.0 to.1)) as (λ (b : Bool). held_in (node (cond b tree (record tree { paths = with_path (path_of tree from.0) (λ p. with_path (path_of tree to.0) (λ q. moved_paths (Rattle.rk_base.specs.Text.join p from.1) (Rattle.rk_base.specs.Text.join q to.1) tree.paths) tree.paths) tree.paths })) n) ≡ held_in (node tree n)) [
  | true ↦ refl
  | false ↦ refl
]
renamed_at-stays but tree (Some from) None n other = refl
renamed_at-stays but tree None to n other = refl

-- a change of one node

behind_first : (f : Node → Node) (x : Node) (nodes : List Node) (m : ℕ) (it : Option Node) → changed_at f (x ∷ nodes) (suc m) it ≡ x ∷ changed_at f nodes m it
behind_first f x nodes m None = refl
behind_first f x nodes m (Some it) = refl

pub other_node : (f : Node → Node) (nodes : List Node) (m n : ℕ) → m ≢ n → slice_get (changed_at f nodes m (slice_get nodes m)) n ≡ slice_get nodes n
other_node f [] m n other = refl
other_node f (x ∷ nodes) zero zero other = absurd (other refl)
other_node f (x ∷ nodes) zero (suc n) other = refl
other_node f (x ∷ nodes) (suc m) zero other = ap (λ (all : List Node). slice_get all zero) (behind_first f x nodes m (slice_get nodes m))
other_node f (x ∷ nodes) (suc m) (suc n) other = ap (λ (all : List Node). slice_get all (suc n)) (behind_first f x nodes m (slice_get nodes m)) ∙ other_node f nodes m n (λ e. other (ap suc e))

same_bytes : (mode : ℕ) (it : Node) → held_in (Some (with_mode mode it)) ≡ held_in (Some it)
same_bytes mode (File old bytes) = refl
same_bytes mode (Dir old) = refl
same_bytes mode (Link text) = refl

moded : (mode : ℕ) (nodes : List Node) (m n : ℕ) → held_in (slice_get (changed_at (with_mode mode) nodes m (slice_get nodes m)) n) ≡ held_in (slice_get nodes n)
moded mode [] m n = refl
moded mode (x ∷ nodes) zero zero = same_bytes mode x
moded mode (x ∷ nodes) zero (suc n) = refl
moded mode (x ∷ nodes) (suc m) zero = ap (λ (all : List Node). held_in (slice_get all zero)) (behind_first (with_mode mode) x nodes m (slice_get nodes m))
moded mode (x ∷ nodes) (suc m) (suc n) = ap (λ (all : List Node). held_in (slice_get all (suc n))) (behind_first (with_mode mode) x nodes m (slice_get nodes m)) ∙ moded mode nodes m n

with_mode_at-stays : (but : Option ℕ) (tree : Hierarchy) (place : Place) (mode : ℕ) → Stays but tree (with_mode_at tree place mode)
with_mode_at-stays but tree (Found at) mode n other = moded mode tree.nodes at.node n
with_mode_at-stays but tree (Absent dir name slash) mode n other = refl

-- Rows.

module _ (world : World) (refs : RefsHeld) (but : Option ℕ) where
  Leaves : Given World → Type 0
  Leaves given = Stays but world.tree given.world.tree

  unless-leaves : (checks : List (Bool × Errno)) (given : Given World) → Stays but world.tree given.world.tree → Stays but world.tree (unless world refs checks given).world.tree
  unless-leaves [] given h = h
  unless-leaves (check ∷ checks) given h = elim check.0 as (λ (b : Bool). Stays but world.tree (cond b (refused world refs check.1) (unless world refs checks given)).world.tree) [
    | true ↦ λ n other. refl
    | false ↦ unless-leaves checks given h
  ]

  place-leaves : (spot : Spot) (row : Place → Given World) → ((place : Place) → Stays but world.tree (row place).world.tree) → Stays but world.tree (at_place world refs spot row).world.tree
  place-leaves (Err e) row h n other = refl
  place-leaves (Ok place) row h n other = h place n other

  -- what changes nothing
  asks : (checks : List (Bool × Errno)) (it : Rattle.rk_calls.specs.declared.answer.Answer.Answer) → Stays but world.tree (unless world refs checks (giving world refs it)).world.tree
  asks checks it = unless-leaves checks (giving world refs it) (λ n other. refl)

  -- a tree in which each file stays
  makes : (checks : List (Bool × Errno)) (tree : Hierarchy) → Stays but world.tree tree → Stays but world.tree (unless world refs checks (done world refs tree)).world.tree
  makes checks tree h = unless-leaves checks (done world refs tree) h

  read-tree : (k : ℕ) (d : Description) (s : Source) → Stays but world.tree (after_read world k d s).tree
  read-tree k d (source.Node m) n other = refl
  read-tree k d (source.Pipe p) n other = refl
  read-tree k d source.Output n other = refl
  read-tree k d source.ErrorText n other = refl
  read-tree k d source.Nothing n other = refl

  line-tree : (k : ℕ) (d : Description) (s : Source) → Stays but world.tree (after_read_line world k d s).tree
  line-tree k d (source.Node m) n other = refl
  line-tree k d (source.Pipe p) n other = refl
  line-tree k d source.Output n other = refl
  line-tree k d source.ErrorText n other = refl
  line-tree k d source.Nothing n other = refl

  read_by-leaves : (k : ℕ) (d : Option Description) → Stays but world.tree (read_by world refs k d).world.tree
  read_by-leaves k None n other = refl
  read_by-leaves k (Some d) n other = unless-leaves ((not d.read, BadRef) ∷ []) (giving (after_read world k d d.source) refs (answer.Content (rest_of world d.offset d.source))) (read-tree k d d.source) n other

  read-leaves : (k : Option ℕ) → Stays but world.tree (read_ref world refs k).world.tree
  read-leaves None n other = refl
  read-leaves (Some k) n other = read_by-leaves k (slice_get world.opens k) n other

  line_by-leaves : (k : ℕ) (d : Option Description) → Stays but world.tree (read_line_by world refs k d).world.tree
  line_by-leaves k None n other = refl
  line_by-leaves k (Some d) n other = unless-leaves ((not d.read, BadRef) ∷ []) (giving (after_read_line world k d d.source) refs (answer.Content (Rattle.rk_kernel.specs.World.line_of (rest_of world d.offset d.source)))) (line-tree k d d.source) n other

  line-leaves : (k : Option ℕ) → Stays but world.tree (read_line_ref world refs k).world.tree
  line-leaves None n other = refl
  line-leaves (Some k) n other = line_by-leaves k (slice_get world.opens k) n other

  rename-leaves : (from to : Place) → Stays but world.tree (rename_at world refs from to).world.tree
  rename-leaves from to =
      unless-leaves ((is_absent from, NoEntry) ∷ (is_nameless from || is_nameless to, Invalid) ∷ []) (cond (same_node from to) (giving world refs answer.Done) (moved_at world refs from to))
      (elim (same_node from to) as (λ (b : Bool). Stays but world.tree (cond b (giving world refs answer.Done) (moved_at world refs from to)).world.tree) [
        | true ↦ λ n other. refl
        | false ↦ makes (rename_refusals world from to) (renamed_at world.tree (name_at from) (name_at to)) (renamed_at-stays but world.tree (name_at from) (name_at to))
      ])

-- Write: the file that is written to may change.

written : (world : World) (k : ℕ) (d : Description) (bytes : Text) (s : Source) → Stays (file_of s) world.tree (after_write world k d bytes s).tree
written world k d bytes (source.Node m) n other = ap held_in (other_node (over_written (place_in d (file_bytes (node world.tree m))) bytes) world.tree.nodes m n other)
written world k d bytes (source.Pipe p) n other = refl
written world k d bytes source.Output n other = refl
written world k d bytes source.ErrorText n other = refl
written world k d bytes source.Nothing n other = refl

write_some : (world : World) (k : ℕ) (d : Description) (bytes : Text) → Stays (file_of d.source) world.tree (cond (is_empty bytes) world (after_write world k d bytes d.source)).tree
write_some world k d bytes = elim (is_empty bytes) as (λ (b : Bool). Stays (file_of d.source) world.tree (cond b world (after_write world k d bytes d.source)).tree) [
  | true ↦ λ n other. refl
  | false ↦ written world k d bytes d.source
]

write_by-leaves : (world : World) (refs : RefsHeld) (bytes : Text) (k : ℕ) (d : Option Description) → Stays (file_by (λ d. true) d) world.tree (write_by world refs bytes k d).world.tree
write_by-leaves world refs bytes k None n other = refl
write_by-leaves world refs bytes k (Some d) n other =
    unless-leaves world refs (file_of d.source) ((not d.write, BadRef) ∷ []) (giving (cond (is_empty bytes) world (after_write world k d bytes d.source)) refs answer.Done) (write_some world k d bytes) n other

write-leaves : (world : World) (refs : RefsHeld) (bytes : Text) (k : Option ℕ) → Stays (file_opened world (λ d. true) k) world.tree (write_ref world refs bytes k).world.tree
write-leaves world refs bytes None n other = refl
write-leaves world refs bytes (Some k) n other = write_by-leaves world refs bytes k (slice_get world.opens k) n other

-- Open: the file that is made anew may change.

open_new : (world : World) (refs : RefsHeld) (but : Option ℕ) (how : How) (dir : ℕ) (name : Text) (slash : Bool) → Stays but world.tree (open_at world refs how (Absent dir name slash)).world.tree
open_new world refs but how dir name slash =
    unless-leaves world refs but ((is_read how, NoEntry) ∷ (lacks_w world.tree dir, Denied) ∷ []) (opened world refs (added world.tree dir name (File 420 (Own []))) how (length world.tree.nodes))
    (added-stays but world.tree dir name (File 420 (Own [])) refl)

pub open_strictly : (world : World) (refs : RefsHeld) (but : Option ℕ) (how : How) (dir : ℕ) (name : Text) (slash : Bool) → Stays but world.tree (at_place world refs (strict (Ok (Absent dir name slash))) (open_at world refs how)).world.tree
open_strictly world refs but how dir name true n other = refl
open_strictly world refs but how dir name false n other = open_new world refs but how dir name false n other

open-leaves : (world : World) (refs : RefsHeld) (how : How) (spot : Spot) → Stays (file_made how spot) world.tree (at_place world refs (strict spot) (open_at world refs how)).world.tree
open-leaves world refs how.Read (Err e) n other = refl
open-leaves world refs how.Make (Err e) n other = refl
open-leaves world refs how.Append (Err e) n other = refl
open-leaves world refs how.Read (Ok (Absent dir name slash)) n other = open_strictly world refs None how.Read dir name slash n other
open-leaves world refs how.Make (Ok (Absent dir name slash)) n other = open_strictly world refs None how.Make dir name slash n other
open-leaves world refs how.Append (Ok (Absent dir name slash)) n other = open_strictly world refs None how.Append dir name slash n other
open-leaves world refs how.Read (Ok (Found at)) n other =
    unless-leaves world refs None ((is_dir (node world.tree at.node), IsDir) ∷ (lacks how.Read (mode_of (node world.tree at.node)), Denied) ∷ []) (opened world refs world.tree how.Read at.node) (λ n other. refl) n other
open-leaves world refs how.Append (Ok (Found at)) n other =
    unless-leaves world refs None ((is_dir (node world.tree at.node), IsDir) ∷ (lacks how.Append (mode_of (node world.tree at.node)), Denied) ∷ []) (opened world refs world.tree how.Append at.node) (λ n other. refl) n other
open-leaves world refs how.Make (Ok (Found at)) n other =
    unless-leaves world refs (Some at.node) ((is_dir (node world.tree at.node), IsDir) ∷ (lacks how.Make (mode_of (node world.tree at.node)), Denied) ∷ []) (opened world refs (set_bytes world.tree at.node []) how.Make at.node)
    (λ n other. ap held_in (other_node (replaced []) world.tree.nodes at.node n other)) n other

-- a call changes the bytes of no other file
pub stays : (world : World) (refs : RefsHeld) (c : Call) → Stays (file_changed world refs c) world.tree (answered world refs c).world.tree
stays world refs (call.Open path how) n other = open-leaves world refs how (resolve world.tree path true) n other
stays world refs (call.Read r) n other = read-leaves world refs None (ref_at refs r) n other
stays world refs (call.ReadLine r) n other = line-leaves world refs None (ref_at refs r) n other
stays world refs (call.Write r bytes) n other = write-leaves world refs bytes (ref_at refs r) n other
stays world refs (call.Stat path follow) n other = place-leaves world refs None (resolve world.tree path follow) (stat_at world refs) (λ place. asks world refs None ((is_absent place, NoEntry) ∷ []) (stat_of (node_at world place))) n other
stays world refs (call.List path) n other = place-leaves world refs None (followed world path) (list_at world refs) (λ place. asks world refs None (list_refusals world place) (answer.Names (names_at world place))) n other
stays world refs (call.ReadLink path) n other = place-leaves world refs None (itself world path) (read_link_at world refs) (λ place. asks world refs None (read_link_refusals world place) (answer.Text (Rattle.rk_tree.specs.Hierarchy.text_of (node_at world place)))) n other
stays world refs (call.Walk path) n other = place-leaves world refs None (followed world path) (walk_at world refs) (λ place. asks world refs None (walk_refusals world place) (place_of (path_at world place))) n other
stays world refs (call.Same a b) n other =
    place-leaves world refs None (followed world a) (λ first. at_place world refs (followed world b) (same_at world refs first))
    (λ first. place-leaves world refs None (followed world b) (same_at world refs first) (λ second. asks world refs None ((is_absent first, NoEntry) ∷ (is_absent second, NoEntry) ∷ []) (answer.Same (same_node first second)))) n other
stays world refs (call.Mkdir path mode) n other = place-leaves world refs None (resolve world.tree path false) (mkdir_at world refs mode) (λ place. makes world refs None (mkdir_refusals world mode place) (added_at world.tree (name_at place) (Dir mode)) (added_at-stays None world.tree (name_at place) (Dir mode) refl)) n other
stays world refs (call.Rmdir path) n other = place-leaves world refs None (itself world path) (rmdir_at world refs) (λ place. makes world refs None (rmdir_refusals world place) (removed_at world.tree (name_at place)) (removed_at-stays None world.tree (name_at place))) n other
stays world refs (call.Unlink path) n other = place-leaves world refs None (itself world path) (unlink_at world refs) (λ place. makes world refs None (unlink_refusals world place) (removed_at world.tree (name_at place)) (removed_at-stays None world.tree (name_at place))) n other
stays world refs (call.Rename a b) n other =
    place-leaves world refs None (itself world a) (λ from. at_place world refs (resolve world.tree b false) (rename_at world refs from))
    (λ from. place-leaves world refs None (resolve world.tree b false) (rename_at world refs from) (λ to. rename-leaves world refs None from to)) n other
stays world refs (call.Symlink text path) n other = place-leaves world refs None (itself world path) (symlink_at world refs text) (λ place. makes world refs None (symlink_refusals world text place) (added_at world.tree (name_at place) (Link text)) (added_at-stays None world.tree (name_at place) (Link text) refl)) n other
stays world refs (call.Link a b) n other =
    place-leaves world refs None (itself world a) (λ from. at_place world refs (itself world b) (link_at world refs from))
    (λ from. place-leaves world refs None (itself world b) (link_at world refs from) (λ to. makes world refs None (link_refusals world from to) (linked_at world.tree from (name_at to)) (linked_at-stays None world.tree from (name_at to)))) n other
stays world refs (call.Chmod path mode) n other = place-leaves world refs None (followed world path) (chmod_at world refs mode) (λ place. makes world refs None ((nat_lt 511 mode, Invalid) ∷ (is_absent place, NoEntry) ∷ []) (with_mode_at world.tree place mode) (with_mode_at-stays None world.tree place mode)) n other
stays world refs call.Pipe n other = refl
stays world refs (call.Launch key map) n other = refl

-- Numbers.

-- a number that is left is another file's, and stood there
left : (numbers : List (Option ℕ)) (m n id : ℕ) → slice_get (slice_set numbers m None) n ≡ Some (Some id) → (m ≢ n) × (slice_get numbers n ≡ Some (Some id))
left [] m n id at = cc
left (x ∷ numbers) zero zero id at = cc
left (x ∷ numbers) zero (suc n) id at = (λ e. cc, at)
left (x ∷ numbers) (suc m) zero id at = (λ e. cc, at)
left (x ∷ numbers) (suc m) (suc n) id at = let h = left numbers m n id at in (λ e. h.0 (let q : m ≡ n = cc in q), h.1)

kept_number : (file : Option ℕ) (numbers : List (Option ℕ)) (n id : ℕ) → slice_get (without_number file numbers) n ≡ Some (Some id) → IsOther file n × (slice_get numbers n ≡ Some (Some id))
kept_number None numbers n id at = (tt, at)
kept_number (Some m) numbers n id at = left numbers m n id at

-- after a call each number that is left is that of its file's bytes
pub still_numbered : (world : World) (refs : RefsHeld) (c : Call) (contents : List Text) (numbers : List (Option ℕ)) → AreNumbered contents numbers world.tree → AreNumbered contents (without_number (file_changed world refs c) numbers) (answered world refs c).world.tree
still_numbered world refs c contents numbers h n id at =
    let k = kept_number (file_changed world refs c) numbers n id at in
    h n id k.1 ∙ ap (λ (it : Content). Some (bytes_of it)) (sym (stays world refs c n k.0))

-- the same, by what a call has left
pub asked : (world now : World) (refs then : RefsHeld) (c : Call) (it : Rattle.rk_calls.specs.declared.answer.Answer.Answer) (contents : List Text) (numbers were fewer : List (Option ℕ)) (changed : Option ℕ) → AreNumbered contents numbers world.tree → changed ≡ file_changed world refs c → were ≡ numbers
    → fewer ≡ without_number changed were → ◌≡◌ {A = Given World} (record { answer = it; refs = then; world = now }) (answered world refs c) → AreNumbered contents fewer now.tree
asked world now refs then c it contents numbers were fewer changed h is same less gives n id at =
    let there = ap (λ (list : List (Option ℕ)). slice_get list n) (sym (less ∙ ap (without_number changed) same ∙ ap (λ (file : Option ℕ). without_number file numbers) is)) ∙ at in
    still_numbered world refs c contents numbers h n id there ∙ ap (λ (g : Given World). Some (file_bytes (node g.world.tree n))) (sym gives)

-- more contents have numbers
pub more_numbered : (old new : List Text) (numbers : List (Option ℕ)) (tree : Hierarchy) → AreNumbered old numbers tree → Keeps old new → AreNumbered new numbers tree
more_numbered old new numbers tree h kept n id at = kept id (file_bytes (node tree n)) (h n id at)

-- Reading a whole file.

whole_source : (world : World) (offset : ℕ) (s : Source) (n : ℕ) → offset ≡ 0 → file_of s ≡ Some n → rest_of world offset s ≡ file_bytes (node world.tree n)
whole_source world offset (source.Node m) n start is = ap (λ (k : ℕ). drop k (file_bytes (node world.tree m))) start ∙ ap (λ (k : ℕ). file_bytes (node world.tree k)) (let e : m ≡ n = cc in e)
whole_source world offset (source.Pipe p) n start is = cc
whole_source world offset source.Output n start is = cc
whole_source world offset source.ErrorText n start is = cc
whole_source world offset source.Nothing n start is = cc

whole_if : (world : World) (refs : RefsHeld) (now : World) (offset : ℕ) (s : Source) (n : ℕ) (read : Bool) → cond (read && (offset == 0)) (file_of s) None ≡ Some n
    → (cond (not read) (refused world refs BadRef) (giving now refs (answer.Content (rest_of world offset s)))).answer ≡ answer.Content (file_bytes (node world.tree n))
whole_if world refs now offset s n false is = cc
whole_if world refs now offset s n true is = (elim (offset == 0) as (λ (b : Bool). (offset == 0) ≡ b → cond b (file_of s) None ≡ Some n → answer.Content (rest_of world offset s) ≡ answer.Content (file_bytes (node world.tree n))) [
  | true ↦ λ e h. ap (λ (text : Text). answer.Content text) (whole_source world offset s n (eqb-true offset 0 e) h)
  | false ↦ λ e h. cc
]) refl is

whole_by : (world : World) (refs : RefsHeld) (k : ℕ) (d : Option Description) (n : ℕ) → file_by is_at_start d ≡ Some n → (read_by world refs k d).answer ≡ answer.Content (file_bytes (node world.tree n))
whole_by world refs k None n is = cc
whole_by world refs k (Some d) n is = whole_if world refs (after_read world k d d.source) d.offset d.source n d.read is

whole_ref : (world : World) (refs : RefsHeld) (k : Option ℕ) (n : ℕ) → file_opened world is_at_start k ≡ Some n → (read_ref world refs k).answer ≡ answer.Content (file_bytes (node world.tree n))
whole_ref world refs None n is = cc
whole_ref world refs (Some k) n is = whole_by world refs k (slice_get world.opens k) n is

whole : (world : World) (refs : RefsHeld) (c : Call) (n : ℕ) → file_read world refs c ≡ Some n → ((answered world refs c).answer ≡ answer.Content (file_bytes (node world.tree n))) × (file_changed world refs c ≡ None)
whole world refs (call.Read r) n is = (whole_ref world refs (ref_at refs r) n is, refl)
whole world refs (call.Open path how) n is = cc
whole world refs (call.ReadLine r) n is = cc
whole world refs (call.Write r bytes) n is = cc
whole world refs (call.Stat path follow) n is = cc
whole world refs (call.List path) n is = cc
whole world refs (call.ReadLink path) n is = cc
whole world refs (call.Walk path) n is = cc
whole world refs (call.Same a b) n is = cc
whole world refs (call.Mkdir path mode) n is = cc
whole world refs (call.Rmdir path) n is = cc
whole world refs (call.Unlink path) n is = cc
whole world refs (call.Rename a b) n is = cc
whole world refs (call.Symlink text path) n is = cc
whole world refs (call.Link a b) n is = cc
whole world refs (call.Chmod path mode) n is = cc
whole world refs call.Pipe n is = cc
whole world refs (call.Launch key map) n is = cc

-- what is read of a whole file is what it has, before the call and after it
pub read_whole : (world now : World) (refs then : RefsHeld) (c : Call) (n : ℕ) (it : Rattle.rk_calls.specs.declared.answer.Answer.Answer) → file_read world refs c ≡ Some n → ◌≡◌ {A = Given World} (record { answer = it; refs = then; world = now }) (answered world refs c) → IsFileContent now.tree n it
read_whole world now refs then c n it is gives =
    let h = whole world refs c n is in
    ap (λ (g : Given World). g.answer) gives ∙ h.0
    ∙ ap (λ (it : Content). answer.Content (bytes_of it)) (sym (stays world refs c n (rw h.1 tt)) ∙ sym (ap (λ (g : Given World). held_in (node g.world.tree n)) gives))
