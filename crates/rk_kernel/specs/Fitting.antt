-- The world's answers fit their calls.
use Rattle.std.proofs.Common.{◌≡◌, ℕ, ◌%◌, List, [], ◌∷◌, length, Bool, true, false, cond, not, ◌||◌, Option, Some, None, Ok, Err, refl, arith}
use Rattle.std.proofs.lemmas.Bool.{le-leb}
use Rattle.std.specs.Prelude.{slice_get, nat_le, nat_lt}
use Rattle.rk_base.specs.Text.{Text}
use Rattle.rk_base.specs.declared.errno.Errno.{Errno}
use Rattle.rk_base.specs.declared.errno.Errno.TheVariants.{NoEntry, IsDir, Denied, BadRef, Invalid}
use Rattle.rk_tree.specs.Hierarchy.{node, mode_of, added, text_of}
use Rattle.rk_tree.specs.Entries.{is_dir}
use Rattle.rk_tree.specs.Refusals.{lacks_w}
use Rattle.rk_tree.specs.declared.content.Content.TheVariants.{Own}
use Rattle.rk_tree.specs.Node.{Node, File, Dir, Link}
use Rattle.rk_calls.specs.declared.call.Call.{Call}
use Rattle.rk_calls.specs.declared.call.Call.TheVariants as call
use Rattle.rk_calls.specs.declared.call.How.{How}
use Rattle.rk_calls.specs.declared.answer.Answer.{Answer}
use Rattle.rk_calls.specs.declared.answer.Answer.TheVariants as answer
use Rattle.rk_calls.specs.Fits.{is_launch, fits, fits_open, fits_content, fits_done, fits_stat, fits_names, fits_text, fits_place, fits_same}
use Rattle.rk_calls.specs.Given.{Given}
use Rattle.rk_calls.specs.Refs.{RefsHeld, ref_at}
use Rattle.rk_walk.specs.Walk.{Spot, resolve}
use Rattle.rk_walk.specs.declared.place.Place.{Place}
use Rattle.rk_walk.specs.declared.place.Place.TheVariants.{Found, Absent}
use Rattle.rk_kernel.specs.World.{World}
use Rattle.rk_kernel.specs.Rows.{at_place, refused, giving, done, unless, is_absent, is_nameless, name_at, node_at, same_node}
use Rattle.rk_kernel.specs.Opening.{is_read, lacks, emptied, opened, open_at}
use Rattle.rk_kernel.specs.Questions.{stat_of, stat_at, names_at, list_refusals, list_at, read_link_refusals, read_link_at, place_of, path_at, walk_refusals, walk_at, same_at}
use Rattle.rk_kernel.specs.Changes.{added_at, linked_at, removed_at, renamed_at, with_mode_at, mkdir_refusals, mkdir_at, rmdir_refusals, rmdir_at, unlink_refusals, unlink_at, rename_refusals, rename_at, moved_at, symlink_refusals, symlink_at, link_refusals, link_at, chmod_at}
use Rattle.rk_kernel.specs.Do.{read_by, read_ref, read_line_by, read_line_ref, write_by, write_ref, followed, itself, answered}
use Rattle.rk_kernel.specs.declared.description.Description.{Description}

-- a test of answers that each refusal passes
abbrev PassesRefusals : (Answer → Bool) → Type 0
PassesRefusals test = (e : Errno) → test (answer.No e) ≡ true

unless-passes : (test : Answer → Bool) → PassesRefusals test → (world : World) (refs : RefsHeld) (checks : List (Bool × Errno)) (given : Given World) → test given.answer ≡ true → test (unless world refs checks given).answer ≡ true
unless-passes test all world refs [] given h = h
unless-passes test all world refs (check ∷ checks) given h = elim check.0 as (λ (b : Bool). test (cond b (refused world refs check.1) (unless world refs checks given)).answer ≡ true) [
  | true ↦ all check.1
  | false ↦ unless-passes test all world refs checks given h
]

place-passes : (test : Answer → Bool) → PassesRefusals test → (world : World) (refs : RefsHeld) (spot : Spot) (row : Place → Given World) → ((place : Place) → test (row place).answer ≡ true) → test (at_place world refs spot row).answer ≡ true
place-passes test all world refs (Err e) row h = all e
place-passes test all world refs (Ok place) row h = h place

-- Open

open-fits : (world : World) (refs : RefsHeld) (how : How) (place : Place) → fits_open (open_at world refs how place).answer ≡ true
open-fits world refs how (Absent dir name slash) =
    unless-passes fits_open (λ e. refl) world refs ((is_read how, NoEntry) ∷ (lacks_w world.tree dir, Denied) ∷ [])
    (opened world refs (added world.tree dir name (File 420 (Own []))) how (length world.tree.nodes)) refl
open-fits world refs how (Found at) =
    unless-passes fits_open (λ e. refl) world refs ((is_dir (node world.tree at.node), IsDir) ∷ (lacks how (mode_of (node world.tree at.node)), Denied) ∷ [])
    (opened world refs (emptied how world.tree at.node) how at.node) refl

-- Read, ReadLine and Write

read_by-fits : (world : World) (refs : RefsHeld) (k : ℕ) (d : Option Description) → fits_content (read_by world refs k d).answer ≡ true
read_by-fits world refs k None = refl
read_by-fits world refs k (Some d) = unless-passes fits_content (λ e. refl) world refs ((not d.read, BadRef) ∷ []) _ refl

read-fits : (world : World) (refs : RefsHeld) (r : Option ℕ) → fits_content (read_ref world refs r).answer ≡ true
read-fits world refs None = refl
read-fits world refs (Some k) = read_by-fits world refs k (slice_get world.opens k)

line_by-fits : (world : World) (refs : RefsHeld) (k : ℕ) (d : Option Description) → fits_content (read_line_by world refs k d).answer ≡ true
line_by-fits world refs k None = refl
line_by-fits world refs k (Some d) = unless-passes fits_content (λ e. refl) world refs ((not d.read, BadRef) ∷ []) _ refl

line-fits : (world : World) (refs : RefsHeld) (r : Option ℕ) → fits_content (read_line_ref world refs r).answer ≡ true
line-fits world refs None = refl
line-fits world refs (Some k) = line_by-fits world refs k (slice_get world.opens k)

write_by-fits : (world : World) (refs : RefsHeld) (bytes : Text) (k : ℕ) (d : Option Description) → fits_done (write_by world refs bytes k d).answer ≡ true
write_by-fits world refs bytes k None = refl
write_by-fits world refs bytes k (Some d) = unless-passes fits_done (λ e. refl) world refs ((not d.write, BadRef) ∷ []) _ refl

write-fits : (world : World) (refs : RefsHeld) (bytes : Text) (r : Option ℕ) → fits_done (write_ref world refs bytes r).answer ≡ true
write-fits world refs bytes None = refl
write-fits world refs bytes (Some k) = write_by-fits world refs bytes k (slice_get world.opens k)

-- Questions

few : (mode : ℕ) → nat_le (mode % 512) 511 ≡ true
few mode = le-leb (mode % 512) 511 (omega arith)

stat_of-fits : (it : Option Node) → fits_stat (stat_of it) ≡ true
stat_of-fits None = refl
stat_of-fits (Some (File mode bytes)) = few mode
stat_of-fits (Some (Dir mode)) = few mode
stat_of-fits (Some (Link text)) = refl

stat-fits : (world : World) (refs : RefsHeld) (place : Place) → fits_stat (stat_at world refs place).answer ≡ true
stat-fits world refs place = unless-passes fits_stat (λ e. refl) world refs ((is_absent place, NoEntry) ∷ []) (giving world refs (stat_of (node_at world place))) (stat_of-fits (node_at world place))

list-fits : (world : World) (refs : RefsHeld) (place : Place) → fits_names (list_at world refs place).answer ≡ true
list-fits world refs place = unless-passes fits_names (λ e. refl) world refs (list_refusals world place) (giving world refs (answer.Names (names_at world place))) refl

link_text-fits : (world : World) (refs : RefsHeld) (place : Place) → fits_text (read_link_at world refs place).answer ≡ true
link_text-fits world refs place = unless-passes fits_text (λ e. refl) world refs (read_link_refusals world place) (giving world refs (answer.Text (text_of (node_at world place)))) refl

place-fits : (path : Option Text) → fits_place (place_of path) ≡ true
place-fits None = refl
place-fits (Some path) = refl

walk-fits : (world : World) (refs : RefsHeld) (place : Place) → fits_place (walk_at world refs place).answer ≡ true
walk-fits world refs place = unless-passes fits_place (λ e. refl) world refs (walk_refusals world place) (giving world refs (place_of (path_at world place))) (place-fits (path_at world place))

same-fits : (world : World) (refs : RefsHeld) (a b : Place) → fits_same (same_at world refs a b).answer ≡ true
same-fits world refs a b = unless-passes fits_same (λ e. refl) world refs ((is_absent a, NoEntry) ∷ (is_absent b, NoEntry) ∷ []) (giving world refs (answer.Same (same_node a b))) refl

-- Changes

abbrev IsFitChange : Given World → Type 0
IsFitChange given = fits_done given.answer ≡ true

checked : (world : World) (refs : RefsHeld) (checks : List (Bool × Errno)) (given : Given World) → IsFitChange given → IsFitChange (unless world refs checks given)
checked = unless-passes fits_done (λ e. refl)

placed : (world : World) (refs : RefsHeld) (spot : Spot) (row : Place → Given World) → ((place : Place) → IsFitChange (row place)) → IsFitChange (at_place world refs spot row)
placed = place-passes fits_done (λ e. refl)

rename-fits : (world : World) (refs : RefsHeld) (from to : Place) → IsFitChange (rename_at world refs from to)
rename-fits world refs from to =
    checked world refs ((is_absent from, NoEntry) ∷ (is_nameless from || is_nameless to, Invalid) ∷ []) (cond (same_node from to) (giving world refs answer.Done) (moved_at world refs from to))
    (elim (same_node from to) as (λ (b : Bool). IsFitChange (cond b (giving world refs answer.Done) (moved_at world refs from to))) [ true ↦ refl | false ↦ checked world refs (rename_refusals world from to) (done world refs (renamed_at world.tree (name_at from) (name_at to))) refl ])

-- Each call

pub answered-fits : (world : World) (refs : RefsHeld) (call : Call) → is_launch call ≡ false → fits call (answered world refs call).answer ≡ true
answered-fits world refs (call.Open path how) h = place-passes fits_open (λ e. refl) world refs (followed world path) (open_at world refs how) (open-fits world refs how)
answered-fits world refs (call.Read r) h = read-fits world refs (ref_at refs r)
answered-fits world refs (call.ReadLine r) h = line-fits world refs (ref_at refs r)
answered-fits world refs (call.Write r bytes) h = write-fits world refs bytes (ref_at refs r)
answered-fits world refs (call.Stat path follow) h = place-passes fits_stat (λ e. refl) world refs (resolve world.tree path follow) (stat_at world refs) (stat-fits world refs)
answered-fits world refs (call.List path) h = place-passes fits_names (λ e. refl) world refs (followed world path) (list_at world refs) (list-fits world refs)
answered-fits world refs (call.ReadLink path) h = place-passes fits_text (λ e. refl) world refs (itself world path) (read_link_at world refs) (link_text-fits world refs)
answered-fits world refs (call.Walk path) h = place-passes fits_place (λ e. refl) world refs (followed world path) (walk_at world refs) (walk-fits world refs)
answered-fits world refs (call.Same a b) h =
    place-passes fits_same (λ e. refl) world refs (followed world a) (λ first. at_place world refs (followed world b) (same_at world refs first)) (λ first. place-passes fits_same (λ e. refl) world refs (followed world b) (same_at world refs first) (same-fits world refs first))
answered-fits world refs (call.Mkdir path mode) h = placed world refs (resolve world.tree path false) (mkdir_at world refs mode) (λ place. checked world refs (mkdir_refusals world mode place) (done world refs (added_at world.tree (name_at place) (Dir mode))) refl)
answered-fits world refs (call.Rmdir path) h = placed world refs (itself world path) (rmdir_at world refs) (λ place. checked world refs (rmdir_refusals world place) (done world refs (removed_at world.tree (name_at place))) refl)
answered-fits world refs (call.Unlink path) h = placed world refs (itself world path) (unlink_at world refs) (λ place. checked world refs (unlink_refusals world place) (done world refs (removed_at world.tree (name_at place))) refl)
answered-fits world refs (call.Rename a b) h = placed world refs (itself world a) (λ from. at_place world refs (resolve world.tree b false) (rename_at world refs from)) (λ from. placed world refs (resolve world.tree b false) (rename_at world refs from) (rename-fits world refs from))
answered-fits world refs (call.Symlink text path) h = placed world refs (itself world path) (symlink_at world refs text) (λ place. checked world refs (symlink_refusals world text place) (done world refs (added_at world.tree (name_at place) (Link text))) refl)
answered-fits world refs (call.Link a b) h = placed world refs (itself world a) (λ from. at_place world refs (itself world b) (link_at world refs from)) (λ from. placed world refs (itself world b) (link_at world refs from) (λ to. checked world refs (link_refusals world from to) (done world refs (linked_at world.tree from (name_at to))) refl))
answered-fits world refs (call.Chmod path mode) h = placed world refs (followed world path) (chmod_at world refs mode) (λ place. checked world refs ((nat_lt 511 mode, Invalid) ∷ (is_absent place, NoEntry) ∷ []) (done world refs (with_mode_at world.tree place mode)) refl)
answered-fits world refs call.Pipe h = refl
answered-fits world refs (call.Launch key map) h = cc
