-- What the kernel answers doesn't depend on the descriptors of a command, but for the one that the call asks.
use Rattle.std.proofs.Common.{◌≡◌, ℕ, List, [], ◌∷◌, length, Bool, true, false, not, ◌||◌, Option, Some, None, Ok, Err, refl}
use Rattle.std.specs.Prelude.{if◌then◌else◌, nat_lt, slice_get}
use Rattle.rk_base.specs.Text.{Text}
use Rattle.rk_base.specs.Canonical.{is_empty}
use Rattle.rk_base.specs.declared.errno.Errno.{Errno}
use Rattle.rk_base.specs.declared.errno.Errno.TheVariants.{NoEntry, IsDir, Denied, Invalid, BadRef}
use Rattle.rk_calls.specs.Given.{Given}
use Rattle.rk_calls.specs.Refs.{RefsHeld, with_opened}
use Rattle.rk_calls.specs.declared.answer.Answer.{Answer}
use Rattle.rk_calls.specs.declared.answer.Answer.TheVariants as answer
use Rattle.rk_calls.specs.declared.call.Call.TheVariants as call
use Rattle.rk_calls.specs.declared.call.How.{How}
use Rattle.rk_kernel.specs.Changes.{added_at, link_at, link_refusals, linked_at, mkdir_refusals, moved_at, removed_at, rename_at, rename_refusals, renamed_at}
use Rattle.rk_kernel.specs.Changes.{rmdir_refusals, symlink_refusals, unlink_refusals, with_mode_at}
use Rattle.rk_kernel.specs.Do.{answered, followed, itself, read_by, read_ref, read_line_by, read_line_ref, write_by, write_ref}
use Rattle.rk_kernel.specs.Opening.{emptied, is_read, lacks, open_at, opened}
use Rattle.rk_kernel.specs.Questions.{list_refusals, names_at, path_at, place_of, read_link_refusals, same_at, stat_of, walk_refusals}
use Rattle.rk_kernel.specs.Rows.{at_place, done, giving, is_absent, is_nameless, name_at, node_at, refused, same_node, unless}
use Rattle.rk_kernel.specs.World as kernel
use Rattle.rk_kernel.specs.World.{after_read, after_read_line, after_write, line_of, rest_of, with_tree}
use Rattle.rk_kernel.specs.declared.description.Description.{Description}
use Rattle.rk_tree.specs.Entries.{is_dir}
use Rattle.rk_tree.specs.Hierarchy.{Hierarchy, added, mode_of, node, text_of}
use Rattle.rk_tree.specs.Node.{File, Dir, Link}
use Rattle.rk_tree.specs.Refusals.{lacks_w}
use Rattle.rk_tree.specs.declared.content.Content.TheVariants.{Own}
use Rattle.rk_walk.specs.Walk.{Spot, resolve}
use Rattle.rk_walk.specs.declared.place.Place.{Place}
use Rattle.rk_walk.specs.declared.place.Place.TheVariants as place

-- one answer and one world, and descriptors that are so
pub record IsLike (Refs : Answer → RefsHeld → Type 0) (a b : Given kernel.World) : Type 0 where
  pub answer : a.answer ≡ b.answer
  pub world : a.world ≡ b.world
  pub refs : Refs a.answer a.refs

-- the command's descriptors after an answer that opens one
abbrev pub refs_opened : Answer → RefsHeld → RefsHeld → RefsHeld
refs_opened answer.Opened more refs = more
refs_opened _ more refs = refs

module _ (Refs : Answer → RefsHeld → Type 0) (world : kernel.World) (mine its : RefsHeld) (kept : (e : Errno) → Refs (answer.No e) mine) where
  like-no : (e : Errno) → IsLike Refs (refused world mine e) (refused world its e)
  like-no e = record { answer = refl; world = refl; refs = kept e }

  pub like-unless : (checks : List (Bool × Errno)) (a b : Given kernel.World) → IsLike Refs a b
      → IsLike Refs (unless world mine checks a) (unless world its checks b)
  like-unless [] a b h = h
  like-unless (c ∷ cs) a b h = go (like-unless cs a b h) c.0
    where
      go : IsLike Refs (unless world mine cs a) (unless world its cs b) → (t : Bool)
          → IsLike Refs (if t then refused world mine c.1 else unless world mine cs a) (if t then refused world its c.1 else unless world its cs b)
      go rest true = like-no c.1
      go rest false = rest

  pub like-place : (spot : Spot) (a b : Place → Given kernel.World) → ((p : Place) → IsLike Refs (a p) (b p))
      → IsLike Refs (at_place world mine spot a) (at_place world its spot b)
  like-place (Err e) a b h = like-no e
  like-place (Ok p) a b h = h p

abbrev pub Keeps : RefsHeld → Answer → RefsHeld → Type 0
Keeps mine it refs = refs ≡ mine

module _ (world : kernel.World) (mine its : RefsHeld) where
  abbrev Like : Given kernel.World → Given kernel.World → Type 0
  Like = IsLike (Keeps mine)

  even : (checks : List (Bool × Errno)) (a b : Given kernel.World) → Like a b → Like (unless world mine checks a) (unless world its checks b)
  even = like-unless (Keeps mine) world mine its (λ e. refl)

  at : (spot : Spot) (a b : Place → Given kernel.World) → ((p : Place) → Like (a p) (b p)) → Like (at_place world mine spot a) (at_place world its spot b)
  at = like-place (Keeps mine) world mine its (λ e. refl)

  gives : (after : kernel.World) (it : Answer) → Like (giving after mine it) (giving after its it)
  gives after it = record { answer = refl; world = refl; refs = refl }

  -- a row of checks and an answer, and one of checks and a change of the tree

  asks : (spot : Spot) (checks : Place → List (Bool × Errno)) (it : Place → Answer)
      → Like (at_place world mine spot (λ p. unless world mine (checks p) (giving world mine (it p))))
      (at_place world its spot (λ p. unless world its (checks p) (giving world its (it p))))
  asks spot checks it =
      at spot (λ p. unless world mine (checks p) (giving world mine (it p))) (λ p. unless world its (checks p) (giving world its (it p)))
      (λ p. even (checks p) (giving world mine (it p)) (giving world its (it p)) (gives world (it p)))

  puts : (spot : Spot) (checks : Place → List (Bool × Errno)) (tree : Place → Hierarchy)
      → Like (at_place world mine spot (λ p. unless world mine (checks p) (done world mine (tree p))))
      (at_place world its spot (λ p. unless world its (checks p) (done world its (tree p))))
  puts spot checks tree =
      at spot (λ p. unless world mine (checks p) (done world mine (tree p))) (λ p. unless world its (checks p) (done world its (tree p)))
      (λ p. even (checks p) (done world mine (tree p)) (done world its (tree p)) (gives (with_tree world (tree p)) answer.Done))

  -- the calls that ask no descriptor and open none
  pub stats : (path : Text) (follow : Bool) → Like (answered world mine (call.Stat path follow)) (answered world its (call.Stat path follow))
  stats path follow = asks (resolve world.tree path follow) (λ p. (is_absent p, NoEntry) ∷ []) (λ p. stat_of (node_at world p))

  pub lists : (path : Text) → Like (answered world mine (call.List path)) (answered world its (call.List path))
  lists path = asks (followed world path) (list_refusals world) (λ p. answer.Names (names_at world p))

  pub links-read : (path : Text) → Like (answered world mine (call.ReadLink path)) (answered world its (call.ReadLink path))
  links-read path = asks (itself world path) (read_link_refusals world) (λ p. answer.Text (text_of (node_at world p)))

  pub walks : (path : Text) → Like (answered world mine (call.Walk path)) (answered world its (call.Walk path))
  walks path = asks (followed world path) (walk_refusals world) (λ p. place_of (path_at world p))

  pub compares : (a b : Text) → Like (answered world mine (call.Same a b)) (answered world its (call.Same a b))
  compares a b =
      at (followed world a) (λ p. at_place world mine (followed world b) (same_at world mine p))
      (λ p. at_place world its (followed world b) (same_at world its p))
      (λ p. asks (followed world b) (λ q. (is_absent p, NoEntry) ∷ (is_absent q, NoEntry) ∷ []) (λ q. answer.Same (same_node p q)))

  pub dirs : (path : Text) (mode : ℕ) → Like (answered world mine (call.Mkdir path mode)) (answered world its (call.Mkdir path mode))
  dirs path mode = puts (resolve world.tree path false) (mkdir_refusals world mode) (λ p. added_at world.tree (name_at p) (Dir mode))

  pub removes : (path : Text) → Like (answered world mine (call.Rmdir path)) (answered world its (call.Rmdir path))
  removes path = puts (itself world path) (rmdir_refusals world) (λ p. removed_at world.tree (name_at p))

  pub unlinks : (path : Text) → Like (answered world mine (call.Unlink path)) (answered world its (call.Unlink path))
  unlinks path = puts (itself world path) (unlink_refusals world) (λ p. removed_at world.tree (name_at p))

  moves : (p q : Place) → Like (rename_at world mine p q) (rename_at world its p q)
  moves p q =
      even ((is_absent p, NoEntry) ∷ (is_nameless p || is_nameless q, Invalid) ∷ [])
      (if same_node p q then giving world mine answer.Done else moved_at world mine p q)
      (if same_node p q then giving world its answer.Done else moved_at world its p q) (go (same_node p q))
    where
      go : (b : Bool) → Like (if b then giving world mine answer.Done else moved_at world mine p q)
          (if b then giving world its answer.Done else moved_at world its p q)
      go true = gives world answer.Done
      go false =
          even (rename_refusals world p q) (done world mine (renamed_at world.tree (name_at p) (name_at q)))
          (done world its (renamed_at world.tree (name_at p) (name_at q)))
          (gives (with_tree world (renamed_at world.tree (name_at p) (name_at q))) answer.Done)

  pub renames : (a b : Text) → Like (answered world mine (call.Rename a b)) (answered world its (call.Rename a b))
  renames a b =
      at (itself world a) (λ p. at_place world mine (resolve world.tree b false) (rename_at world mine p))
      (λ p. at_place world its (resolve world.tree b false) (rename_at world its p))
      (λ p. at (resolve world.tree b false) (rename_at world mine p) (rename_at world its p) (moves p))

  pub symlinks : (text path : Text) → Like (answered world mine (call.Symlink text path)) (answered world its (call.Symlink text path))
  symlinks text path = puts (itself world path) (symlink_refusals world text) (λ p. added_at world.tree (name_at p) (Link text))

  pub links : (a b : Text) → Like (answered world mine (call.Link a b)) (answered world its (call.Link a b))
  links a b =
      at (itself world a) (λ p. at_place world mine (itself world b) (link_at world mine p)) (λ p. at_place world its (itself world b) (link_at world its p))
      (λ p. puts (itself world b) (link_refusals world p) (λ q. linked_at world.tree p (name_at q)))

  pub modes : (path : Text) (mode : ℕ) → Like (answered world mine (call.Chmod path mode)) (answered world its (call.Chmod path mode))
  modes path mode = puts (followed world path) (λ p. (nat_lt 511 mode, Invalid) ∷ (is_absent p, NoEntry) ∷ []) (λ p. with_mode_at world.tree p mode)

  -- those of descriptions, where the description is one

  pub reads : (o : Option ℕ) → Like (read_ref world mine o) (read_ref world its o)
  reads None = record { answer = refl; world = refl; refs = refl }
  reads (Some n) = go (slice_get world.opens n)
    where
      go : (d : Option Description) → Like (read_by world mine n d) (read_by world its n d)
      go None = record { answer = refl; world = refl; refs = refl }
      go (Some d) =
          even ((not d.read, BadRef) ∷ []) (giving (after_read world n d d.source) mine (answer.Content (rest_of world d.offset d.source)))
          (giving (after_read world n d d.source) its (answer.Content (rest_of world d.offset d.source)))
          (gives (after_read world n d d.source) (answer.Content (rest_of world d.offset d.source)))

  pub lines : (o : Option ℕ) → Like (read_line_ref world mine o) (read_line_ref world its o)
  lines None = record { answer = refl; world = refl; refs = refl }
  lines (Some n) = go (slice_get world.opens n)
    where
      go : (d : Option Description) → Like (read_line_by world mine n d) (read_line_by world its n d)
      go None = record { answer = refl; world = refl; refs = refl }
      go (Some d) =
          even ((not d.read, BadRef) ∷ []) (giving (after_read_line world n d d.source) mine (answer.Content (line_of (rest_of world d.offset d.source))))
          (giving (after_read_line world n d d.source) its (answer.Content (line_of (rest_of world d.offset d.source))))
          (gives (after_read_line world n d d.source) (answer.Content (line_of (rest_of world d.offset d.source))))

  pub writes : (text : Text) (o : Option ℕ) → Like (write_ref world mine text o) (write_ref world its text o)
  writes text None = record { answer = refl; world = refl; refs = refl }
  writes text (Some n) = go (slice_get world.opens n)
    where
      go : (d : Option Description) → Like (write_by world mine text n d) (write_by world its text n d)
      go None = record { answer = refl; world = refl; refs = refl }
      go (Some d) =
          even ((not d.write, BadRef) ∷ []) (giving (if is_empty text then world else after_write world n d text d.source) mine answer.Done)
          (giving (if is_empty text then world else after_write world n d text d.source) its answer.Done)
          (gives (if is_empty text then world else after_write world n d text d.source) answer.Done)

  -- Open
  abbrev pub Opens : Answer → RefsHeld → Type 0
  Opens it refs = refs ≡ refs_opened it (with_opened mine (length world.opens)) mine

  pub opens : (path : Text) (h : How) → IsLike Opens (answered world mine (call.Open path h)) (answered world its (call.Open path h))
  opens path h = like-place Opens world mine its (λ e. refl) (followed world path) (open_at world mine h) (open_at world its h) row
    where
      row : (p : Place) → IsLike Opens (open_at world mine h p) (open_at world its h p)
      row (place.Found here) =
          like-unless Opens world mine its (λ e. refl)
          ((is_dir (node world.tree here.node), IsDir) ∷ (lacks h (mode_of (node world.tree here.node)), Denied) ∷ [])
          (opened world mine (emptied h world.tree here.node) h here.node) (opened world its (emptied h world.tree here.node) h here.node)
          (record { answer = refl; world = refl; refs = refl })
      row (place.Absent dir name slash) =
          like-unless Opens world mine its (λ e. refl) ((is_read h, NoEntry) ∷ (lacks_w world.tree dir, Denied) ∷ [])
          (opened world mine (added world.tree dir name (File 420 (Own []))) h (length world.tree.nodes))
          (opened world its (added world.tree dir name (File 420 (Own []))) h (length world.tree.nodes))
          (record { answer = refl; world = refl; refs = refl })
