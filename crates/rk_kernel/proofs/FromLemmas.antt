-- What holds of files by what is told still holds of them after a call.
use Rattle.std.proofs.Common.{◌≡◌, ℕ, List, [], ◌∷◌, Bool, true, false, cond, not, Option, Some, None, refl, sym, subst}
use Rattle.std.specs.Prelude.{slice_get, Ok, Err}
use Rattle.rk_base.specs.Text.{Text}
use Rattle.rk_base.specs.Canonical.{is_empty}
use Rattle.rk_base.specs.declared.errno.Errno.{Errno}
use Rattle.rk_base.specs.declared.errno.Errno.TheVariants.{BadRef, Denied, IsDir}
use Rattle.rk_calls.specs.Given.{Given}
use Rattle.rk_calls.specs.Refs.{RefsHeld, ref_at}
use Rattle.rk_calls.specs.declared.answer.Answer.{Answer}
use Rattle.rk_calls.specs.declared.answer.Answer.TheVariants as answer
use Rattle.rk_calls.specs.declared.call.Call.{Call}
use Rattle.rk_calls.specs.declared.call.Call.TheVariants as call
use Rattle.rk_calls.specs.declared.call.How.TheVariants as how
use Rattle.rk_tree.specs.Entries.{is_dir}
use Rattle.rk_tree.specs.Full.{Told, AreFrom, From}
use Rattle.rk_tree.specs.Hierarchy.{Hierarchy, file_bytes, held_in, mode_of, node, over_written, replaced, set_bytes}
use Rattle.rk_tree.specs.Node.{Node, File, Dir, Link}
use Rattle.rk_tree.proofs.KnownLemmas.{held-changed}
use Rattle.rk_walk.specs.Walk.{Spot, resolve}
use Rattle.rk_walk.specs.declared.place.Place.TheVariants.{Found, Absent}
use Rattle.rk_kernel.specs.Do.{answered, write_by, write_ref}
use Rattle.rk_kernel.specs.Opening.{lacks, open_at, opened}
use Rattle.rk_kernel.specs.Rows.{at_place, giving, refused, strict, unless}
use Rattle.rk_kernel.specs.World.{World, after_write, place_in}
use Rattle.rk_kernel.specs.declared.description.Description.{Description}
use Rattle.rk_kernel.specs.declared.description.Source.{Source}
use Rattle.rk_kernel.specs.declared.description.Source.TheVariants as source
use Rattle.rk_kernel.proofs.NumberLemmas.{open_strictly, stays}

module _ (told : Told) (world : World) (refs : RefsHeld) where
  All : Hierarchy → Type 0
  All tree = AreFrom (Some told) tree

  -- files that hold what they held
  same-from : (tree : Hierarchy) → ((n : ℕ) → held_in (node tree n) ≡ held_in (node world.tree n)) → AreFrom (Some told) world.tree → AreFrom (Some told) tree
  same-from tree same all n = subst (From told) (sym (same n)) (all n)

  unless-from : (checks : List (Bool × Errno)) (given : Given World) → AreFrom (Some told) world.tree → AreFrom (Some told) given.world.tree → AreFrom (Some told) (unless world refs checks given).world.tree
  unless-from [] given all h = h
  unless-from (check ∷ checks) given all h = elim check.0 as (λ (b : Bool). AreFrom (Some told) (cond b (refused world refs check.1) (unless world refs checks given)).world.tree) [
    | true ↦ all
    | false ↦ unless-from checks given all h
  ]

  -- bytes of a file's own are from nothing

  replaced-from : (bytes : Text) (it : Node) → From told (held_in (Some it)) → From told (held_in (Some (replaced bytes it)))
  replaced-from bytes (File mode content) h = tt
  replaced-from bytes (Dir mode) h = h
  replaced-from bytes (Link text) h = h

  written-from : (at : ℕ) (bytes : Text) (it : Node) → From told (held_in (Some it)) → From told (held_in (Some (over_written at bytes it)))
  written-from at bytes (File mode content) h = tt
  written-from at bytes (Dir mode) h = h
  written-from at bytes (Link text) h = h

  make-from : (spot : Spot) → AreFrom (Some told) world.tree → AreFrom (Some told) (at_place world refs (strict spot) (open_at world refs how.Make)).world.tree
  make-from (Err e) all = all
  make-from (Ok (Found at)) all =
      unless-from ((is_dir (node world.tree at.node), IsDir) ∷ (lacks how.Make (mode_of (node world.tree at.node)), Denied) ∷ []) (opened world refs (set_bytes world.tree at.node []) how.Make at.node) all
      (held-changed (From told) (replaced []) world.tree.nodes at.node (node world.tree at.node) refl (λ it at fits. replaced-from [] it fits) all)
  make-from (Ok (Absent dir name slash)) all = same-from ((at_place world refs (strict (Ok (Absent dir name slash))) (open_at world refs how.Make)).world.tree) (λ n. open_strictly world refs None how.Make dir name slash n tt) all

  after_write-from : (k : ℕ) (d : Description) (bytes : Text) (s : Source) → AreFrom (Some told) world.tree → AreFrom (Some told) (after_write world k d bytes s).tree
  after_write-from k d bytes (source.Node m) all = held-changed (From told) (over_written (place_in d (file_bytes (node world.tree m))) bytes) world.tree.nodes m (node world.tree m) refl (λ it at fits. written-from _ bytes it fits) all
  after_write-from k d bytes (source.Pipe p) all = all
  after_write-from k d bytes source.Output all = all
  after_write-from k d bytes source.ErrorText all = all
  after_write-from k d bytes source.Nothing all = all

  some-from : (k : ℕ) (d : Description) (bytes : Text) (b : Bool) → AreFrom (Some told) world.tree → AreFrom (Some told) (cond b world (after_write world k d bytes d.source)).tree
  some-from k d bytes true all = all
  some-from k d bytes false all = after_write-from k d bytes d.source all

  by-from : (bytes : Text) (k : ℕ) (d : Option Description) → AreFrom (Some told) world.tree → AreFrom (Some told) (write_by world refs bytes k d).world.tree
  by-from bytes k None all = all
  by-from bytes k (Some d) all = unless-from ((not d.write, BadRef) ∷ []) (giving (cond (is_empty bytes) world (after_write world k d bytes d.source)) refs answer.Done) all (some-from k d bytes (is_empty bytes) all)

  write-from : (bytes : Text) (k : Option ℕ) → AreFrom (Some told) world.tree → AreFrom (Some told) (write_ref world refs bytes k).world.tree
  write-from bytes None all = all
  write-from bytes (Some k) all = by-from bytes k (slice_get world.opens k) all

  call-from : (c : Call) → AreFrom (Some told) world.tree → AreFrom (Some told) (answered world refs c).world.tree
  call-from (call.Open path how.Read) all = same-from (answered world refs (call.Open path how.Read)).world.tree (λ n. stays world refs (call.Open path how.Read) n tt) all
  call-from (call.Open path how.Make) all = make-from (resolve world.tree path true) all
  call-from (call.Open path how.Append) all = same-from (answered world refs (call.Open path how.Append)).world.tree (λ n. stays world refs (call.Open path how.Append) n tt) all
  call-from (call.Read r) all = same-from (answered world refs (call.Read r)).world.tree (λ n. stays world refs (call.Read r) n tt) all
  call-from (call.ReadLine r) all = same-from (answered world refs (call.ReadLine r)).world.tree (λ n. stays world refs (call.ReadLine r) n tt) all
  call-from (call.Write r bytes) all = write-from bytes (ref_at refs r) all
  call-from (call.Stat path follow) all = same-from (answered world refs (call.Stat path follow)).world.tree (λ n. stays world refs (call.Stat path follow) n tt) all
  call-from (call.List path) all = same-from (answered world refs (call.List path)).world.tree (λ n. stays world refs (call.List path) n tt) all
  call-from (call.ReadLink path) all = same-from (answered world refs (call.ReadLink path)).world.tree (λ n. stays world refs (call.ReadLink path) n tt) all
  call-from (call.Walk path) all = same-from (answered world refs (call.Walk path)).world.tree (λ n. stays world refs (call.Walk path) n tt) all
  call-from (call.Same a b) all = same-from (answered world refs (call.Same a b)).world.tree (λ n. stays world refs (call.Same a b) n tt) all
  call-from (call.Mkdir path mode) all = same-from (answered world refs (call.Mkdir path mode)).world.tree (λ n. stays world refs (call.Mkdir path mode) n tt) all
  call-from (call.Rmdir path) all = same-from (answered world refs (call.Rmdir path)).world.tree (λ n. stays world refs (call.Rmdir path) n tt) all
  call-from (call.Unlink path) all = same-from (answered world refs (call.Unlink path)).world.tree (λ n. stays world refs (call.Unlink path) n tt) all
  call-from (call.Rename a b) all = same-from (answered world refs (call.Rename a b)).world.tree (λ n. stays world refs (call.Rename a b) n tt) all
  call-from (call.Symlink text path) all = same-from (answered world refs (call.Symlink text path)).world.tree (λ n. stays world refs (call.Symlink text path) n tt) all
  call-from (call.Link a b) all = same-from (answered world refs (call.Link a b)).world.tree (λ n. stays world refs (call.Link a b) n tt) all
  call-from (call.Chmod path mode) all = same-from (answered world refs (call.Chmod path mode)).world.tree (λ n. stays world refs (call.Chmod path mode) n tt) all
  call-from call.Pipe all = all
  call-from (call.Launch key map) all = all

-- after a call, by what it has left
pub answered-from : (o : Option Told) (world now : World) (refs then : RefsHeld) (c : Call) (it : Answer) → ◌≡◌ {A = Given World} (record { answer = it; refs = then; world = now }) (answered world refs c) → AreFrom o world.tree → AreFrom o now.tree
answered-from None world now refs then c it gives all = tt
answered-from (Some told) world now refs then c it gives all = subst (λ (g : Given World). AreFrom (Some told) g.world.tree) (sym gives) (call-from told world refs c all)
