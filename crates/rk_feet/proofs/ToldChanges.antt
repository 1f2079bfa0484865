-- What is told of the calls that change the tree tells their programs.
use Rattle.std.proofs.Common.{◌≡◌, ℕ, [], ◌∷◌, ◌++◌, length, Bool, true, false, not, ◌&&◌, Option, Some, None, refl, sym, ap, subst, inl, inr}
use Rattle.std.specs.Prelude.{if◌then◌else◌, nat_lt}
use Rattle.rk_base.specs.Text.{Text}
use Rattle.rk_base.specs.Canonical.{has_nul, is_empty}
use Rattle.rk_base.specs.declared.errno.Errno.TheVariants.{NoEntry, NotDir, IsDir, Exists, Denied, NotEmpty, Invalid}
use Rattle.rk_calls.specs.Refs.{RefsHeld}
use Rattle.rk_calls.specs.declared.answer.Answer.{Answer}
use Rattle.rk_calls.specs.declared.answer.Answer.TheVariants as answer
use Rattle.rk_calls.specs.declared.call.Call.TheVariants as call
use Rattle.rk_tree.specs.Entries.{is_dir}
use Rattle.rk_tree.specs.Hierarchy.{node as node_at, names as names_of}
use Rattle.rk_tree.specs.Node.{Node as TreeNode, File as AFile, Dir as ADir, Link as ALink}
use Rattle.rk_tree.specs.Refusals.{is_there, lacks_w}
use Rattle.rk_walk.specs.Places.{IsFound, IsNameOf, StandsUnder}
use Rattle.rk_walk.specs.declared.place.Here.{Here as TreeHere}
use Rattle.rk_walk.specs.declared.place.Place.TheVariants as place
use Rattle.rk_kernel.specs.Do.{itself}
use Rattle.rk_kernel.specs.Feet.{foot_by, mkdir_foot, symlink_foot, link_foot, unlink_foot, rmdir_foot, chmod_foot}
use Rattle.rk_kernel.specs.Foot.{nothing, reading, writing as told_writing, both, checked, along, at_spot, entry_cells, dir_mode}
use Rattle.rk_kernel.specs.Rows.{lacks_w_above, strict as kernel_strict}
use Rattle.rk_kernel.specs.declared.cell.Cell.TheVariants as told
use Rattle.rk_kernel.specs.declared.foot.Foot.{Foot}
use Rattle.rk_waves.specs.Programs.{All, Ends, Sets, Update}
use Rattle.rk_feet.specs.Changing.{does_chmod, chmod_what, chmod_at, makes, mkdir_absent, mkdir_at, mkdir_path, symlink_at, symlink_path}
use Rattle.rk_feet.specs.Changing.{is_dir as is_dir_what, does_unlink, does_rmdir, does_link, unlink_up, unlink_what, unlink_at, rmdir_names, rmdir_what}
use Rattle.rk_feet.specs.Changing.{rmdir_up, rmdir_at, links, link_name, link_found, link_at, link_from}
use Rattle.rk_feet.specs.Checks.{row, strict}
use Rattle.rk_feet.specs.Course.{what_of, here_named, up_named}
use Rattle.rk_feet.specs.Named.{Made, What, File, Dir, Link, Node, EntryOf, AboveOf, Value, Entry, Above, Names}
use Rattle.rk_feet.specs.Told.{By, Later, or_zero, node_in, Tells, TellsCall, TellsChanges}
use Rattle.rk_feet.specs.Ways.{Found, Absent}
use Rattle.rk_feet.specs.World.{World, at}
use Rattle.rk_feet.proofs.PlaceLemmas.{found-node}
use Rattle.rk_feet.proofs.QuestionLemmas.{names-of}
use Rattle.rk_feet.proofs.ToldRename.{renames-told}
use Rattle.rk_feet.proofs.ToldLemmas.{node-number, dir-number, tells-no, tells-unless, tells-reads, tells-writing, tells-once, by-way, strict-absent-told}
use Rattle.rk_feet.proofs.ToldLemmas.{TellsIf, if-unless, if-writing, if-once, if-by-way}

-- the step has this answer, and so it has made a directory, which gets the next number
abbrev Makes : (w : World) → Later w → ℕ → Answer → Type 0
Makes w l m it = it ≡ answer.Done → l.world.nodes.number_of (Made l.command l.number 0 m) ≡ Some (length w.held.tree.nodes)

module _ (w : World) (l : Later w) where
  -- Chmod

  chmod-node : (m n : ℕ) → is_there (node_at w.held.tree n) ≡ true → (what : What) → Tells w l (told_writing (told.Mode n
      ∷ [])) (chmod_what m (w.nodes.name_of n) what)
  chmod-node m n there File = record { reads = tt; writes = (inl (ap told.Mode (sym (node-number w l n there))), tt) }
  chmod-node m n there Dir = record { reads = tt; writes = (inl (ap told.Mode (sym (node-number w l n there))), tt) }
  chmod-node m n there (Link text) = record { reads = tt; writes = tt }

  pub modes : (refs : RefsHeld) (path : Text) (m : ℕ) → TellsCall w l refs (call.Chmod path m) (does_chmod path m)
  modes refs path m = by-way w l (row (strict (chmod_at m))) (λ spot. at_spot (kernel_strict spot) (chmod_foot m)) true (λ e. tells-no w l nothing e)
      (λ passed here is reached. tells-unless w l (nat_lt 511 m) Invalid (told_writing (told.Mode here.node ∷ [])) _
      (chmod-node m here.node is.there (what_of (node_at w.held.tree here.node))))
      (λ passed dir name slash is near. strict-absent-told w l (chmod_foot m) (chmod_at m) dir name slash
      (tells-unless w l (nat_lt 511 m) Invalid nothing _ (tells-no w l nothing NoEntry))) path

  -- What is written under a name in a directory.

  module _ (d : ℕ) (name : Text) (is : is_dir (node_at w.held.tree d) ≡ true) where
    entry-is : told.Entry d name ≡ told.Entry (node_in l.world (w.nodes.name_of d)) name
    entry-is = ap (λ m. told.Entry m name) (sym (dir-number w l d is))

    names-is : told.Names d ≡ told.Names (node_in l.world (w.nodes.name_of d))
    names-is = ap told.Names (sym (dir-number w l d is))

    -- an entry alone
    one-entry : (u : Update Value) → Tells w l (told_writing (told.Entry d name ∷ told.Names d ∷ [])) (Ends answer.Done ((
      EntryOf
          (w.nodes.name_of d) name,
      u,
    ) ∷ []))
    one-entry u = record { reads = tt; writes = (inl entry-is, (inr (inl names-is), tt)) }

    -- Mkdir and Symlink

    made-dir : (m : ℕ) → TellsIf w l (Makes w l m) (told_writing (told.Entry d name ∷ told.Names d ∷ told.Above (length w.held.tree.nodes) ∷ []))
        (Ends answer.Done (makes l.command l.number m Dir (w.nodes.name_of d) name))
    made-dir m so = record {
      reads = tt;
      writes = ((refl, refl), (inl entry-is, (inr (inl names-is), (inr (inr (inl (ap told.Above (sym (ap or_zero (so refl)))))), tt))));
    }

    made-link : (text : Text) → Tells w l (told_writing (told.Entry d name ∷ told.Names d ∷ []))
        (Ends answer.Done (makes l.command l.number 511 (Link text) (w.nodes.name_of d) name))
    made-link text = record { reads = tt; writes = ((refl, refl), (inl entry-is, (inr (inl names-is), tt))) }

    mkdir-absent : (m : ℕ) (slash : Bool)
        → TellsIf w l (Makes w l m) (mkdir_foot w.held m (place.Absent d name slash)) (mkdir_at l.command l.number m (Absent (w.nodes.name_of d) name slash))
    mkdir-absent m slash =
        if-unless w l (Makes w l m) (nat_lt 511 m) Invalid _ (mkdir_absent l.command l.number m (w.nodes.name_of d) name)
        (if-writing w l (Makes w l m) d (told_writing (told.Entry d name ∷ told.Names d ∷ told.Above (length w.held.tree.nodes) ∷ []))
        (Ends answer.Done (makes l.command l.number m Dir (w.nodes.name_of d) name)) is (made-dir m))

    symlink-absent : (text : Text) (slash : Bool)
        → Tells w l (symlink_foot w.held text (place.Absent d name slash)) (symlink_at l.command l.number text (Absent (w.nodes.name_of d) name slash))
    symlink-absent text slash =
        tells-unless w l (is_empty text) NoEntry _ _
        (tells-unless w l (has_nul text) Invalid _ _
        (tells-writing w l d (told_writing (told.Entry d name ∷ told.Names d ∷ []))
        (Ends answer.Done (makes l.command l.number 511 (Link text) (w.nodes.name_of d) name)) is (made-link text)))

    -- Link: what was found gets this name

    link-name : (n : Node) (slash : Bool)
        → Tells w l (both (reading (told.Mode d ∷ [])) (if lacks_w w.held.tree d then nothing else told_writing (told.Entry d name ∷ told.Names d ∷ [])))
        (link_name n (Absent (w.nodes.name_of d) name slash))
    link-name n slash = tells-writing w l d (told_writing (told.Entry d name ∷ told.Names d ∷ [])) (Ends answer.Done (links (w.nodes.name_of d) name n)) is
        (one-entry _)

  -- Mkdir, Symlink

  pub dirs : (refs : RefsHeld) (path : Text) (m : ℕ)
      → TellsIf w l (Makes w l m) (foot_by w.held refs (call.Mkdir path m)) (mkdir_path l.command l.number path m)
  dirs refs path m = if-by-way w l (Makes w l m) (row (mkdir_at l.command l.number m)) (λ spot. at_spot spot (mkdir_foot w.held m)) false
      (λ e so. tells-no w l nothing e)
      (λ passed here is reached so. tells-unless w l (nat_lt 511 m) Invalid nothing _ (tells-no w l nothing Exists))
      (λ passed dir name slash is near. mkdir-absent dir name near.stands.0 m slash) path

  pub soft : (refs : RefsHeld) (text path : Text) → TellsCall w l refs (call.Symlink text path) (symlink_path l.command l.number text path)
  soft refs text path = by-way w l (row (strict (symlink_at l.command l.number text))) (λ spot. at_spot (kernel_strict spot) (symlink_foot w.held text)) false
      (λ e. tells-no w l nothing e)
      (λ passed here is reached. tells-unless w l (is_empty text) NoEntry (if has_nul text then nothing else nothing) _
      (tells-unless w l (has_nul text) Invalid nothing _ (tells-no w l nothing Exists)))
      (λ passed dir name slash is near. strict-absent-told w l (symlink_foot w.held text) (symlink_at l.command l.number text) dir name slash
      (symlink-absent dir name near.stands.0 text slash)) path

  -- Link

  link-onto : (from : Node) (what : What) (foot : Foot) (to : _) → Tells w l foot (link_found from what (Found to))
  link-onto from File foot to = tells-no w l foot Exists
  link-onto from Dir foot to = tells-no w l foot Denied
  link-onto from (Link text) foot to = tells-no w l foot Exists

  abbrev link_told : Option TreeNode → ℕ → Text → Foot
  link_told o d name = checked ((false, NoEntry) ∷ (is_dir o, Denied) ∷ (false, Exists) ∷ (lacks_w w.held.tree d, Denied) ∷ [])
      ([] ∷ [] ∷ [] ∷ (told.Mode d ∷ []) ∷ []) (told_writing (told.Entry d name ∷ told.Names d ∷ []))

  link-free : (n : Node) (it : TreeNode) (d : ℕ) (name : Text) (slash : Bool) → is_dir (node_at w.held.tree d) ≡ true
      → Tells w l (link_told (Some it) d name) (link_found n (what_of (Some it)) (Absent (w.nodes.name_of d) name slash))
  link-free n (AFile mode content) d name slash is = link-name d name is n slash
  link-free n (ADir mode) d name slash is = tells-no w l (link_told (Some (ADir mode)) d name) Denied
  link-free n (ALink text) d name slash is = link-name d name is n slash

  link-second : (from : TreeHere) → IsFound w.held.tree from.node from.up → (b : Text)
      → Tells w l (along w.held b false (itself w.held b) (link_foot w.held (place.Found from))) (link_from b (Found (here_named w.held.tree
      (at w) w.nodes.name_of from)))
  link-second from found b = by-way w l (row (strict (link_at (Found (here_named w.held.tree (at w) w.nodes.name_of from)))))
      (λ spot. at_spot (kernel_strict spot) (link_foot w.held (place.Found from))) false (λ e. tells-no w l nothing e)
      (λ passed here is reached. link-onto _ (what_of (node_at w.held.tree from.node)) _ _)
      (λ passed dir name slash is near. strict-absent-told w l (link_foot w.held (place.Found from)) (link_at (Found (here_named w.held.tree
      (at w) w.nodes.name_of from)))
      dir name slash
      (let it = found-node (node_at w.held.tree from.node) found.there in
      subst (λ o. Tells w l (link_told o dir name) (link_found (record { name = w.nodes.name_of from.node; what = what_of (node_at w.held.tree from.node) })
      (what_of o)
      (Absent (w.nodes.name_of dir) name slash))) (sym it.1)
      (link-free (record { name = w.nodes.name_of from.node; what = what_of (node_at w.held.tree from.node) }) it.0 dir name slash near.stands.0))) b

  link-none : (d : ℕ) (n : Text) (s : Bool) (b : Text)
      → Tells w l (along w.held b false (itself w.held b) (link_foot w.held (place.Absent d n s))) (link_from b (Absent (w.nodes.name_of d) n s))
  link-none d n s b = by-way w l (row (strict (link_at (Absent (w.nodes.name_of d) n s)))) (λ spot. at_spot (kernel_strict spot) (link_foot w.held
      (place.Absent d n s)))
      false (λ e. tells-no w l nothing e) (λ passed here is reached. tells-no w l _ NoEntry)
      (λ passed dir name slash is near. strict-absent-told w l (link_foot w.held (place.Absent d n s)) (link_at (Absent (w.nodes.name_of d) n s)) dir name slash
      (tells-no w l _ NoEntry)) b

  pub names : (refs : RefsHeld) (a b : Text) → TellsCall w l refs (call.Link a b) (does_link a b)
  names refs a b = by-way w l (row (strict (link_from b)))
      (λ spot. at_spot (kernel_strict spot) (λ from. along w.held b false (itself w.held b) (link_foot w.held from))) false (λ e. tells-no w l nothing e)
      (λ passed here is reached. link-second here is b)
      (λ passed dir name slash is near. strict-absent-told w l (λ from. along w.held b false (itself w.held b) (link_foot w.held from))
      (link_from b) dir name slash
      (link-none dir name slash b)) a

  -- Unlink

  abbrev unlink_told : Option TreeNode → Option (ℕ × Text) → Foot
  unlink_told o up = checked ((false, NoEntry) ∷ (is_dir o, IsDir) ∷ (lacks_w_above w.held up, Denied) ∷ []) ([] ∷ [] ∷ dir_mode up
      ∷ []) (told_writing (entry_cells up))

  module _ (n : ℕ) where
    unlink-file : (what : What) → is_dir_what what ≡ false → (up : Option (ℕ × Text)) → StandsUnder w.held.tree n up
        → Tells w l (both (reading (dir_mode up)) (if lacks_w_above w.held up then nothing else told_writing (entry_cells up)))
        (unlink_up (record { name = w.nodes.name_of n; what = what }) (up_named w.held.tree (at w) w.nodes.name_of up))
    unlink-file what file None under = record { reads = tt; writes = tt }
    unlink-file what file (Some up) under =
        tells-writing w l up.0 (told_writing (told.Entry up.0 up.1 ∷ told.Names up.0 ∷ [])) _ under.holds.in_dir
        (subst (λ b. Tells w l (told_writing (told.Entry up.0 up.1 ∷ told.Names up.0 ∷ []))
        (Ends answer.Done ((EntryOf (w.nodes.name_of up.0) up.1, Sets (Entry None)) ∷ (if b then (AboveOf (w.nodes.name_of n), Sets (Above None))
        ∷ [] else []))))
        (sym file) (one-entry up.0 up.1 under.holds.in_dir (Sets (Entry None))))

    unlink-node : (it : TreeNode) (up : Option (ℕ × Text)) → StandsUnder w.held.tree n up
        → Tells w l (unlink_told (Some it) up)
        (unlink_what (record { name = w.nodes.name_of n; what = what_of (Some it) }) (up_named w.held.tree (at w) w.nodes.name_of up) (what_of (Some it)))
    unlink-node (AFile mode content) up under = unlink-file File refl up under
    unlink-node (ADir mode) up under = tells-no w l _ IsDir
    unlink-node (ALink text) up under = unlink-file (Link text) refl up under

  pub unlinks : (refs : RefsHeld) (path : Text) → TellsCall w l refs (call.Unlink path) (does_unlink path)
  unlinks refs path = by-way w l (row (strict unlink_at)) (λ spot. at_spot (kernel_strict spot) (unlink_foot w.held)) false (λ e. tells-no w l nothing e)
      (λ passed here is reached. let it = found-node (node_at w.held.tree here.node) is.there in
      subst (λ o. Tells w l (unlink_told o here.up)
      (unlink_what (record { name = w.nodes.name_of here.node; what = what_of o }) (up_named w.held.tree (at w) w.nodes.name_of here.up) (what_of o)))
      (sym it.1)
      (unlink-node here.node it.0 here.up is.under))
      (λ passed dir name slash is near. strict-absent-told w l (unlink_foot w.held) unlink_at dir name slash (tells-no w l _ NoEntry)) path

  -- Rmdir

  abbrev rmdir_told : ℕ → Option TreeNode → Option (ℕ × Text) → Foot
  rmdir_told n o up = checked ((false, NoEntry) ∷ (not (is_there up), Invalid) ∷ (not (is_dir o), NotDir)
      ∷ (is_dir o && not (is_empty (names_of w.held.tree n)), NotEmpty) ∷ (lacks_w_above w.held up, Denied) ∷ [])
      ([] ∷ [] ∷ [] ∷ (told.Names n ∷ []) ∷ dir_mode up ∷ []) (told_writing (entry_cells up ++ (if is_dir o then told.Above n ∷ [] else [])))

  rmdir-node : (n : ℕ) (it : TreeNode) → node_at w.held.tree n ≡ Some it → (up : ℕ × Text) → IsNameOf w.held.tree n up.0 up.1
      → Tells w l (rmdir_told n (Some it) (Some up))
      (rmdir_what (record { name = w.nodes.name_of n; what = what_of (Some it) }) (w.nodes.name_of up.0, up.1) (what_of (Some it)))
  rmdir-node n (AFile mode content) is up under = tells-no w l _ NotDir
  rmdir-node n (ADir mode) is up under =
      tells-reads w l (All (w.nodes.name_of n)) (told.Names n) (Names (names_of w.held.tree n))
      (rmdir_names (record { name = w.nodes.name_of n; what = Dir }) (w.nodes.name_of up.0, up.1)) _
      (ap (λ m. By (told.Names m)) (dir-number w l n (ap is_dir is))) (names-of w n (ap is_dir is))
      (tells-unless w l (not (is_empty (names_of w.held.tree n))) NotEmpty _ _
      (tells-writing w l up.0 (told_writing (told.Entry up.0 up.1 ∷ told.Names up.0 ∷ told.Above n ∷ [])) _ under.holds.in_dir
      (record {
        reads = tt;
        writes = (
          inl (entry-is up.0 up.1 under.holds.in_dir),
          (
            inr (inl (names-is up.0 up.1 under.holds.in_dir)),
            (inr (inr (inl (ap told.Above (sym (dir-number w l n (ap is_dir is)))))), tt),
          ),
        );
      })))
  rmdir-node n (ALink text) is up under = tells-no w l _ NotDir

  rmdir-up : (n : ℕ) (it : TreeNode) → node_at w.held.tree n ≡ Some it → (up : Option (ℕ × Text)) → StandsUnder w.held.tree n up
      → Tells w l (rmdir_told n (Some it) up)
      (rmdir_up (record { name = w.nodes.name_of n; what = what_of (Some it) }) (up_named w.held.tree (at w) w.nodes.name_of up))
  rmdir-up n it is None under = tells-no w l _ Invalid
  rmdir-up n it is (Some up) under = rmdir-node n it is up under

  pub removes-dirs : (refs : RefsHeld) (path : Text) → TellsCall w l refs (call.Rmdir path) (does_rmdir path)
  removes-dirs refs path = by-way w l (row (strict rmdir_at)) (λ spot. at_spot (kernel_strict spot) (rmdir_foot w.held)) false (λ e. tells-no w l nothing e)
      (λ passed here is reached. let it = found-node (node_at w.held.tree here.node) is.there in
      subst (λ o. Tells w l (rmdir_told here.node o here.up)
      (rmdir_up (record { name = w.nodes.name_of here.node; what = what_of o }) (up_named w.held.tree (at w) w.nodes.name_of here.up))) (sym it.1)
      (rmdir-up here.node it.0 it.1 here.up is.under))
      (λ passed dir name slash is near. strict-absent-told w l (rmdir_foot w.held) rmdir_at dir name slash (tells-no w l _ NoEntry)) path

pub changes : TellsChanges
changes = record {
  dirs = λ w l refs path m. if-once w l (Makes w l m) _ (mkdir_path l.command l.number path m) (λ unused. dirs w l refs path m);
  links = λ w l refs text path. tells-once w l _ (symlink_path l.command l.number text path) (λ unused. soft w l refs text path);
  names = λ w l refs a b. names w l refs a b;
  unlinks = λ w l refs path. unlinks w l refs path;
  removes = λ w l refs path. removes-dirs w l refs path;
  renames = λ w l refs a b. renames-told w l refs a b;
  modes = λ w l refs path m. modes w l refs path m;
}
