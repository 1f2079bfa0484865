-- What is told of Rename tells its program.
use Rattle.std.proofs.Common.{◌≡◌, ℕ, [], ◌∷◌, ◌++◌, Bool, true, false, not, ◌&&◌, Option, Some, None, refl, sym, ap, subst, inl, inr}
use Rattle.std.specs.Prelude.{◌==◌, if◌then◌else◌}
use Rattle.std.proofs.lemmas.Bool.{eq-eqb}
use Rattle.rk_base.specs.Text.{Text}
use Rattle.rk_base.specs.Canonical.{is_empty}
use Rattle.rk_base.specs.declared.errno.Errno.TheVariants.{NoEntry, NotDir, IsDir, NotEmpty, Invalid}
use Rattle.rk_calls.specs.Refs.{RefsHeld}
use Rattle.rk_calls.specs.declared.answer.Answer.TheVariants as answer
use Rattle.rk_calls.specs.declared.call.Call.TheVariants as call
use Rattle.rk_tree.specs.Entries.{is_dir}
use Rattle.rk_tree.specs.Hierarchy.{node as node_at, top as top_at, names as names_of, stands_within}
use Rattle.rk_tree.specs.Refusals.{is_there, goes_below}
use Rattle.rk_walk.specs.Places.{IsFound, IsNameOf}
use Rattle.rk_walk.specs.Walk.{resolve as leads_to}
use Rattle.rk_walk.specs.declared.place.Here.{Here as TreeHere}
use Rattle.rk_walk.specs.declared.place.Place.TheVariants as place
use Rattle.rk_kernel.specs.Feet.{moved_foot, rename_foot}
use Rattle.rk_kernel.specs.Foot.{nothing, reading, writing as told_writing, both, along, at_spot, upwards}
use Rattle.rk_kernel.specs.Rows.{strict as kernel_strict}
use Rattle.rk_kernel.specs.declared.cell.Cell.TheVariants as told
use Rattle.rk_kernel.specs.declared.foot.Foot.{Foot}
use Rattle.rk_waves.specs.Programs.{All, Reads, Ends, Sets, Update, written_cells}
use Rattle.rk_feet.specs.CellLemmas.{cells}
use Rattle.rk_feet.specs.Changing.{is_dir as is_dir_what}
use Rattle.rk_feet.specs.Checks.{no, row, climbing, strict}
use Rattle.rk_feet.specs.Climbing.{Way, passes, climb}
use Rattle.rk_feet.specs.Course.{what_of, here_named, up_named}
use Rattle.rk_feet.specs.Named.{EntryOf, AboveOf, Value, Entry, Above, Names, Writes, Does}
use Rattle.rk_feet.specs.Renaming.{Move, moved, over_names, unless_full, unless_below, renames, rename_onto, rename_from, does_rename}
use Rattle.rk_feet.specs.Told.{By, Later, node_in, AreTold, Tells, TellsCall}
use Rattle.rk_feet.specs.Ways.{Found, Absent}
use Rattle.rk_feet.specs.World.{World, at, node_named, entry_named}
use Rattle.rk_feet.specs.NamingLemmas.{clash}
use Rattle.rk_feet.proofs.KindLemmas.{dirs-agree}
use Rattle.rk_feet.proofs.LeadingLemmas.{IsNear}
use Rattle.rk_feet.proofs.QuestionLemmas.{same-number, names-of}
use Rattle.rk_feet.proofs.RemovingLemmas.{not-top}
use Rattle.rk_feet.proofs.RenamingLemmas.{both-same}
use Rattle.rk_feet.proofs.ToldLemmas.{node-number, dir-number, tells-no, tells-unless, tells-reads, tells-writing, by-way, strict-absent-told}
use Rattle.rk_feet.proofs.ToldUpward.{tells-climb}
use Rattle.rk_feet.proofs.UpwardLemmas.{IsWay, way-passes}

-- a directory goes over a directory alone, a file or a link over none, and to no name with a slash after it

told-found : (w : World) (l : Later w) (a b : Bool) (foot : Foot) (x : Does) → Tells w l foot x
    → Tells w l (if a && not b then nothing else if not a && false then nothing else if not a && b then nothing else foot)
    (if a && not b then no NotDir else if not a && b then no IsDir else x)
told-found w l true true foot x h = h
told-found w l true false foot x h = tells-no w l nothing NotDir
told-found w l false true foot x h = tells-no w l nothing IsDir
told-found w l false false foot x h = h

told-none : (w : World) (l : Later w) (a slash : Bool) (foot : Foot) (x : Does) → Tells w l foot x
    → Tells w l (if a && false then nothing else if not a && slash then nothing else if not a && false then nothing else foot)
    (if not a && slash then no NotDir else x)
told-none w l true slash foot x h = h
told-none w l false true foot x h = tells-no w l nothing NotDir
told-none w l false false foot x h = h

-- a node under a name, and the place that it goes to
module _ (w : World) (l : Later w) (n dir to : ℕ) (name new : Text) (from : IsNameOf w.held.tree n dir name) (passed : ℕ)
    (near : IsNear w.held.tree passed to) where
  abbrev move : Option ℕ → Move
  move over = record { node = node_named w n; from = (w.nodes.name_of dir, name); onto = (w.nodes.name_of to, new); over = entry_named w over }

  abbrev goes : Bool
  goes = is_dir (node_at w.held.tree n)

  apart : n ≡ top_at → ⊥
  apart same = clash (n == top_at) (eq-eqb n top_at same) (not-top w dir name n from.child_is)

  -- what is written

  abbrev written : Foot
  written = told_writing (told.Entry dir name ∷ told.Names dir ∷ told.Entry to new ∷ told.Names to ∷ ((if goes then told.Above n ∷ [] else []) ++ []))

  abbrev written_over : ℕ → Foot
  written_over k = told_writing (told.Entry dir name ∷ told.Names dir ∷ told.Entry to new ∷ told.Names to
      ∷ ((if goes then told.Above n ∷ [] else []) ++ (if is_dir (node_at w.held.tree k) then told.Above k ∷ [] else [])))

  entry-at : (d : ℕ) (text : Text) → is_dir (node_at w.held.tree d) ≡ true → told.Entry d text ≡ told.Entry (node_in l.world (w.nodes.name_of d)) text
  entry-at d text is = ap (λ m. told.Entry m text) (sym (dir-number w l d is))

  names-at : (d : ℕ) → is_dir (node_at w.held.tree d) ≡ true → told.Names d ≡ told.Names (node_in l.world (w.nodes.name_of d))
  names-at d is = ap told.Names (sym (dir-number w l d is))

  place-at : (k : ℕ) → is_there (node_at w.held.tree k) ≡ true → told.Above k ≡ told.Above (node_in l.world (w.nodes.name_of k))
  place-at k there = ap told.Above (sym (node-number w l k there))

  writes-told : (a : Bool) (u v x : Update Value)
      → AreTold w l (told.Entry dir name ∷ told.Names dir ∷ told.Entry to new ∷ told.Names to ∷ ((if a then told.Above n ∷ [] else []) ++ []))
      (written_cells cells ((EntryOf (w.nodes.name_of dir) name, u) ∷ (EntryOf (w.nodes.name_of to) new, v)
      ∷ ((if a then (AboveOf (w.nodes.name_of n), x) ∷ [] else []) ++ [])))
  writes-told true u v x = (
    inl (entry-at dir name from.holds.in_dir),
    (
      inr (inl (names-at dir from.holds.in_dir)),
      (
        inr (inr (inl (entry-at to new near.stands.0))),
        (
          inr (inr (inr (inl (names-at to near.stands.0)))),
          (inr (inr (inr (inr (inl (place-at n from.there))))), tt),
        ),
      ),
    ),
  )
  writes-told false u v x = (
    inl (entry-at dir name from.holds.in_dir),
    (
      inr (inl (names-at dir from.holds.in_dir)),
      (inr (inr (inl (entry-at to new near.stands.0))), (inr (inr (inr (inl (names-at to near.stands.0)))), tt)),
    ),
  )

  writes-over : (k : ℕ) → is_there (node_at w.held.tree k) ≡ true → (a b : Bool) (u v x y : Update Value)
      → AreTold w l (told.Entry dir name ∷ told.Names dir ∷ told.Entry to new ∷ told.Names to
      ∷ ((if a then told.Above n ∷ [] else []) ++ (if b then told.Above k ∷ [] else [])))
      (written_cells cells ((EntryOf (w.nodes.name_of dir) name, u) ∷ (EntryOf (w.nodes.name_of to) new, v)
      ∷ ((if a then (AboveOf (w.nodes.name_of n), x) ∷ [] else []) ++ (if b then (AboveOf (w.nodes.name_of k), y) ∷ [] else []))))
  writes-over k there true true u v x y = (
    inl (entry-at dir name from.holds.in_dir),
    (
      inr (inl (names-at dir from.holds.in_dir)),
      (
        inr (inr (inl (entry-at to new near.stands.0))),
        (
          inr (inr (inr (inl (names-at to near.stands.0)))),
          (inr (inr (inr (inr (inl (place-at n from.there))))), (inr (inr (inr (inr (inr (inl (place-at k there)))))), tt)),
        ),
      ),
    ),
  )
  writes-over k there true false u v x y = (
    inl (entry-at dir name from.holds.in_dir),
    (
      inr (inl (names-at dir from.holds.in_dir)),
      (
        inr (inr (inl (entry-at to new near.stands.0))),
        (
          inr (inr (inr (inl (names-at to near.stands.0)))),
          (inr (inr (inr (inr (inl (place-at n from.there))))), tt),
        ),
      ),
    ),
  )
  writes-over k there false true u v x y = (
    inl (entry-at dir name from.holds.in_dir),
    (
      inr (inl (names-at dir from.holds.in_dir)),
      (
        inr (inr (inl (entry-at to new near.stands.0))),
        (
          inr (inr (inr (inl (names-at to near.stands.0)))),
          (inr (inr (inr (inr (inl (place-at k there))))), tt),
        ),
      ),
    ),
  )
  writes-over k there false false u v x y = (
    inl (entry-at dir name from.holds.in_dir),
    (
      inr (inl (names-at dir from.holds.in_dir)),
      (inr (inr (inl (entry-at to new near.stands.0))), (inr (inr (inr (inl (names-at to near.stands.0)))), tt)),
    ),
  )

  abbrev moves_by : Bool → Writes → Writes
  moves_by a rest = (EntryOf (w.nodes.name_of dir) name, Sets (Entry None)) ∷ (EntryOf (w.nodes.name_of to) new, Sets (Entry (Some (node_named w n))))
      ∷ ((if a then (AboveOf (w.nodes.name_of n), Sets (Above (Some (w.nodes.name_of to, new)))) ∷ [] else []) ++ rest)

  moved-told : Tells w l written (moved (move None))
  moved-told = record {
    reads = tt;
    writes = subst (λ a. AreTold w l written.writes (written_cells cells (moves_by a []))) (sym (dirs-agree (node_at w.held.tree n) from.there))
        (writes-told goes (Sets (Entry None)) (Sets (Entry (Some (node_named w n)))) (Sets (Above (Some (w.nodes.name_of to, new)))));
  }

  moved-over : (k : ℕ) → is_there (node_at w.held.tree k) ≡ true → Tells w l (written_over k) (moved (move (Some k)))
  moved-over k there = record {
    reads = tt;
    writes = subst (λ a. AreTold w l (written_over k).writes (written_cells cells (moves_by a
        (if is_dir_what (what_of (node_at w.held.tree k)) then (AboveOf (w.nodes.name_of k), Sets (Above None)) ∷ [] else []))))
        (sym (dirs-agree (node_at w.held.tree n) from.there))
        (subst (λ b. AreTold w l (written_over k).writes (written_cells cells (moves_by goes
        (if b then (AboveOf (w.nodes.name_of k), Sets (Above None)) ∷ [] else []))))
        (sym (dirs-agree (node_at w.held.tree k) there))
        (writes-over k there goes (is_dir (node_at w.held.tree k)) (Sets (Entry None)) (Sets (Entry (Some (node_named w n))))
        (Sets (Above (Some (w.nodes.name_of to, new)))) (Sets (Above None))));
  }

  -- over a directory in which no names stand

  abbrev emptied : ℕ → Bool → Foot
  emptied k b = both (reading (if b then told.Names k ∷ [] else []))
      (if b && not (is_empty (names_of w.held.tree k)) then nothing else written_over k)

  over-told : (k : ℕ) → is_there (node_at w.held.tree k) ≡ true
      → Tells w l (emptied k (is_dir (node_at w.held.tree k))) (unless_full (move (Some k)) (entry_named w (Some k)))
  over-told k there =
      subst (λ c. Tells w l (emptied k (is_dir (node_at w.held.tree k)))
      (if c then Reads (All (w.nodes.name_of k)) (over_names (move (Some k))) else moved (move (Some k))))
      (sym (dirs-agree (node_at w.held.tree k) there)) (go (is_dir (node_at w.held.tree k)) refl)
    where
      go : (b : Bool) → is_dir (node_at w.held.tree k) ≡ b
          → Tells w l (emptied k b) (if b then Reads (All (w.nodes.name_of k)) (over_names (move (Some k))) else moved (move (Some k)))
      go true d =
          tells-reads w l (All (w.nodes.name_of k)) (told.Names k) (Names (names_of w.held.tree k)) (over_names (move (Some k)))
          (if not (is_empty (names_of w.held.tree k)) then nothing else written_over k)
          (ap (λ m. By (told.Names m)) (node-number w l k there)) (names-of w k d)
          (tells-unless w l (not (is_empty (names_of w.held.tree k))) NotEmpty (written_over k) (moved (move (Some k))) (moved-over k there))
      go false d = moved-over k there

  -- a directory doesn't go into itself
  into-itself : (over : Option ℕ) (foot : Foot) → Tells w l foot (unless_full (move over) (entry_named w over))
      → Tells w l (both (reading (upwards w.held.tree to)) (if goes_below w.held.tree n to then nothing else foot))
      (climb passed (unless_below (move over)) (w.nodes.name_of to))
  into-itself over foot h =
      tells-climb w l passed (unless_below (move over)) (if goes_below w.held.tree n to then nothing else foot) to near
      (λ way is. subst (λ b. Tells w l (if goes_below w.held.tree n to then nothing else foot) (if b then no Invalid else unless_full (move over)
      (entry_named w over)))
      (sym (same way is)) (tells-unless w l (goes_below w.held.tree n to) Invalid foot (unless_full (move over) (entry_named w over)) h))
    where
      same : (way : Way) → IsWay w to way
          → (is_dir_what (what_of (node_at w.held.tree n)) && passes way (w.nodes.name_of n)) ≡ goes_below w.held.tree n to
      same way is =
          both-same (is_dir_what (what_of (node_at w.held.tree n))) (is_dir (node_at w.held.tree n)) (passes way (w.nodes.name_of n))
          (stands_within w.held.tree n to)
          (dirs-agree (node_at w.held.tree n) from.there) (λ d. way-passes w n d apart to way is)

  onto-absent : (fslash slash : Bool)
      → Tells w l (moved_foot w.held (place.Found (record { node = n; up = Some (dir, name); slash = fslash })) (place.Absent to new slash)) (renames passed
      (move None) slash)
  onto-absent fslash slash =
      tells-writing w l dir _ _ from.holds.in_dir
      (tells-writing w l to _ _ near.stands.0
      (subst (λ a. Tells w l (if goes && false then nothing else if not goes && slash then nothing else if not goes && false then nothing
      else both (reading (upwards w.held.tree to)) (if goes_below w.held.tree n to then nothing else written))
      (if not a && slash then no NotDir else climb passed (unless_below (move None)) (w.nodes.name_of to)))
      (sym (dirs-agree (node_at w.held.tree n) from.there))
      (told-none w l goes slash (both (reading (upwards w.held.tree to)) (if goes_below w.held.tree n to then nothing else written))
      (climb passed (unless_below (move None)) (w.nodes.name_of to)) (into-itself None written moved-told))))

  onto-found : (fslash slash : Bool) (k : ℕ) → is_there (node_at w.held.tree k) ≡ true
      → Tells w l (moved_foot w.held (place.Found (record { node = n; up = Some (dir, name); slash = fslash })) (place.Found (record {
        node = k;
        up = Some
            (to, new);
        slash = slash;
      })))
      (renames passed (move (Some k)) false)
  onto-found fslash slash k there =
      tells-writing w l dir _ _ from.holds.in_dir
      (tells-writing w l to _ _ near.stands.0
      (subst (λ a. Tells w l core (if a && not (is_dir_what (what_of (node_at w.held.tree k))) then no NotDir
      else if not a && is_dir_what (what_of (node_at w.held.tree k)) then no IsDir else up)) (sym (dirs-agree (node_at w.held.tree n) from.there))
      (subst (λ b. Tells w l core (if goes && not b then no NotDir else if not goes && b then no IsDir else up))
      (sym (dirs-agree (node_at w.held.tree k) there))
      (told-found w l goes (is_dir (node_at w.held.tree k)) last up
      (into-itself (Some k) (emptied k (is_dir (node_at w.held.tree k))) (over-told k there))))))
    where
      up : Does
      up = climb passed (unless_below (move (Some k))) (w.nodes.name_of to)

      last : Foot
      last = both (reading (upwards w.held.tree to)) (if goes_below w.held.tree n to then nothing else emptied k (is_dir (node_at w.held.tree k)))

      core : Foot
      core = if goes && not (is_dir (node_at w.held.tree k)) then nothing else if not goes && false then nothing
          else if not goes && is_dir (node_at w.held.tree k) then nothing else last

-- From what was found to a second path.

module _ (w : World) (l : Later w) (n : ℕ) (fslash : Bool) (passed : ℕ) where
  abbrev found_at : Option (ℕ × Text) → TreeHere
  found_at up = record { node = n; up = up; slash = fslash }

  second-found : (up : Option (ℕ × Text)) → IsFound w.held.tree n up → (k : ℕ) (slash : Bool) (onto : Option (ℕ × Text)) → IsFound w.held.tree k onto
      → ((it : ℕ × Text) → onto ≡ Some it → IsNear w.held.tree passed it.0)
      → Tells w l (rename_foot w.held (place.Found (found_at up)) (place.Found (record { node = k; up = onto; slash = slash })))
      (rename_onto (node_named w n) (up_named w.held.tree (at w) w.nodes.name_of up) passed
      (Found (here_named w.held.tree (at w) w.nodes.name_of (record { node = k; up = onto; slash = slash }))))
  second-found None is k slash onto to near = tells-no w l _ Invalid
  second-found (Some up) is k slash None to near = tells-no w l _ Invalid
  second-found (Some up) is k slash (Some onto) to near =
      subst (λ b. Tells w l (rename_foot w.held (place.Found (found_at (Some up))) (place.Found (record { node = k; up = Some onto; slash = slash })))
      (if b then Ends answer.Done [] else renames passed
      (record { node = node_named w n; from = (w.nodes.name_of up.0, up.1); onto = (w.nodes.name_of onto.0, onto.1); over = Some (node_named w k) }) false))
      (same-number w n k is.there to.there) (go (n == k))
    where
      go : (b : Bool)
          → Tells w l (if b then nothing else moved_foot w.held (place.Found (found_at (Some up))) (place.Found
          (record { node = k; up = Some onto; slash = slash })))
          (if b then Ends answer.Done [] else renames passed
          (record { node = node_named w n; from = (w.nodes.name_of up.0, up.1); onto = (w.nodes.name_of onto.0, onto.1); over = Some (node_named w k) }) false)
      go true = record { reads = tt; writes = tt }
      go false = onto-found w l n up.0 onto.0 up.1 onto.1 is.under passed (near onto refl) fslash slash k to.there

  second-absent : (up : Option (ℕ × Text)) → IsFound w.held.tree n up → (to : ℕ) (new : Text) (slash : Bool) → IsNear w.held.tree passed to
      → Tells w l (rename_foot w.held (place.Found (found_at up)) (place.Absent to new slash))
      (rename_onto (node_named w n) (up_named w.held.tree (at w) w.nodes.name_of up) passed (Absent (w.nodes.name_of to) new slash))
  second-absent None is to new slash near = tells-no w l _ Invalid
  second-absent (Some up) is to new slash near = onto-absent w l n up.0 to up.1 new is.under passed near fslash slash

module _ (w : World) (l : Later w) where
  rename-second : (b : Text) (from : TreeHere) → IsFound w.held.tree from.node from.up
      → Tells w l (along w.held b false (leads_to w.held.tree b false) (rename_foot w.held (place.Found from)))
      (rename_from b (Found (here_named w.held.tree (at w) w.nodes.name_of from)))
  rename-second b from is = by-way w l (climbing (rename_onto (node_named w from.node) (up_named w.held.tree (at w) w.nodes.name_of from.up)))
      (λ spot. at_spot spot (rename_foot w.held (place.Found from))) false (λ e. tells-no w l nothing e)
      (λ passed to is_to reached. second-found w l from.node from.slash passed from.up is to.node to.slash to.up is_to reached.up_near)
      (λ passed dir name slash free near. second-absent w l from.node from.slash passed from.up is dir name slash near) b

  rename-absent : (b : Text) (d : ℕ) (n : Text) (s : Bool)
      → Tells w l (along w.held b false (leads_to w.held.tree b false) (rename_foot w.held (place.Absent d n s)))
      (rename_from b (Absent (w.nodes.name_of d) n s))
  rename-absent b d n s = by-way w l (row (λ to. no NoEntry)) (λ spot. at_spot spot (rename_foot w.held (place.Absent d n s))) false
      (λ e. tells-no w l nothing e)
      (λ passed to is reached. tells-no w l nothing NoEntry) (λ passed dir name slash free near. tells-no w l nothing NoEntry) b

  pub renames-told : (refs : RefsHeld) (a b : Text) → TellsCall w l refs (call.Rename a b) (does_rename a b)
  renames-told refs a b = by-way w l (row (strict (rename_from b)))
      (λ spot. at_spot (kernel_strict spot) (λ from. along w.held b false (leads_to w.held.tree b false) (rename_foot w.held from))) false
      (λ e. tells-no w l nothing e)
      (λ passed from is reached. rename-second b from is)
      (λ passed dir name slash is near. strict-absent-told w l (λ from. along w.held b false (leads_to w.held.tree b false) (rename_foot w.held from))
      (rename_from b)
      dir name slash (rename-absent b dir name slash)) a
