-- Rename.
use Rattle.std.proofs.Common.{◌≡◌, ℕ, List, [], ◌∷◌, Bool, true, false, not, ◌&&◌, Option, Some, None, refl, sym, ◌∙◌, ap, subst}
use Rattle.std.specs.Prelude.{◌==◌, if◌then◌else◌}
use Rattle.std.proofs.lemmas.Bool.{eq-eqb}
use Rattle.rk_base.specs.Text.{Text}
use Rattle.rk_base.specs.Canonical.{is_empty, is_name}
use Rattle.rk_base.specs.declared.errno.Errno.{Errno}
use Rattle.rk_base.specs.declared.errno.Errno.TheVariants.{NoEntry, NotDir, IsDir, Denied, NotEmpty, Invalid}
use Rattle.rk_calls.specs.Given.{Given}
use Rattle.rk_calls.specs.Refs.{RefsHeld}
use Rattle.rk_calls.specs.declared.answer.Answer.TheVariants as answer
use Rattle.rk_tree.specs.Entries.{is_dir}
use Rattle.rk_tree.specs.Hierarchy.{node as node_at, top as top_at, child, is_same, mode_of, names, renamed, stands_within}
use Rattle.rk_tree.specs.Refusals.{is_there, lacks_w, first_of, has_names, goes_below, over_checks, rename_checks}
use Rattle.rk_tree.specs.Whole.{MayHold}
use Rattle.rk_walk.specs.Places.{IsNameOf, IsFound, IsFreeName}
use Rattle.rk_walk.specs.Walk.{resolve as leads_to}
use Rattle.rk_walk.specs.declared.place.Here.{Here as TreeHere}
use Rattle.rk_walk.specs.declared.place.Place.TheVariants as place
use Rattle.rk_kernel.specs.World as kernel
use Rattle.rk_kernel.specs.Rows.{giving, unless, done, at_place}
use Rattle.rk_kernel.specs.Rows.{strict as kernel_strict}
use Rattle.rk_kernel.specs.Changes as changing
use Rattle.rk_waves.specs.Programs.{One, All, Ends, Reads}
use Rattle.rk_feet.specs.Changing.{is_dir as is_dir_what}
use Rattle.rk_feet.specs.Checks.{no, climbing, strict, writing, writing_mode}
use Rattle.rk_feet.specs.Climbing.{Way, passes, climb}
use Rattle.rk_feet.specs.Course.{what_of, up_named, here_named}
use Rattle.rk_feet.specs.Laws as law
use Rattle.rk_feet.specs.Named.{ModeOf, Mode, Names, Does}
use Rattle.rk_feet.specs.NamingLemmas.{clash}
use Rattle.rk_feet.specs.Renaming.{Move, moved, over_names, unless_full, unless_below, over_what, renames, rename_onto, rename_from}
use Rattle.rk_feet.specs.Simulates.{Simulates, ends_in}
use Rattle.rk_feet.specs.Ways.{Found, Absent}
use Rattle.rk_feet.specs.World.{World, at, node_named, entry_named}
use Rattle.rk_feet.proofs.KindLemmas.{dirs-agree}
use Rattle.rk_feet.proofs.LeadingLemmas.{IsNear}
use Rattle.rk_feet.proofs.MakingCallLemmas.{there-dir}
use Rattle.rk_feet.proofs.MovingLemmas.{move-name}
use Rattle.rk_feet.proofs.PlaceLemmas.{by-path, by-reach, mode-read}
use Rattle.rk_feet.proofs.QuestionLemmas.{same-number, strict-absent, names-of}
use Rattle.rk_feet.proofs.RemovingLemmas.{not-top}
use Rattle.rk_feet.proofs.SimulationLemmas.{simulates-no, simulates-answer, simulates-unless, simulates-reads}
use Rattle.rk_feet.proofs.UpwardLemmas.{IsWay, climbs, way-passes}

-- a directory that gains or loses a name needs `w`; what comes after it knows that it has it
simulates-writes :
    (w : World) (refs : RefsHeld) (d : ℕ) (checks : List (Bool × Errno)) (given : Given kernel.World) (x : Does) → is_dir (node_at w.held.tree d) ≡ true
    → (lacks_w w.held.tree d ≡ false → Simulates w (unless w.held refs checks given) (ends_in w x))
    → Simulates w (unless w.held refs ((lacks_w w.held.tree d, Denied) ∷ checks) given) (ends_in w (writing (w.nodes.name_of d) x))
simulates-writes w refs d checks given x dir h =
    simulates-reads w _ (One (ModeOf (w.nodes.name_of d))) (Mode (mode_of (node_at w.held.tree d))) (writing_mode x)
    (mode-read w d (there-dir (node_at w.held.tree d) dir))
    (simulates-unless w refs (lacks_w w.held.tree d) (lacks_w w.held.tree d) Denied checks given x refl h)

-- a check that doesn't hold
passed-on : (b : Bool) (e : Errno) (checks : List (Bool × Errno)) → b ≡ false → first_of ((b, e) ∷ checks) ≡ first_of checks
passed-on b e checks h = ap (λ b. if b then Some e else first_of checks) h

pub both-same : (a b p q : Bool) → a ≡ b → (b ≡ true → p ≡ q) → (a && p) ≡ (b && q)
both-same a true p q e h = ap (λ c. c && p) e ∙ h refl
both-same a false p q e h = ap (λ c. c && p) e

-- a directory goes over a directory alone, a file or a link over none

over-found :
    (w : World) (refs : RefsHeld) (a b : Bool) (checks : List (Bool × Errno)) (given : Given kernel.World) (x : Does)
    → ((a && not b) ≡ false → (not a && b) ≡ false → Simulates w (unless w.held refs checks given) (ends_in w x))
    → Simulates w (unless w.held refs ((a && not b, NotDir) ∷ (not a && false, NotDir) ∷ (not a && b, IsDir) ∷ checks) given)
    (ends_in w (if a && not b then no NotDir else if not a && b then no IsDir else x))
over-found w refs true true checks given x h = h refl refl
over-found w refs true false checks given x h = simulates-no w refs NotDir
over-found w refs false true checks given x h = simulates-no w refs IsDir
over-found w refs false false checks given x h = h refl refl

over-none :
    (w : World) (refs : RefsHeld) (a slash : Bool) (checks : List (Bool × Errno)) (given : Given kernel.World) (x : Does)
    → Simulates w (unless w.held refs checks given) (ends_in w x)
    → Simulates w (unless w.held refs ((a && false, NotDir) ∷ (not a && slash, NotDir) ∷ (not a && false, IsDir) ∷ checks) given)
    (ends_in w (if not a && slash then no NotDir else x))
over-none w refs true slash checks given x h = h
over-none w refs false true checks given x h = simulates-no w refs NotDir
over-none w refs false false checks given x h = h

-- a node under a name, and the place that it goes to
module _ (w : World) (refs : RefsHeld) (n dir to : ℕ) (name new : Text) (from : IsNameOf w.held.tree n dir name) (may : MayHold w.held.tree to new)
    (named : is_name new ≡ true) (passed : ℕ) (near : IsNear w.held.tree passed to) where
  abbrev move : Option ℕ → Move
  move over = record { node = node_named w n; from = (w.nodes.name_of dir, name); onto = (w.nodes.name_of to, new); over = entry_named w over }

  abbrev given : Given kernel.World
  given = done w.held refs (renamed w.held.tree dir name to new)

  apart : n ≡ top_at → ⊥
  apart same = clash (n == top_at) (eq-eqb n top_at same) (not-top w dir name n from.child_is)

  -- a directory doesn't go into itself
  into-itself : (over : Option ℕ) (checks : List (Bool × Errno))
      → (goes_below w.held.tree n to ≡ false → Simulates w (unless w.held refs checks given) (ends_in w (unless_full (move over) (entry_named w over))))
      → Simulates w (unless w.held refs ((goes_below w.held.tree n to, Invalid) ∷ checks) given)
      (ends_in w (climb passed (unless_below (move over)) (w.nodes.name_of to)))
  into-itself over checks h =
      let way = climbs w passed (unless_below (move over)) to near in
      subst (Simulates w (unless w.held refs ((goes_below w.held.tree n to, Invalid) ∷ checks) given)) (sym way.2)
      (simulates-unless w refs (goes_below w.held.tree n to) (is_dir_what (what_of (node_at w.held.tree n)) && passes way.0 (w.nodes.name_of n)) Invalid
      checks given
      (unless_full (move over) (entry_named w over)) (sym (same way.0 way.1)) h)
    where
      same : (way : Way) → IsWay w to way
          → (is_dir_what (what_of (node_at w.held.tree n)) && passes way (w.nodes.name_of n)) ≡ goes_below w.held.tree n to
      same way is =
          both-same (is_dir_what (what_of (node_at w.held.tree n))) (is_dir (node_at w.held.tree n)) (passes way (w.nodes.name_of n))
          (stands_within w.held.tree n to)
          (dirs-agree (node_at w.held.tree n) from.there) (λ d. way-passes w n d apart to way is)

  made : (over : Option ℕ) → child w.held.tree to new ≡ over → is_same (Some n) over ≡ false → first_of (rename_checks w.held.tree dir n to over) ≡ None
      → Simulates w given (ends_in w (moved (move over)))
  made over is_over differ allowed = record {
    answer = refl;
    after = move-name w dir n to name new over named from.child_is is_over differ may allowed near.stands.1 from.holds.in_dir from.there;
  }

  -- whether it is a directory
  abbrev goes : Bool
  goes = is_dir (node_at w.held.tree n)

  -- to a name that stands for nothing

  abbrev absent_checks : Bool → List (Bool × Errno)
  absent_checks slash = (goes && false, NotDir) ∷ (not goes && slash, NotDir) ∷ (not goes && false, IsDir) ∷ (goes_below w.held.tree n to, Invalid)
      ∷ (false, NotEmpty) ∷ []

  onto-absent : (slash : Bool) → child w.held.tree to new ≡ None
      → Simulates w (changing.moved_at w.held refs (place.Found (record { node = n; up = Some (dir, name); slash = false })) (place.Absent to new slash))
      (ends_in w (renames passed (move None) slash))
  onto-absent slash is_over =
      simulates-writes w refs dir ((lacks_w w.held.tree to, Denied) ∷ absent_checks slash) given
      (writing (w.nodes.name_of to) (over_what (node_named w n) None slash (climb passed (unless_below (move None)) (w.nodes.name_of to)))) from.holds.in_dir
      λ dir_writes.
      simulates-writes w refs to (absent_checks slash) given
      (over_what (node_named w n) None slash (climb passed (unless_below (move None)) (w.nodes.name_of to))) near.stands.0 λ to_writes.
      subst (λ a. Simulates w (unless w.held refs (absent_checks slash) given)
      (ends_in w (if not a && slash then no NotDir else climb passed (unless_below (move None)) (w.nodes.name_of to))))
      (sym (dirs-agree (node_at w.held.tree n) from.there))
      (over-none w refs goes slash ((goes_below w.held.tree n to, Invalid) ∷ (false, NotEmpty) ∷ []) given
      (climb passed (unless_below (move None)) (w.nodes.name_of to))
      (into-itself None ((false, NotEmpty) ∷ []) λ outside.
      made None is_over refl
      (passed-on (lacks_w w.held.tree dir) Denied ((lacks_w w.held.tree to, Denied) ∷ over_checks w.held.tree n to None) dir_writes
      ∙ passed-on (lacks_w w.held.tree to) Denied (over_checks w.held.tree n to None) to_writes
      ∙ passed-on (goes_below w.held.tree n to) Invalid [] outside)))

  -- over a directory in which no names stand
  over-empty : (k : ℕ) → is_there (node_at w.held.tree k) ≡ true → (has_names w.held.tree k ≡ false → Simulates w given (ends_in w (moved (move (Some k)))))
      → Simulates w (unless w.held refs ((has_names w.held.tree k, NotEmpty) ∷ []) given) (ends_in w (unless_full (move (Some k)) (Some (node_named w k))))
  over-empty k there h =
      subst (λ b. Simulates w (unless w.held refs ((has_names w.held.tree k, NotEmpty) ∷ []) given)
      (ends_in w (if b then Reads (All (w.nodes.name_of k)) (over_names (move (Some k))) else moved (move (Some k)))))
      (sym (dirs-agree (node_at w.held.tree k) there))
      (go (is_dir (node_at w.held.tree k)) refl)
    where
      go : (b : Bool) → is_dir (node_at w.held.tree k) ≡ b
          → Simulates w (unless w.held refs ((has_names w.held.tree k, NotEmpty) ∷ []) given)
          (ends_in w (if b then Reads (All (w.nodes.name_of k)) (over_names (move (Some k))) else moved (move (Some k))))
      go true d =
          simulates-reads w _ (All (w.nodes.name_of k)) (Names (names w.held.tree k)) (over_names (move (Some k))) (names-of w k d)
          (simulates-unless w refs (has_names w.held.tree k) (not (is_empty (names w.held.tree k))) NotEmpty [] given (moved (move (Some k)))
          (ap (λ b. b && not (is_empty (names w.held.tree k))) d) h)
      go false d =
          let none : has_names w.held.tree k ≡ false = ap (λ b. b && not (is_empty (names w.held.tree k))) d in
          subst (λ b. Simulates w (unless w.held refs ((b, NotEmpty) ∷ []) given) (ends_in w (moved (move (Some k))))) (sym none) (h none)

  -- over what stands under the name

  abbrev found_checks : ℕ → List (Bool × Errno)
  found_checks k =
      (goes && not (is_dir (node_at w.held.tree k)), NotDir) ∷ (not goes && false, NotDir) ∷ (not goes && is_dir (node_at w.held.tree k), IsDir)
      ∷ (goes_below w.held.tree n to, Invalid) ∷ (has_names w.held.tree k, NotEmpty) ∷ []

  abbrev over_kind : ℕ → Bool → Bool → Does
  over_kind k a b = if a && not b then no NotDir else if not a && b then no IsDir else climb passed (unless_below (move (Some k))) (w.nodes.name_of to)

  onto-found : (k : ℕ) (slash : Bool) → is_there (node_at w.held.tree k) ≡ true → child w.held.tree to new ≡ Some k → (n == k) ≡ false
      → Simulates w (changing.moved_at w.held refs (place.Found (record { node = n; up = Some (dir, name); slash = false }))
      (place.Found (record { node = k; up = Some (to, new); slash = slash })))
      (ends_in w (renames passed (move (Some k)) false))
  onto-found k slash there is_over differ =
      simulates-writes w refs dir ((lacks_w w.held.tree to, Denied) ∷ found_checks k) given
      (writing (w.nodes.name_of to) (over_what (node_named w n) (Some (node_named w k)) false
      (climb passed (unless_below (move (Some k))) (w.nodes.name_of to)))) from.holds.in_dir λ dir_writes.
      simulates-writes w refs to (found_checks k) given
      (over_what (node_named w n) (Some (node_named w k)) false (climb passed (unless_below (move (Some k))) (w.nodes.name_of to))) near.stands.0
      λ to_writes.
      subst (λ a. Simulates w (unless w.held refs (found_checks k) given) (ends_in w (over_kind k a (is_dir_what (what_of (node_at w.held.tree k))))))
      (sym (dirs-agree (node_at w.held.tree n) from.there))
      (subst (λ b. Simulates w (unless w.held refs (found_checks k) given) (ends_in w (over_kind k goes b))) (sym (dirs-agree (node_at w.held.tree k) there))
      (over-found w refs goes (is_dir (node_at w.held.tree k)) ((goes_below w.held.tree n to, Invalid) ∷ (has_names w.held.tree k, NotEmpty) ∷ []) given
      (climb passed (unless_below (move (Some k))) (w.nodes.name_of to)) λ no_dir no_file.
      into-itself (Some k) ((has_names w.held.tree k, NotEmpty) ∷ []) λ outside.
      over-empty k there λ empty.
      made (Some k) is_over differ
      (passed-on (lacks_w w.held.tree dir) Denied ((lacks_w w.held.tree to, Denied) ∷ over_checks w.held.tree n to (Some k)) dir_writes
      ∙ passed-on (lacks_w w.held.tree to) Denied (over_checks w.held.tree n to (Some k)) to_writes
      ∙ passed-on (goes && not (is_dir (node_at w.held.tree k))) NotDir
      ((not goes && is_dir (node_at w.held.tree k), IsDir) ∷ (goes_below w.held.tree n to, Invalid) ∷ (has_names w.held.tree k, NotEmpty) ∷ []) no_dir
      ∙ passed-on (not goes && is_dir (node_at w.held.tree k)) IsDir ((goes_below w.held.tree n to, Invalid) ∷ (has_names w.held.tree k, NotEmpty) ∷ []) no_file
      ∙ passed-on (goes_below w.held.tree n to) Invalid ((has_names w.held.tree k, NotEmpty) ∷ []) outside
      ∙ passed-on (has_names w.held.tree k) NotEmpty [] empty)))

-- From what was found to a second path.

module _ (w : World) (refs : RefsHeld) (n : ℕ) (fslash : Bool) (passed : ℕ) where
  abbrev found_at : Option (ℕ × Text) → TreeHere
  found_at up = record { node = n; up = up; slash = fslash }

  second-found : (up : Option (ℕ × Text)) → IsFound w.held.tree n up → (k : ℕ) (slash : Bool) (onto : Option (ℕ × Text)) → IsFound w.held.tree k onto
      → ((it : ℕ × Text) → onto ≡ Some it → IsNear w.held.tree passed it.0)
      → Simulates w (changing.rename_at w.held refs (place.Found (found_at up)) (place.Found (record { node = k; up = onto; slash = slash })))
      (ends_in w (rename_onto (node_named w n) (up_named w.held.tree (at w) w.nodes.name_of up) passed
      (Found (here_named w.held.tree (at w) w.nodes.name_of (record { node = k; up = onto; slash = slash })))))
  second-found None is k slash onto to near = simulates-no w refs Invalid
  second-found (Some up) is k slash None to near = simulates-no w refs Invalid
  second-found (Some up) is k slash (Some onto) to near =
      subst (λ b. Simulates w (changing.rename_at w.held refs (place.Found (found_at (Some up)))
      (place.Found (record { node = k; up = Some onto; slash = slash })))
      (ends_in w (if b then Ends answer.Done [] else renames passed
      (record { node = node_named w n; from = (w.nodes.name_of up.0, up.1); onto = (w.nodes.name_of onto.0, onto.1); over = Some (node_named w k) }) false)))
      (same-number w n k is.there to.there) (go (n == k) refl)
    where
      go : (b : Bool) → (n == k) ≡ b
          → Simulates w (if b then giving w.held refs answer.Done else changing.moved_at w.held refs (place.Found (found_at (Some up)))
          (place.Found (record { node = k; up = Some onto; slash = slash })))
          (ends_in w (if b then Ends answer.Done [] else renames passed
          (record { node = node_named w n; from = (w.nodes.name_of up.0, up.1); onto = (w.nodes.name_of onto.0, onto.1); over = Some (node_named w k) })
          false))
      go true e = simulates-answer w refs answer.Done
      go false e = onto-found w refs n up.0 onto.0 up.1 onto.1 is.under to.under.holds to.under.named passed (near onto refl) k slash to.there
          to.under.child_is e

  second-absent : (up : Option (ℕ × Text)) → IsFound w.held.tree n up → (to : ℕ) (new : Text) (slash : Bool) → IsFreeName w.held.tree to new
      → IsNear w.held.tree passed to
      → Simulates w (changing.rename_at w.held refs (place.Found (found_at up)) (place.Absent to new slash))
      (ends_in w (rename_onto (node_named w n) (up_named w.held.tree (at w) w.nodes.name_of up) passed (Absent (w.nodes.name_of to) new slash)))
  second-absent None is to new slash free near = simulates-no w refs Invalid
  second-absent (Some up) is to new slash free near =
      onto-absent w refs n up.0 to up.1 new is.under free.holds free.named passed near slash free.absent

rename-second : (w : World) (refs : RefsHeld) (b : Text) (from : TreeHere) → IsFound w.held.tree from.node from.up
    → Simulates w (at_place w.held refs (leads_to w.held.tree b false) (changing.rename_at w.held refs (place.Found from)))
    (ends_in w (rename_from b (Found (here_named w.held.tree (at w) w.nodes.name_of from))))
rename-second w refs b from is =
    by-reach w (climbing (rename_onto (node_named w from.node) (up_named w.held.tree (at w) w.nodes.name_of from.up)))
    (λ spot. at_place w.held refs spot (changing.rename_at w.held refs (place.Found from))) b false
    (λ e. simulates-no w refs e)
    (λ passed to is_to reached. second-found w refs from.node from.slash passed from.up is to.node to.slash to.up is_to reached.up_near)
    (λ passed dir name slash free near. second-absent w refs from.node from.slash passed from.up is dir name slash free near)

rename-absent : (w : World) (refs : RefsHeld) (b : Text) (d : ℕ) (n : Text)
    → Simulates w (at_place w.held refs (leads_to w.held.tree b false) (changing.rename_at w.held refs (place.Absent d n false)))
    (ends_in w (rename_from b (Absent (w.nodes.name_of d) n false)))
rename-absent w refs b d n =
    by-path w (λ to. no NoEntry) (λ spot. at_place w.held refs spot (changing.rename_at w.held refs (place.Absent d n false))) b false
    (λ e. simulates-no w refs e)
    (λ to is plain. simulates-no w refs NoEntry)
    (λ dir name slash is stands. simulates-no w refs NoEntry)

pub renames-names : law.Renames
renames-names w refs a b =
    by-path w (strict (rename_from b))
    (λ spot. at_place w.held refs (kernel_strict spot) (λ from. at_place w.held refs (leads_to w.held.tree b false) (changing.rename_at w.held refs from))) a
    false (λ e. simulates-no w refs e)
    (λ from is plain. rename-second w refs b from is)
    (λ dir name slash is stands. strict-absent w refs (λ from. at_place w.held refs (leads_to w.held.tree b false) (changing.rename_at w.held refs from))
    (rename_from b) dir name slash (rename-absent w refs b dir name))
