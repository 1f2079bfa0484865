-- What a step makes gets the next number.
use Rattle.std.proofs.Common.{◌≡◌, ℕ, suc, ◌+◌, ◌≤◌, ◌<◌, List, [], ◌∷◌, ◌++◌, length, Bool, true, false, not, ◌&&◌, Option, Some, None}
use Rattle.std.proofs.Common.{refl, sym, ◌∙◌, ap, ap₂, subst, arith, inl, inr, Ok, Err}
use Rattle.std.specs.Prelude.{◌⊎◌, ◌==◌}
use Rattle.std.specs.Prelude.{if◌then◌else◌, nat_lt, slice_get}
use Rattle.rk_base.specs.Text.{Text}
use Rattle.rk_base.specs.declared.errno.Errno.{Errno}
use Rattle.rk_base.specs.declared.errno.Errno.TheVariants.{NoEntry, Denied, Exists, Invalid, IsDir}
use Rattle.rk_calls.specs.Given.{Given}
use Rattle.rk_calls.specs.Refs.{RefsHeld}
use Rattle.rk_calls.specs.declared.answer.Answer.{Answer}
use Rattle.rk_calls.specs.declared.answer.Answer.TheVariants as answer
use Rattle.rk_calls.specs.declared.call.Call.TheVariants as call
use Rattle.rk_calls.specs.declared.call.How.{How}
use Rattle.rk_calls.specs.declared.call.How.TheVariants as how
use Rattle.rk_tree.proofs.ChangedLemmas.{length-entries}
use Rattle.rk_tree.specs.Entries.{is_dir}
use Rattle.rk_tree.specs.Hierarchy.{Hierarchy, node as node_at, added, has_w, mode_of}
use Rattle.rk_tree.specs.Refusals.{lacks_w}
use Rattle.rk_tree.specs.declared.content.Content.TheVariants.{Own}
use Rattle.rk_tree.specs.Node.{Node as TreeNode, File as AFile, Dir as ADir}
use Rattle.rk_walk.specs.Walk.{Spot, resolve as leads_to}
use Rattle.rk_walk.specs.declared.place.Place.{Place as ToPlace}
use Rattle.rk_walk.specs.declared.place.Place.TheVariants as place
use Rattle.rk_kernel.specs.World as kernel
use Rattle.rk_kernel.specs.World.{read_end, write_end, with_pipe}
use Rattle.rk_kernel.specs.Changes.{added_at, mkdir_refusals, mkdir_at as kernel_mkdir_at}
use Rattle.rk_kernel.specs.Do.{answered, followed}
use Rattle.rk_kernel.specs.Opening.{emptied, is_read, lacks, description as kernel_description, open_at as kernel_open_at, opened as kernel_opened}
use Rattle.rk_kernel.specs.Rows.{at_place, done, giving, name_at, refused, unless}
use Rattle.rk_kernel.specs.declared.description.Description as opening
use Rattle.rk_waves.specs.Programs.{end_of, One, Reads, Ends, written}
use Rattle.rk_feet.specs.CellLemmas.{cells}
use Rattle.rk_feet.specs.Changing.{does_mkdir, makes, mkdir_absent, mkdir_at, mkdir_path}
use Rattle.rk_feet.specs.Checks.{no, row, strict, writing}
use Rattle.rk_feet.specs.Course.{what_of}
use Rattle.rk_feet.specs.Named.{Name, Made, What, File, Dir, Link, Description, Plain, AboveOf, ModeOf, OpenOf, Value, Above, Opened, Flag, Writes, Does, mode}
use Rattle.rk_feet.specs.Naming.{Naming, AreNamed, same_name}
use Rattle.rk_feet.specs.NamingLemmas.{clash, equal, name-self, one-name}
use Rattle.rk_feet.specs.Opening.{description, does_open, does_pipe, empties, makes_file, makes_pipe, once, once_by, open_at, open_mode}
use Rattle.rk_feet.specs.Opening.{open_path, open_what, opens, pipe_read, pipe_write, uses}
use Rattle.rk_feet.specs.Simulates.{Lasts, ends_in}
use Rattle.rk_feet.specs.World.{World, at, opened_in, opened_named, description_named, above_in}
use Rattle.rk_feet.specs.Ways.{Absent}
use Rattle.rk_feet.specs.Played.{once_given, refs_on}
use Rattle.rk_feet.proofs.MakingLemmas.{get-before, get-last, length-more}
use Rattle.rk_feet.proofs.NodeMakingLemmas.{nodes-same}
use Rattle.rk_feet.proofs.OptionLemmas.{none-some}
use Rattle.rk_feet.proofs.ShowsLemmas.{shows, whole}
use Rattle.rk_feet.proofs.WayLemmas.{path-holds}

-- A number that is new.

-- a name that is new has none of the old numbers
new-number : (count more : ℕ) (a b : Naming) → AreNamed count a → AreNamed more b → ((x : Name) (n : ℕ) → a.number_of x ≡ Some n → b.number_of x ≡ Some n)
    → (x : Name) → a.number_of x ≡ None → (n : ℕ) → b.number_of x ≡ Some n → (count ≤ n) × (n < more)
new-number count more a b old now keeps x none n is = (go (nat_lt n count) refl, (now.there x n is).0)
  where
    low : (n count : ℕ) → nat_lt n count ≡ true → n < count
    low n count e = grind arith

    high : (n count : ℕ) → nat_lt n count ≡ false → count ≤ n
    high n count e = grind arith

    go : (b : Bool) → nat_lt n count ≡ b → count ≤ n
    go false e = high n count e
    go true e =
        let back = old.back n (low n count e) in
        absurd (none-some n (sym none ∙ ap a.number_of (one-name more b now x (a.name_of n) n is (keeps (a.name_of n) n back)) ∙ back))

-- where there is one number more, it has that
pub only-new : (count more : ℕ) (a b : Naming) → AreNamed count a → AreNamed more b → ((x : Name) (n : ℕ) → a.number_of x ≡ Some n → b.number_of x ≡ Some n)
    → more ≤ suc count → (x : Name) → a.number_of x ≡ None → (n : ℕ) → b.number_of x ≡ Some n → b.number_of x ≡ Some count
only-new count more a b old now keeps few x none n is =
    let it = new-number count more a b old now keeps x none n is in
    is ∙ ap Some (last n count more it.0 it.1 few)
  where
    last : (n count more : ℕ) → count ≤ n → n < more → more ≤ suc count → n ≡ count
    last n count more h k few = omega arith

-- What is written of it.

-- a description is written under this name, or a directory stands, where the answer is so
abbrev WritesSo : Answer → Plain → (Value → Type 0) → Answer × Writes → Type 0
WritesSo so c Is e = e.0 ≡ so → (old : Value) → Is (written cells e.1 c old)

abbrev IsOpened : Value → Type 0
IsOpened v = (d : Description) × (v ≡ Opened (Some d))

abbrev IsAbove : Value → Type 0
IsAbove v = (up : Name × Text) × (v ≡ Above (Some up))

module _ (w : World) (r s : ℕ) where
  -- of what makes something once
  once-writes : (so : Answer) → (answer.Go ≡ so → ⊥) → (c : Plain) (Is : Value → Type 0) (x : Does)
      → (w.used r s ≡ false → WritesSo so c Is (ends_in w x)) → WritesSo so c Is (ends_in w (once r s x))
  once-writes so never c Is x h = go (w.used r s) refl
    where
      go : (b : Bool) → w.used r s ≡ b → WritesSo so c Is (ends_in w (if b then Ends answer.Go [] else x))
      go true e is = absurd (never is)
      go false e is = h e is

  -- Open

  abbrev me : Name
  me = Made r s 0 420

  self : same_name me me ≡ true
  self = name-self me

  abbrev Opens : Answer × Writes → Type 0
  Opens = WritesSo answer.Opened (OpenOf me) IsOpened

  no-opens : (e : Errno) → Opens (answer.No e, [])
  no-opens e is = absurd (let h : answer.No e ≡ answer.Opened = is in cc)

  last-open : (h : How) (n : Name) (old : Value) → IsOpened (if same_name me me then Opened (Some (description h n)) else old)
  last-open h n old = (description h n, ap (λ b. if b then Opened (Some (description h n)) else old) self)

  found-open : (h : How) (n : Name) (old : Value) → IsOpened (written cells (uses r s ∷ empties h n ++ opens me h n ∷ []) (OpenOf me) old)
  found-open how.Read n old = last-open how.Read n old
  found-open how.Make n old = last-open how.Make n old
  found-open how.Append n old = last-open how.Append n old

  mode-open : (h : How) (n : Name) → Opens (ends_in w (Reads (One (ModeOf n)) (open_mode r s h n)))
  mode-open h n = go (lacks h (mode (at w (One (ModeOf n)))))
    where
      go : (b : Bool) → Opens (ends_in w (if b then Ends (answer.No Denied) []
          else Ends answer.Opened (uses r s ∷ empties h n ++ opens me h n ∷ [])))
      go true = no-opens Denied
      go false = λ is old. found-open h n old

  what-open : (h : How) (n : Name) (what : What) → Opens (ends_in w (open_what r s h n what))
  what-open h n File = mode-open h n
  what-open h n Dir = no-opens _
  what-open h n (Link text) = mode-open h n

  -- of a directory that gains a name
  writing-so : (so : Answer) → ((e : Errno) → answer.No e ≡ so → ⊥) → (c : Plain) (Is : Value → Type 0) (dir : Name) (x : Does)
      → WritesSo so c Is (ends_in w x) → WritesSo so c Is (ends_in w (writing dir x))
  writing-so so never c Is dir x h = go (has_w (mode (at w (One (ModeOf dir)))))
    where
      go : (b : Bool) → WritesSo so c Is (ends_in w (if not b then no Denied else x))
      go true = h
      go false = λ is. absurd (never Denied is)

  not-opened : (e : Errno) → answer.No e ≡ answer.Opened → ⊥
  not-opened e is = cc

  not-done : (e : Errno) → answer.No e ≡ answer.Done → ⊥
  not-done e is = cc

  absent-open : (h : How) (dir : Name) (name : Text) (slash : Bool) → Opens (ends_in w (strict (open_at r s h) (Absent dir name slash)))
  absent-open h dir name true = no-opens NoEntry
  absent-open h dir name false = go (is_read h)
    where
      go : (b : Bool) → Opens (ends_in w (if b then no NoEntry else writing dir (makes_file r s h dir name)))
      go true = no-opens NoEntry
      go false = writing-so answer.Opened not-opened (OpenOf me) IsOpened dir (makes_file r s h dir name) (λ is old. last-open h me old)

  pub opens-so : (path : Text) (h : How) → Opens (ends_in w (does_open r s path h))
  opens-so path h =
      once-writes answer.Opened (λ e. cc) (OpenOf me) IsOpened (open_path r s path h)
      (λ unused. path-holds w.held.tree (at w) w.nodes.name_of (shows w) (whole w) (row (strict (open_at r s h))) true (λ e spot. Opens e)
      (λ passed here reached. what-open h (w.nodes.name_of here.node) (what_of (node_at w.held.tree here.node)))
      (λ passed dir name slash near. absent-open h (w.nodes.name_of dir) name slash) no-opens path)

  -- Mkdir

  module _ (m : ℕ) where
    abbrev Stands : Answer × Writes → Type 0
    Stands = WritesSo answer.Done (AboveOf (Made r s 0 m)) IsAbove

    no-dir : (e : Errno) → Stands (answer.No e, [])
    no-dir e is = absurd (not-done e is)

    made-dir : (dir : Name) (name : Text) → Stands (answer.Done, makes r s m Dir dir name)
    made-dir dir name is old = ((dir, name), ap (λ b. if b then Above (Some (dir, name)) else old) (name-self (Made r s 0 m)))

    absent-dir : (dir : Name) (name : Text) (slash : Bool) → Stands (ends_in w (mkdir_at r s m (Absent dir name slash)))
    absent-dir dir name slash = go (nat_lt 511 m)
      where
        go : (b : Bool) → Stands (ends_in w (if b then no Invalid else mkdir_absent r s m dir name))
        go true = no-dir Invalid
        go false = writing-so answer.Done not-done (AboveOf (Made r s 0 m)) IsAbove dir (Ends answer.Done (makes r s m Dir dir name)) (made-dir dir name)

    found-dir : (b : Bool) → Stands (ends_in w (if b then no Invalid else no Exists))
    found-dir true = no-dir Invalid
    found-dir false = no-dir Exists

    pub dirs-so : (path : Text) → Stands (ends_in w (does_mkdir r s path m))
    dirs-so path =
        once-writes answer.Done (λ e. cc) (AboveOf (Made r s 0 m)) IsAbove (mkdir_path r s path m)
        (λ unused. path-holds w.held.tree (at w) w.nodes.name_of (shows w) (whole w) (row (mkdir_at r s m)) false (λ e spot. Stands e)
        (λ passed here reached. found-dir (nat_lt 511 m))
        (λ passed dir name slash near. absent-dir (w.nodes.name_of dir) name slash) no-dir path)

-- How many there are after a call.

unless-few : (Few : kernel.World → Type 0) (world : kernel.World) (refs : RefsHeld) (checks : List (Bool × Errno)) (given : Given kernel.World)
    → Few world → Few given.world → Few (unless world refs checks given).world
unless-few Few world refs [] given old new = new
unless-few Few world refs (c ∷ checks) given old new = go (unless-few Few world refs checks given old new) c.0
  where
    go : Few (unless world refs checks given).world → (b : Bool) → Few (if b then refused world refs c.1 else unless world refs checks given).world
    go rest true = old
    go rest false = rest

place-few : (Few : kernel.World → Type 0) (world : kernel.World) (refs : RefsHeld) (spot : Spot) (make : ToPlace → Given kernel.World)
    → Few world → ((p : ToPlace) → Few (make p).world) → Few (at_place world refs spot make).world
place-few Few world refs (Err e) make old new = old
place-few Few world refs (Ok p) make old new = new p

once-few : (Few : kernel.World → Type 0) (w : World) (r s : ℕ) (given : Given kernel.World) → Few w.held → Few given.world → Few (once_given w r s given).world
once-few Few w r s given old new = go (w.used r s)
  where
    go : (b : Bool) → Few (if b then giving w.held (refs_on None) answer.Go else given).world
    go true = old
    go false = new

more-one : (n : ℕ) → n ≤ suc n
more-one n = omega arith

same-few : (n m : ℕ) → n ≡ suc m → n ≤ suc m
same-few n m e = omega arith

pub opens-few : (w : World) (r s : ℕ) (path : Text) (h : How)
    → length (once_given w r s (answered w.held (refs_on None) (call.Open path h))).world.opens ≤ suc (length w.held.opens)
opens-few w r s path h =
    once-few Few w r s (answered w.held (refs_on None) (call.Open path h)) (more-one (length w.held.opens))
    (place-few Few w.held (refs_on None) (followed w.held path) (kernel_open_at w.held (refs_on None) h) (more-one (length w.held.opens)) at)
  where
    Few : kernel.World → Type 0
    Few world = length world.opens ≤ suc (length w.held.opens)

    more : (d : opening.Description) → length (w.held.opens ++ d ∷ []) ≤ suc (length w.held.opens)
    more d = same-few (length (w.held.opens ++ d ∷ [])) (length w.held.opens) (length-more w.held.opens d)

    at : (p : ToPlace) → Few (kernel_open_at w.held (refs_on None) h p).world
    at (place.Found here) =
        unless-few Few w.held (refs_on None)
        ((is_dir (node_at w.held.tree here.node), IsDir) ∷ (lacks h (mode_of (node_at w.held.tree here.node)), Denied) ∷ [])
        (kernel_opened w.held (refs_on None) (emptied h w.held.tree here.node) h here.node) (more-one (length w.held.opens))
        (more (kernel_description h here.node))
    at (place.Absent dir name slash) =
        unless-few Few w.held (refs_on None) ((is_read h, NoEntry) ∷ (lacks_w w.held.tree dir, Denied) ∷ [])
        (kernel_opened w.held (refs_on None) (added w.held.tree dir name (AFile 420 (Own []))) h (length w.held.tree.nodes)) (more-one (length w.held.opens))
        (more (kernel_description h (length w.held.tree.nodes)))

nodes-more : (tree : Hierarchy) (d : ℕ) (name : Text) (it : TreeNode) → length (added tree d name it).nodes ≡ suc (length tree.nodes)
unfolding added
nodes-more tree d name it = length-more tree.nodes it

pub dirs-few : (w : World) (r s : ℕ) (path : Text) (m : ℕ)
    → length (once_given w r s (answered w.held (refs_on None) (call.Mkdir path m))).world.tree.nodes ≤ suc (length w.held.tree.nodes)
dirs-few w r s path m =
    once-few Few w r s (answered w.held (refs_on None) (call.Mkdir path m)) (more-one (length w.held.tree.nodes))
    (place-few Few w.held (refs_on None) (leads_to w.held.tree path false) (kernel_mkdir_at w.held (refs_on None) m) (more-one (length w.held.tree.nodes)) at)
  where
    Few : kernel.World → Type 0
    Few world = length world.tree.nodes ≤ suc (length w.held.tree.nodes)

    put : (up : Option (ℕ × Text)) → length (added_at w.held.tree up (ADir m)).nodes ≤ suc (length w.held.tree.nodes)
    put None = more-one (length w.held.tree.nodes)
    put (Some up) =
        same-few (length (added w.held.tree up.0 up.1 (ADir m)).nodes) (length w.held.tree.nodes) (nodes-more w.held.tree up.0 up.1 (ADir m))

    at : (p : ToPlace) → Few (kernel_mkdir_at w.held (refs_on None) m p).world
    at p =
        unless-few Few w.held (refs_on None) (mkdir_refusals w.held m p)
        (done w.held (refs_on None) (added_at w.held.tree (name_at p) (ADir m))) (more-one (length w.held.tree.nodes)) (put (name_at p))

-- The step, and a world that has what it writes.
module _ (w v : World) (lasts : Lasts w v) (r s : ℕ) where
  pub next-open : (writes : Writes) → ((p : Plain) → at v (One p) ≡ written cells writes p (at w (One p))) → length v.held.opens ≤ suc (length w.held.opens)
      → w.opens.number_of (Made r s 0 420) ≡ None → IsOpened (written cells writes (OpenOf (Made r s 0 420)) (at w (One (OpenOf (Made r s 0 420)))))
      → v.opens.number_of (Made r s 0 420) ≡ Some (length w.held.opens)
  next-open writes holds few none is = go (v.opens.number_of (Made r s 0 420)) refl (holds (OpenOf (Made r s 0 420)) ∙ is.1)
    where
      go : (o : Option ℕ) → v.opens.number_of (Made r s 0 420) ≡ o → Opened (opened_in v o) ≡ Opened (Some is.0)
          → v.opens.number_of (Made r s 0 420) ≡ Some (length w.held.opens)
      go None e shown = absurd (let h : Opened None ≡ Opened (Some is.0) = shown in cc)
      go (Some n) e shown =
          only-new (length w.held.opens) (length v.held.opens) w.opens v.opens w.opens_named v.opens_named lasts.opens few (Made r s 0 420) none n e

  pub next-dir : (m : ℕ) (writes : Writes) → ((p : Plain) → at v (One p) ≡ written cells writes p (at w (One p)))
      → length v.held.tree.nodes ≤ suc (length w.held.tree.nodes) → w.nodes.number_of (Made r s 0 m) ≡ None
      → IsAbove (written cells writes (AboveOf (Made r s 0 m)) (at w (One (AboveOf (Made r s 0 m)))))
      → v.nodes.number_of (Made r s 0 m) ≡ Some (length w.held.tree.nodes)
  next-dir m writes holds few none is = go (v.nodes.number_of (Made r s 0 m)) refl (holds (AboveOf (Made r s 0 m)) ∙ is.1)
    where
      count : (u : World) → length u.held.tree.nodes ≡ length u.inodes
      count u = ap (λ l. length l) (sym (nodes-same u)) ∙ length-entries u.inodes

      go : (o : Option ℕ) → v.nodes.number_of (Made r s 0 m) ≡ o → Above (above_in v o) ≡ Above (Some is.0)
          → v.nodes.number_of (Made r s 0 m) ≡ Some (length w.held.tree.nodes)
      go None e shown = absurd (let h : Above None ≡ Above (Some is.0) = shown in cc)
      go (Some n) e shown =
          only-new (length w.held.tree.nodes) (length v.held.tree.nodes) w.nodes v.nodes
          (subst (λ c. AreNamed c w.nodes) (sym (count w)) w.nodes_named) (subst (λ c. AreNamed c v.nodes) (sym (count v)) v.nodes_named)
          lasts.nodes few (Made r s 0 m) none n e

  -- the two ends of a pipe differ in what they are for
  next-end : (p : ℕ) (d : Description) → w.opens.number_of (Made r s p 0) ≡ None → v.held ≡ with_pipe w.held
      → at v (One (OpenOf (Made r s p 0))) ≡ Opened (Some d)
      → ((v.opens.number_of (Made r s p 0) ≡ Some (length w.held.opens)) × (d.read ≡ true))
      ⊎ ((v.opens.number_of (Made r s p 0) ≡ Some (length w.held.opens + 1)) × (d.read ≡ false))
  next-end p d none is shown = go (v.opens.number_of (Made r s p 0)) refl shown
    where
      count : length v.held.opens ≡ suc (suc (length w.held.opens))
      count = ap (λ (h : kernel.World). length h.opens) is
          ∙ length-more (w.held.opens ++ read_end (length w.held.pipes) ∷ []) (write_end (length w.held.pipes))
          ∙ ap suc (length-more w.held.opens (read_end (length w.held.pipes)))

      first : slice_get v.held.opens (length w.held.opens) ≡ Some (read_end (length w.held.pipes))
      first = ap (λ (h : kernel.World). slice_get h.opens (length w.held.opens)) is
          ∙ get-before (w.held.opens ++ read_end (length w.held.pipes) ∷ []) (write_end (length w.held.pipes)) (length w.held.opens)
          (subst (λ c. length w.held.opens < c) (sym (length-more w.held.opens (read_end (length w.held.pipes)))) (below (length w.held.opens)))
          ∙ get-last w.held.opens (read_end (length w.held.pipes))
        where
          below : (n : ℕ) → n < suc n
          below n = omega arith

      second : slice_get v.held.opens (length w.held.opens + 1) ≡ Some (write_end (length w.held.pipes))
      second = ap (λ (h : kernel.World). slice_get h.opens (length w.held.opens + 1)) is
          ∙ ap (slice_get ((w.held.opens ++ read_end (length w.held.pipes) ∷ []) ++ write_end (length w.held.pipes) ∷ []))
          (one (length w.held.opens) ∙ sym (length-more w.held.opens (read_end (length w.held.pipes))))
          ∙ get-last (w.held.opens ++ read_end (length w.held.pipes) ∷ []) (write_end (length w.held.pipes))
        where
          one : (n : ℕ) → n + 1 ≡ suc n
          one n = omega arith

      reads : (n : ℕ) (x : opening.Description) → Opened (opened_in v (Some n)) ≡ Opened (Some d) → slice_get v.held.opens n ≡ Some x → d.read ≡ x.read
      reads n x e at_n = let h : Opened (Some (description_named v x)) ≡ Opened (Some d) = ap (λ o. Opened (opened_named v o)) (sym at_n) ∙ e in
          sym (ap read_of h)
        where
          read_of : Value → Bool
          read_of (Opened (Some d)) = d.read
          read_of _ = false

      either : (n c : ℕ) → c ≤ n → n < suc (suc c) → (n ≡ c) ⊎ (n ≡ c + 1)
      either n c h k = go (nat_lt c n) refl
        where
          go : (b : Bool) → nat_lt c n ≡ b → (n ≡ c) ⊎ (n ≡ c + 1)
          go true e = inr (grind arith)
          go false e = inl (grind arith)

      go : (o : Option ℕ) → v.opens.number_of (Made r s p 0) ≡ o → Opened (opened_in v o) ≡ Opened (Some d)
          → ((v.opens.number_of (Made r s p 0) ≡ Some (length w.held.opens)) × (d.read ≡ true))
          ⊎ ((v.opens.number_of (Made r s p 0) ≡ Some (length w.held.opens + 1)) × (d.read ≡ false))
      go None e h = absurd (let h : Opened None ≡ Opened (Some d) = h in cc)
      go (Some n) e h =
          let it = new-number (length w.held.opens) (length v.held.opens) w.opens v.opens w.opens_named v.opens_named lasts.opens (Made r s p 0) none n e in
          elim (either n (length w.held.opens) it.0 (subst (λ c. n < c) count it.1)) [
            | inl is_n ↦ inl (e ∙ ap Some is_n, reads n (read_end (length w.held.pipes)) h (ap (slice_get v.held.opens) is_n ∙ first))
            | inr is_n ↦ inr (e ∙ ap Some is_n, reads n (write_end (length w.held.pipes)) h (ap (slice_get v.held.opens) is_n ∙ second))
          ]

  pub pipe-numbers :
      w.used r s ≡ false → v.held ≡ with_pipe w.held
      → ((p : Plain) → at v (One p) ≡ written cells (ends_in w (does_pipe r s)).1 p (at w (One p)))
      → (v.opens.number_of (Made r s 0 0) ≡ Some (length w.held.opens)) × (v.opens.number_of (Made r s 1 0) ≡ Some (length w.held.opens + 1))
  pipe-numbers unused is holds = (
    elim (next-end 0 (pipe_read (Made r s 0 0)) (w.unused r s 0 0 unused).1 is (shown 0 ∙ first)) [
      | inl it ↦ it.0
      | inr it ↦ absurd (clash true refl it.1)
    ],
    elim (next-end 1 (pipe_write (Made r s 0 0)) (w.unused r s 1 0 unused).1 is (shown 1 ∙ second)) [
      | inl it ↦ absurd (clash false it.1 refl)
      | inr it ↦ it.0
    ],
  )
    where
      shown : (p : ℕ) → at v (One (OpenOf (Made r s p 0))) ≡ written cells (makes_pipe r s) (OpenOf (Made r s p 0)) (at w (One (OpenOf (Made r s p 0))))
      shown p = holds (OpenOf (Made r s p 0))
          ∙ ap (λ b. written cells (end_of (at w) (once_by (Ends answer.Piped (makes_pipe r s)) (Flag b))).1 (OpenOf (Made r s p 0))
          (at w (One (OpenOf (Made r s p 0))))) unused

      first : written cells (makes_pipe r s) (OpenOf (Made r s 0 0)) (at w (One (OpenOf (Made r s 0 0)))) ≡ Opened (Some (pipe_read (Made r s 0 0)))
      first = ap₂ (λ a b. if a then Opened (Some (pipe_write (Made r s 0 0))) else if b then Opened (Some (pipe_read (Made r s 0 0)))
          else at w (One (OpenOf (Made r s 0 0)))) (ap₂ (λ a b. a && (b && false)) (equal r) (equal s)) (ap₂ (λ a b. a && (b && true)) (equal r) (equal s))

      second : written cells (makes_pipe r s) (OpenOf (Made r s 1 0)) (at w (One (OpenOf (Made r s 1 0)))) ≡ Opened (Some (pipe_write (Made r s 0 0)))
      second = ap (λ a. if a then Opened (Some (pipe_write (Made r s 0 0)))
          else if (r == r) && ((s == s) && false) then Opened (Some (pipe_read (Made r s 0 0))) else at w (One (OpenOf (Made r s 1 0))))
          (ap₂ (λ a b. a && (b && true)) (equal r) (equal s))
