-- What is told of a call tells what its program reads and writes: what programs are made of, and paths.
use Rattle.std.proofs.Common.{◌≡◌, ℕ, List, [], ◌∷◌, ◌++◌, map, Bool, true, false, not, Ok, Err, IfOk, refl, sym, ap, subst}
use Rattle.std.proofs.Common.{inl, inr}
use Rattle.std.specs.Prelude.{if◌then◌else◌}
use Rattle.rk_base.specs.Text.{Text}
use Rattle.rk_base.specs.declared.errno.Errno.{Errno}
use Rattle.rk_base.specs.declared.errno.Errno.TheVariants.{NoEntry, Denied}
use Rattle.rk_calls.specs.declared.answer.Answer.{Answer}
use Rattle.rk_tree.specs.Entries.{is_dir}
use Rattle.rk_tree.specs.Hierarchy.{node as node_at, mode_of, has_w}
use Rattle.rk_tree.specs.Refusals.{is_there, lacks_w}
use Rattle.rk_walk.specs.Places.{IsFound, IsFreeName, IsPlaceOf}
use Rattle.rk_walk.specs.Walk.{Spot}
use Rattle.rk_walk.specs.Walk as tree
use Rattle.rk_walk.specs.Way.{way}
use Rattle.rk_walk.specs.declared.place.Here.{Here as TreeHere}
use Rattle.rk_walk.specs.declared.place.Place.{Place as ToPlace}
use Rattle.rk_walk.specs.declared.place.Place.TheVariants as place
use Rattle.rk_walk.specs.declared.seen.Seen.{Seen}
use Rattle.rk_walk.specs.declared.seen.Seen.TheVariants as seen
use Rattle.rk_walk.proofs.PlaceLemmas.{resolve-place}
use Rattle.rk_kernel.specs.Foot.{nothing, reading, both, cell_seen, at_spot}
use Rattle.rk_kernel.specs.Rows.{strict as kernel_strict}
use Rattle.rk_kernel.specs.declared.cell.Cell.{Cell as Numbered}
use Rattle.rk_kernel.specs.declared.cell.Cell.TheVariants as told
use Rattle.rk_kernel.specs.declared.foot.Foot.{Foot}
use Rattle.rk_waves.specs.Programs.{Cell, Reads, Ends, One, written_cells}
use Rattle.rk_feet.specs.CellLemmas.{cells}
use Rattle.rk_feet.specs.Checks.{no, strict, writing, writing_mode}
use Rattle.rk_feet.specs.Course.{here_named}
use Rattle.rk_feet.specs.Named.{Name, Plain, EntryOf, AboveOf, ModeOf, Value, Mode, Flag, Writes, Does}
use Rattle.rk_feet.specs.Opening.{once, once_by}
use Rattle.rk_feet.specs.Simulates.{ends_in}
use Rattle.rk_feet.specs.Told.{Among, By, Its, IsTold, AreTold, Later, Telling, Tells, node_in, numbered, or_zero}
use Rattle.rk_feet.specs.Ways.{Place, Found, Absent, Row, resolve}
use Rattle.rk_feet.specs.World.{World, at}
use Rattle.rk_feet.proofs.LeadingLemmas.{IsNear}
use Rattle.rk_feet.proofs.PlaceLemmas.{node-back, mode-read}
use Rattle.rk_feet.proofs.MakingCallLemmas.{there-dir}
use Rattle.rk_feet.proofs.ShowsLemmas.{shows, whole, dir-back}
use Rattle.rk_feet.proofs.WayLemmas.{IsReached, every-path}

-- What is told with more beside it.

pub among-front : (front all : List Numbered) (c : Numbered) → Among all c → Among (front ++ all) c
among-front [] all c h = h
among-front (d ∷ front) all c h = inr (among-front front all c h)

pub told-front : (w : World) (l : Later w) (front all : List Numbered) (it : Telling) → IsTold w l all it → IsTold w l (front ++ all) it
told-front w l front all (By c) h = among-front front all c h
told-front w l front all (Its r s) h = h

pub are-front : (w : World) (l : Later w) (front all : List Numbered) (cs : List (Cell Plain Name)) → AreTold w l all cs → AreTold w l (front ++ all) cs
are-front w l front all [] h = tt
are-front w l front all (c ∷ cs) h = (told-front w l front all (numbered l.world c) h.0, are-front w l front all cs h.1)

module _ (w : World) (l : Later w) where
  -- a node's number by its name

  pub node-number : (n : ℕ) → is_there (node_at w.held.tree n) ≡ true → node_in l.world (w.nodes.name_of n) ≡ n
  node-number n there = ap or_zero (l.lasts.nodes (w.nodes.name_of n) n (node-back w n there))

  pub dir-number : (n : ℕ) → is_dir (node_at w.held.tree n) ≡ true → node_in l.world (w.nodes.name_of n) ≡ n
  dir-number n d = ap or_zero (l.lasts.nodes (w.nodes.name_of n) n (dir-back w n d))

  -- What programs are made of.

  pub tells-no : (foot : Foot) (e : Errno) → Tells w l foot (no e)
  tells-no foot e = record { reads = tt; writes = tt }

  pub tells-ends : (foot : Foot) (answer : Answer) (writes : Writes) → AreTold w l foot.writes (written_cells cells writes)
      → Tells w l foot (Ends answer writes)
  tells-ends foot answer writes h = record { reads = tt; writes = h }

  -- a check, of the call and of the program
  pub tells-unless : (b : Bool) (e : Errno) (foot : Foot) (x : Does) → Tells w l foot x → Tells w l (if b then nothing else foot) (if b then no e else x)
  tells-unless true e foot x h = tells-no nothing e
  tells-unless false e foot x h = h

  -- one of two programs
  pub tells-either : (b : Bool) (foot : Foot) (x y : Does) → Tells w l foot x → Tells w l foot y → Tells w l foot (if b then x else y)
  tells-either true foot x y h k = h
  tells-either false foot x y h k = k

  -- what is told with more that is read
  pub tells-more : (front : List Numbered) (foot : Foot) (x : Does) → Tells w l foot x → Tells w l (both (reading front) foot) x
  tells-more front foot x h = record { reads = are-front w l front foot.reads _ h.reads; writes = h.writes }

  -- a cell is read that is told
  pub tells-reads :
      (c : Cell Plain Name) (d : Numbered) (v : Value) (next : Value → Does) (foot : Foot)
      → numbered l.world c ≡ By d → at w c ≡ v → Tells w l foot (next v) → Tells w l (both (reading (d ∷ [])) foot) (Reads c next)
  tells-reads c d v next foot is value h =
      let more : Tells w l (both (reading (d ∷ [])) foot) (next (at w c)) = tells-more (d ∷ []) foot (next (at w c)) (subst (λ u. Tells w l foot (next u))
      (sym value) h) in
      record { reads = (subst (IsTold w l (d ∷ foot.reads)) (sym is) (inl refl), more.reads); writes = more.writes }

  -- of a directory that gains or loses a name
  pub tells-writing :
      (d : ℕ) (foot : Foot) (x : Does) → is_dir (node_at w.held.tree d) ≡ true → Tells w l foot x
      → Tells w l (both (reading (told.Mode d ∷ [])) (if lacks_w w.held.tree d then nothing else foot)) (writing (w.nodes.name_of d) x)
  tells-writing d foot x is h =
      tells-reads (One (ModeOf (w.nodes.name_of d))) (told.Mode d) (Mode (mode_of (node_at w.held.tree d))) (writing_mode x)
      (if lacks_w w.held.tree d then nothing else foot)
      (ap (λ n. By (told.Mode n)) (dir-number d is)) (mode-read w d (there-dir (node_at w.held.tree d) is))
      (tells-unless (not (has_w (mode_of (node_at w.held.tree d)))) Denied foot x h)

  -- The same, where the answer that a program has in this world is so.

  abbrev pub TellsIf : (Answer → Type 0) → Foot → Does → Type 0
  TellsIf So foot x = So (ends_in w x).0 → Tells w l foot x

  pub if-unless : (So : Answer → Type 0) (b : Bool) (e : Errno) (foot : Foot) (x : Does) → TellsIf So foot x
      → TellsIf So (if b then nothing else foot) (if b then no e else x)
  if-unless So true e foot x h so = tells-no nothing e
  if-unless So false e foot x h so = h so

  pub if-reads :
      (So : Answer → Type 0) (c : Cell Plain Name) (d : Numbered) (v : Value) (next : Value → Does) (foot : Foot)
      → numbered l.world c ≡ By d → at w c ≡ v → TellsIf So foot (next v) → TellsIf So (both (reading (d ∷ [])) foot) (Reads c next)
  if-reads So c d v next foot is value h so = tells-reads c d v next foot is value (h (subst (λ u. So (ends_in w (next u)).0) value so))

  pub if-writing :
      (So : Answer → Type 0) (d : ℕ) (foot : Foot) (x : Does) → is_dir (node_at w.held.tree d) ≡ true → TellsIf So foot x
      → TellsIf So (both (reading (told.Mode d ∷ [])) (if lacks_w w.held.tree d then nothing else foot)) (writing (w.nodes.name_of d) x)
  if-writing So d foot x is h =
      if-reads So (One (ModeOf (w.nodes.name_of d))) (told.Mode d) (Mode (mode_of (node_at w.held.tree d))) (writing_mode x)
      (if lacks_w w.held.tree d then nothing else foot)
      (ap (λ n. By (told.Mode n)) (dir-number d is)) (mode-read w d (there-dir (node_at w.held.tree d) is))
      (if-unless So (not (has_w (mode_of (node_at w.held.tree d)))) Denied foot x h)

  -- of a step that makes something
  pub if-once : (So : Answer → Type 0) (foot : Foot) (x : Does) → (w.used l.command l.number ≡ false → TellsIf So foot x)
      → TellsIf So foot (once l.command l.number x)
  if-once So foot x h so = let it = go (w.used l.command l.number) refl so in record { reads = ((refl, refl), it.reads); writes = it.writes } where
    go : (u : Bool) → w.used l.command l.number ≡ u → TellsIf So foot (once_by x (Flag u))
    go true e so = record { reads = tt; writes = tt }
    go false e so = h e so

  abbrev pub any_answer : Answer → Type 0
  any_answer it = Unit {0}

  pub tells-once : (foot : Foot) (x : Does) → (w.used l.command l.number ≡ false → Tells w l foot x) → Tells w l foot (once l.command l.number x)
  tells-once foot x h = if-once any_answer foot x (λ e so. h e) tt

  -- Paths: the way, and then what is told of the row at the place.
  module _ (So : Answer → Type 0) (row : Row) (of : Spot → Foot) (follow : Bool) where
    abbrev TellsFrom : Does → Spot → List Seen → Type 0
    TellsFrom x spot sees = IfOk spot (IsPlaceOf w.held.tree) → TellsIf So (both (reading (map cell_seen sees)) (of spot)) x

    seen-told :
        (c : Cell Plain Name) (d : Seen) → numbered l.world c ≡ By (cell_seen d) → (next : Value → Does) (spot : Spot) (rest : List Seen)
        → TellsFrom (next (at w c)) spot rest → TellsFrom (Reads c next) spot (d ∷ rest)
    seen-told c d is next spot rest h place so =
        tells-reads c (cell_seen d) (at w c) next (both (reading (map cell_seen rest)) (of spot)) is refl (h place so)

    pub if-by-way :
        ((e : Errno) → TellsIf So (of (Err e)) (row.refused e))
        → ((passed : ℕ) (here : TreeHere) → IsFound w.held.tree here.node here.up → IsReached w.held.tree follow passed here
        → TellsIf So (of (Ok (place.Found here))) (row.at passed (Found (here_named w.held.tree (at w) w.nodes.name_of here))))
        → ((passed dir : ℕ) (name : Text) (slash : Bool) → IsFreeName w.held.tree dir name → IsNear w.held.tree passed dir
        → TellsIf So (of (Ok (place.Absent dir name slash))) (row.at passed (Absent (w.nodes.name_of dir) name slash)))
        → (path : Text)
        → TellsIf So (both (reading (map cell_seen (way w.held.tree path follow))) (of (tree.resolve w.held.tree path follow))) (resolve row follow path)
    if-by-way refused found absent path =
        every-path w.held.tree (at w) w.nodes.name_of (shows w) (whole w) row follow TellsFrom (record {
          found = λ passed here reached is. found passed here is reached;
          absent = λ passed dir name slash near is. absent passed dir name slash is near;
          refused = λ e is. refused e;
          modes = λ n d. seen-told (One (ModeOf (w.nodes.name_of n))) (seen.Mode n) (ap (λ m. By (told.Mode m)) (dir-number n d));
          ups = λ n d. seen-told (One (AboveOf (w.nodes.name_of n))) (seen.Above n) (ap (λ m. By (told.Above m)) (dir-number n d));
          entries = λ name n d. seen-told (One (EntryOf (w.nodes.name_of n) name)) (seen.Entry n name) (ap (λ m. By (told.Entry m name)) (dir-number n d));
        })
        path (resolve-place w.held.tree (whole w) path follow)

  pub by-way :
      (row : Row) (of : Spot → Foot) (follow : Bool)
      → ((e : Errno) → Tells w l (of (Err e)) (row.refused e))
      → ((passed : ℕ) (here : TreeHere) → IsFound w.held.tree here.node here.up → IsReached w.held.tree follow passed here
      → Tells w l (of (Ok (place.Found here))) (row.at passed (Found (here_named w.held.tree (at w) w.nodes.name_of here))))
      → ((passed dir : ℕ) (name : Text) (slash : Bool) → IsFreeName w.held.tree dir name → IsNear w.held.tree passed dir
      → Tells w l (of (Ok (place.Absent dir name slash))) (row.at passed (Absent (w.nodes.name_of dir) name slash)))
      → (path : Text)
      → Tells w l (both (reading (map cell_seen (way w.held.tree path follow))) (of (tree.resolve w.held.tree path follow))) (resolve row follow path)
  by-way row of follow refused found absent path =
      if-by-way any_answer row of follow (λ e so. refused e) (λ passed here is reached so. found passed here is reached)
      (λ passed dir name slash is near so. absent passed dir name slash is near) path tt

  -- an absent name with a slash after it is no entry
  pub if-strict-absent :
      (So : Answer → Type 0) (told_row : ToPlace → Foot) (make : Place → Does) (dir : ℕ) (name : Text) (slash : Bool)
      → TellsIf So (told_row (place.Absent dir name slash)) (make (Absent (w.nodes.name_of dir) name slash))
      → TellsIf So (at_spot (kernel_strict (Ok (place.Absent dir name slash))) told_row) (strict make (Absent (w.nodes.name_of dir) name slash))
  if-strict-absent So told_row make dir name slash h = go slash
    where
      go : (b : Bool) → TellsIf So (at_spot (if b then Err NoEntry else Ok (place.Absent dir name slash)) told_row)
          (if b then no NoEntry else make (Absent (w.nodes.name_of dir) name slash))
      go true so = tells-no nothing NoEntry
      go false so = h so

  pub strict-absent-told :
      (told_row : ToPlace → Foot) (make : Place → Does) (dir : ℕ) (name : Text) (slash : Bool)
      → Tells w l (told_row (place.Absent dir name slash)) (make (Absent (w.nodes.name_of dir) name slash))
      → Tells w l (at_spot (kernel_strict (Ok (place.Absent dir name slash))) told_row) (strict make (Absent (w.nodes.name_of dir) name slash))
  strict-absent-told told_row make dir name slash h = if-strict-absent any_answer told_row make dir name slash (λ so. h) tt
