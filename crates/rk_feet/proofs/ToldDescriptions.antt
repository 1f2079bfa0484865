-- What is told of the calls of descriptions tells their programs.
use Rattle.std.proofs.Common.{◌≡◌, ℕ, ◌+◌, ◌<◌, [], ◌∷◌, ◌++◌, length, Bool, true, false, not, Option, Some, None, refl, sym, ◌∙◌, ap, subst, inl, inr}
use Rattle.std.specs.Prelude.{if◌then◌else◌, slice_get}
use Rattle.rk_base.specs.Text.{Text}
use Rattle.rk_base.specs.Canonical.{is_empty}
use Rattle.rk_base.specs.declared.errno.Errno.TheVariants.{NoEntry, IsDir, Denied, BadRef}
use Rattle.rk_calls.specs.Refs.{RefsHeld}
use Rattle.rk_calls.specs.declared.call.Call.TheVariants as call
use Rattle.rk_calls.specs.declared.call.How.{How}
use Rattle.rk_calls.specs.declared.call.How.TheVariants as how
use Rattle.rk_calls.specs.declared.answer.Answer.{Answer}
use Rattle.rk_calls.specs.declared.answer.Answer.TheVariants as answer
use Rattle.rk_tree.specs.Entries.{is_dir}
use Rattle.rk_tree.specs.Hierarchy.{node as node_at, mode_of}
use Rattle.rk_tree.specs.Node.{Node as TreeNode, File as AFile, Dir as ADir, Link as ALink}
use Rattle.rk_tree.specs.Refusals.{is_there}
use Rattle.rk_walk.specs.declared.place.Place.TheVariants as place
use Rattle.rk_kernel.specs.Feet.{foot_by, emptied_cells, open_foot, read_by_foot, read_foot, source_cells, taken_cells, put_cells}
use Rattle.rk_kernel.specs.Feet.{write_by_foot, write_foot, pipe_foot}
use Rattle.rk_kernel.specs.Foot.{nothing, reading, writing as told_writing, both, checked, at_spot}
use Rattle.rk_kernel.specs.Opening.{is_read, lacks}
use Rattle.rk_kernel.specs.Rows.{strict as kernel_strict}
use Rattle.rk_kernel.specs.declared.cell.Cell.TheVariants as told
use Rattle.rk_kernel.specs.declared.description.Description as opening
use Rattle.rk_kernel.specs.declared.description.Source as reading_of
use Rattle.rk_kernel.specs.declared.description.Source.TheVariants as source
use Rattle.rk_kernel.specs.declared.foot.Foot.{Foot}
use Rattle.rk_waves.specs.Programs.{One, Reads, Ends, Update}
use Rattle.rk_feet.specs.Checks.{row, strict}
use Rattle.rk_feet.specs.Course.{what_of}
use Rattle.rk_feet.specs.Named.{Name, Made, Description, ModeOf, BytesOf, OpenOf, PipeOf, Value, Mode, Opened, opened, Does}
use Rattle.rk_feet.specs.Opening.{uses, empties, opens, open_at, open_mode, open_what, open_path, makes_file, makes_pipe}
use Rattle.rk_feet.specs.Told.{By, Later, or_zero, node_in, open_in, pipe_in, StandsFor, Tells, TellsCall, TellsDescriptions}
use Rattle.rk_feet.specs.Transfers.{read_bytes, read_pipe, read_from, read_by, does_read, read_line_bytes, read_line_pipe, read_line_from, read_line_by}
use Rattle.rk_feet.specs.Transfers.{does_read_line}
use Rattle.rk_feet.specs.Transfers.{write_to, write_by, does_write}
use Rattle.rk_feet.specs.Ways.{Absent}
use Rattle.rk_feet.specs.World.{World, at, IsSource, source_named, description_named, opened_named, opened_in}
use Rattle.rk_feet.proofs.PlaceLemmas.{found-node, mode-read}
use Rattle.rk_feet.proofs.ReadLemmas.{file-below}
use Rattle.rk_feet.proofs.ToldLemmas.{node-number, dir-number, tells-no, tells-unless, tells-either, tells-reads}
use Rattle.rk_feet.proofs.ToldLemmas.{if-unless, if-reads, if-writing, if-once, if-by-way, TellsIf, if-strict-absent}

-- what is there is opened in the end
abbrev open_ends : ℕ → ℕ → How → Name → Does
open_ends r s h n = Ends answer.Opened (uses r s ∷ empties h n ++ opens (Made r s 0 420) h n ∷ [])

module _ (w : World) (l : Later w) where
  file-number : (m : ℕ) → IsSource w.held.tree w.held.pipes (source.Node m) → node_in l.world (w.nodes.name_of m) ≡ m
  file-number m stands = ap or_zero (l.lasts.nodes (w.nodes.name_of m) m (w.nodes_named.back m (file-below w m stands)))

  pipe-number : (p : ℕ) → p < length w.held.pipes → pipe_in l.world (w.pipes.name_of p) ≡ p
  pipe-number p stands = ap or_zero (l.lasts.pipes (w.pipes.name_of p) p (w.pipes_named.back p stands))

  module _ (k : Name) (n : ℕ) (at_n : w.opens.number_of k ≡ Some n) where
    open-number : open_in l.world k ≡ n
    open-number = ap or_zero (l.lasts.opens k n at_n)

    -- a description that is there or not, and what is made of it
    by-open :
        (by : Option Description → Does) (foot : Option opening.Description → Foot)
        → ((o : Option opening.Description) → slice_get w.held.opens n ≡ o → Tells w l (foot o) (by (opened_named w o)))
        → Tells w l (both (reading (told.Opened n ∷ [])) (foot (slice_get w.held.opens n))) (Reads (One (OpenOf k)) (λ d. by (opened d)))
    by-open by foot h =
        tells-reads w l (One (OpenOf k)) (told.Opened n) (Opened (opened_named w (slice_get w.held.opens n))) (λ d. by (opened d))
        (foot (slice_get w.held.opens n)) (ap (λ m. By (told.Opened m)) open-number) (ap (λ o. Opened (opened_in w o)) at_n)
        (h (slice_get w.held.opens n) refl)

    -- Read and ReadLine

    read-source : (d : Description) (s : reading_of.Source) → IsSource w.held.tree w.held.pipes s
        → Tells w l (record { reads = source_cells s; writes = taken_cells n s }) (read_from k d (source_named w s))
    read-source d (source.Node m) stands =
        tells-reads w l (One (BytesOf (w.nodes.name_of m))) (told.Bytes m) (at w (One (BytesOf (w.nodes.name_of m)))) (read_bytes k d)
        (told_writing (told.Opened n ∷ [])) (ap (λ j. By (told.Bytes j)) (file-number m stands)) refl
        (record { reads = tt; writes = (inl (ap told.Opened (sym open-number)), tt) })
    read-source d (source.Pipe p) stands =
        tells-reads w l (One (PipeOf (w.pipes.name_of p))) (told.Pipe p) (at w (One (PipeOf (w.pipes.name_of p)))) (read_pipe (w.pipes.name_of p))
        (told_writing (told.Pipe p ∷ [])) (ap (λ j. By (told.Pipe j)) (pipe-number p stands)) refl
        (record { reads = tt; writes = (inl (ap told.Pipe (sym (pipe-number p stands))), tt) })
    read-source d source.Output stands = record { reads = tt; writes = tt }
    read-source d source.ErrorText stands = record { reads = tt; writes = tt }
    read-source d source.Nothing stands = record { reads = tt; writes = tt }

    line-source : (d : Description) (s : reading_of.Source) → IsSource w.held.tree w.held.pipes s
        → Tells w l (record { reads = source_cells s; writes = taken_cells n s }) (read_line_from k d (source_named w s))
    line-source d (source.Node m) stands =
        tells-reads w l (One (BytesOf (w.nodes.name_of m))) (told.Bytes m) (at w (One (BytesOf (w.nodes.name_of m)))) (read_line_bytes k d)
        (told_writing (told.Opened n ∷ [])) (ap (λ j. By (told.Bytes j)) (file-number m stands)) refl
        (record { reads = tt; writes = (inl (ap told.Opened (sym open-number)), tt) })
    line-source d (source.Pipe p) stands =
        tells-reads w l (One (PipeOf (w.pipes.name_of p))) (told.Pipe p) (at w (One (PipeOf (w.pipes.name_of p)))) (read_line_pipe (w.pipes.name_of p))
        (told_writing (told.Pipe p ∷ [])) (ap (λ j. By (told.Pipe j)) (pipe-number p stands)) refl
        (record { reads = tt; writes = (inl (ap told.Pipe (sym (pipe-number p stands))), tt) })
    line-source d source.Output stands = record { reads = tt; writes = tt }
    line-source d source.ErrorText stands = record { reads = tt; writes = tt }
    line-source d source.Nothing stands = record { reads = tt; writes = tt }

    -- what is told of a description that is read, beside that it is
    abbrev rest_read : Option opening.Description → Foot
    rest_read None = nothing
    rest_read (Some d) = if not d.read then nothing else record { reads = source_cells d.source; writes = taken_cells n d.source }

    read-open : (o : Option opening.Description) → slice_get w.held.opens n ≡ o → Tells w l (rest_read o) (read_by k (opened_named w o))
    read-open None is = tells-no w l nothing BadRef
    read-open (Some d) is =
        tells-unless w l (not d.read) BadRef (record { reads = source_cells d.source; writes = taken_cells n d.source }) _
        (read-source (description_named w d) d.source (w.are_open n d is).stands)

    line-open : (o : Option opening.Description) → slice_get w.held.opens n ≡ o → Tells w l (rest_read o) (read_line_by k (opened_named w o))
    line-open None is = tells-no w l nothing BadRef
    line-open (Some d) is =
        tells-unless w l (not d.read) BadRef (record { reads = source_cells d.source; writes = taken_cells n d.source }) _
        (line-source (description_named w d) d.source (w.are_open n d is).stands)

    -- with the description
    whole-read : (o : Option opening.Description) → both (reading (told.Opened n ∷ [])) (rest_read o) ≡ read_by_foot n o
    whole-read None = refl
    whole-read (Some d) = refl

    -- Write

    put-node : (b : Bool) (m : ℕ) (u v x : Update Value) → IsSource w.held.tree w.held.pipes (source.Node m)
        → Tells w l (told_writing (told.Bytes m ∷ (if b then [] else told.Opened n ∷ [])))
        (if b then Ends answer.Done ((BytesOf (w.nodes.name_of m), u) ∷ []) else Ends answer.Done ((BytesOf (w.nodes.name_of m), v) ∷ (OpenOf k, x) ∷ []))
    put-node true m u v x stands = record { reads = tt; writes = (inl (ap told.Bytes (sym (file-number m stands))), tt) }
    put-node false m u v x stands =
        record { reads = tt; writes = (inl (ap told.Bytes (sym (file-number m stands))), (inr (inl (ap told.Opened (sym open-number))), tt)) }

    put-source : (d : opening.Description) (text : Text) (s : reading_of.Source) → IsSource w.held.tree w.held.pipes s
        → Tells w l (told_writing (put_cells n d s)) (write_to k (description_named w d) text (source_named w s))
    put-source d text (source.Node m) stands = put-node d.append m _ _ _ stands
    put-source d text (source.Pipe p) stands = record { reads = tt; writes = (inl (ap told.Pipe (sym (pipe-number p stands))), tt) }
    put-source d text source.Output stands = record { reads = tt; writes = (inl refl, tt) }
    put-source d text source.ErrorText stands = record { reads = tt; writes = (inl refl, tt) }
    put-source d text source.Nothing stands = record { reads = tt; writes = tt }

    abbrev rest_written : Option opening.Description → Foot
    rest_written None = nothing
    rest_written (Some d) = if not d.write then nothing else told_writing (put_cells n d d.source)

    write-open : (text : Text) (o : Option opening.Description) → slice_get w.held.opens n ≡ o → Tells w l (rest_written o) (write_by k text (opened_named w o))
    write-open text None is = tells-no w l nothing BadRef
    write-open text (Some d) is =
        tells-unless w l (not d.write) BadRef (told_writing (put_cells n d d.source)) _
        (tells-either w l (is_empty text) (told_writing (put_cells n d d.source)) _ _ (record { reads = tt; writes = tt })
        (put-source d text d.source (w.are_open n d is).stands))

    whole-written : (o : Option opening.Description) → both (reading (told.Opened n ∷ [])) (rest_written o) ≡ write_by_foot n o
    whole-written None = refl
    whole-written (Some d) = refl

  -- Open: what is opened gets the next number

  module _ (h : How) where
    -- the step has this answer, and so it has made a description
    abbrev Opens : Answer → Type 0
    Opens it = it ≡ answer.Opened → l.world.opens.number_of (Made l.command l.number 0 420) ≡ Some (length w.held.opens)

    first-open : Opens answer.Opened → told.Opened (length w.held.opens) ≡ told.Opened (open_in l.world (Made l.command l.number 0 420))
    first-open so = ap told.Opened (sym (ap or_zero (so refl)))

    -- what is there is opened
    opens-node : (n : ℕ) → is_there (node_at w.held.tree n) ≡ true → (how_it : How)
        → TellsIf w l Opens (told_writing (told.Opened (length w.held.opens) ∷ emptied_cells how_it n))
        (open_ends l.command l.number how_it (w.nodes.name_of n))
    opens-node n there how.Read so = record { reads = tt; writes = ((refl, refl), (inl (first-open so), tt)) }
    opens-node n there how.Make so =
        record { reads = tt; writes = ((refl, refl), (inr (inl (ap told.Bytes (sym (node-number w l n there)))), (inl (first-open so), tt))) }
    opens-node n there how.Append so = record { reads = tt; writes = ((refl, refl), (inl (first-open so), tt)) }

    module _ (n : ℕ) (there : is_there (node_at w.held.tree n) ≡ true) where
      abbrev open_told : Option TreeNode → Foot
      open_told o = checked ((is_dir o, IsDir) ∷ (lacks h (mode_of o), Denied) ∷ []) ([] ∷ (told.Mode n ∷ []) ∷ [])
          (told_writing (told.Opened (length w.held.opens) ∷ emptied_cells h n))

      moded : (it : TreeNode) → node_at w.held.tree n ≡ Some it
          → TellsIf w l Opens (both (reading (told.Mode n ∷ [])) (if lacks h (mode_of (Some it)) then nothing
          else told_writing (told.Opened (length w.held.opens) ∷ emptied_cells h n)))
          (Reads (One (ModeOf (w.nodes.name_of n))) (open_mode l.command l.number h (w.nodes.name_of n)))
      moded it is =
          if-reads w l Opens (One (ModeOf (w.nodes.name_of n))) (told.Mode n) (Mode (mode_of (Some it))) (open_mode l.command l.number h (w.nodes.name_of n))
          (if lacks h (mode_of (Some it)) then nothing else told_writing (told.Opened (length w.held.opens) ∷ emptied_cells h n))
          (ap (λ m. By (told.Mode m)) (node-number w l n there)) (mode-read w n there ∙ ap (λ o. Mode (mode_of o)) is)
          (if-unless w l Opens (lacks h (mode_of (Some it))) Denied (told_writing (told.Opened (length w.held.opens) ∷ emptied_cells h n))
          (open_ends l.command l.number h (w.nodes.name_of n)) (opens-node n there h))

      open-node : (it : TreeNode) → node_at w.held.tree n ≡ Some it
          → TellsIf w l Opens (open_told (Some it)) (open_what l.command l.number h (w.nodes.name_of n) (what_of (Some it)))
      open-node (AFile mode content) is = moded (AFile mode content) is
      open-node (ADir mode) is = λ so. tells-no w l (open_told (Some (ADir mode))) IsDir
      open-node (ALink text) is = moded (ALink text) is

    -- a file is made
    makes-told : (dir : ℕ) (name : Text) → is_dir (node_at w.held.tree dir) ≡ true
        → TellsIf w l Opens (told_writing (told.Opened (length w.held.opens) ∷ told.Entry dir name ∷ told.Names dir ∷ []))
        (makes_file l.command l.number h (w.nodes.name_of dir) name)
    makes-told dir name d so = record {
      reads = tt;
      writes = (
        (refl, refl),
        (
          inr (inl (ap (λ m. told.Entry m name) (sym (dir-number w l dir d)))),
          (
            inr (inr (inl (ap told.Names (sym (dir-number w l dir d))))),
            (inl (first-open so), tt),
          ),
        ),
      );
    }

    open-absent : (dir : ℕ) (name : Text) (slash : Bool) → is_dir (node_at w.held.tree dir) ≡ true
        → TellsIf w l Opens (open_foot w.held h (place.Absent dir name slash)) (open_at l.command l.number h (Absent (w.nodes.name_of dir) name slash))
    open-absent dir name slash d =
        if-unless w l Opens (is_read h) NoEntry _ _
        (if-writing w l Opens dir (told_writing (told.Opened (length w.held.opens) ∷ told.Entry dir name ∷ told.Names dir ∷ []))
        (makes_file l.command l.number h (w.nodes.name_of dir) name) d (makes-told dir name d))

    open-told : (refs : RefsHeld) (path : Text) → TellsIf w l Opens (foot_by w.held refs (call.Open path h)) (open_path l.command l.number path h)
    open-told refs path = if-by-way w l Opens (row (strict (open_at l.command l.number h))) (λ spot. at_spot (kernel_strict spot) (open_foot w.held h)) true
        (λ e so. tells-no w l nothing e)
        (λ passed here is reached. let it = found-node (node_at w.held.tree here.node) is.there in
        subst (λ o. TellsIf w l Opens (open_told here.node is.there o) (open_what l.command l.number h (w.nodes.name_of here.node) (what_of o))) (sym it.1)
        (open-node here.node is.there it.0 it.1))
        (λ passed dir name slash is near. if-strict-absent w l Opens (open_foot w.held h) (open_at l.command l.number h) dir name slash
        (open-absent dir name slash near.stands.0)) path

  -- Pipe
  abbrev Pipes : Answer → Type 0
  Pipes it =
      it ≡ answer.Piped
      → (l.world.opens.number_of (Made l.command l.number 0 0) ≡ Some (length w.held.opens))
      × (l.world.opens.number_of (Made l.command l.number 1 0) ≡ Some (length w.held.opens + 1))

  pipe-told : TellsIf w l Pipes (pipe_foot w.held) (Ends answer.Piped (makes_pipe l.command l.number))
  pipe-told so = record {
    reads = tt;
    writes = (
      (refl, refl),
      (
        inl (ap told.Opened (sym (ap or_zero (so refl).0))),
        (inr (inl (ap told.Opened (sym (ap or_zero (so refl).1)))), tt),
      ),
    );
  }

pub descriptions : TellsDescriptions
descriptions = record {
  reads = λ w l refs r on. reads w l refs r on;
  lines = λ w l refs r on. lines w l refs r on;
  writes = λ w l refs r text on. writes w l refs r text on;
  pipes = λ w l refs. if-once w l (Pipes w l) (pipe_foot w.held) _ (λ unused. pipe-told w l);
  opens = λ w l refs path h. if-once w l (Opens w l h) _ (open_path l.command l.number path h) (λ unused. open-told w l h refs path);
} where
  reads : (w : World) (l : Later w) (refs : RefsHeld) (r : ℕ) (on : Option Name) → StandsFor w refs r on → TellsCall w l refs (call.Read r) (does_read on)
  reads w l refs r None is = tells-no w l _ BadRef
  reads w l refs r (Some k) is =
      subst (λ o. Tells w l (read_foot w.held o) (does_read (Some k))) (sym is.1)
      (subst (λ foot. Tells w l foot (does_read (Some k))) (whole-read w l k is.0 is.2 (slice_get w.held.opens is.0))
      (by-open w l k is.0 is.2 (read_by k) (rest_read w l k is.0 is.2) (read-open w l k is.0 is.2)))

  lines : (w : World) (l : Later w) (refs : RefsHeld) (r : ℕ) (on : Option Name) → StandsFor w refs r on
      → TellsCall w l refs (call.ReadLine r) (does_read_line on)
  lines w l refs r None is = tells-no w l _ BadRef
  lines w l refs r (Some k) is =
      subst (λ o. Tells w l (read_foot w.held o) (does_read_line (Some k))) (sym is.1)
      (subst (λ foot. Tells w l foot (does_read_line (Some k))) (whole-read w l k is.0 is.2 (slice_get w.held.opens is.0))
      (by-open w l k is.0 is.2 (read_line_by k) (rest_read w l k is.0 is.2) (line-open w l k is.0 is.2)))

  writes : (w : World) (l : Later w) (refs : RefsHeld) (r : ℕ) (text : Text) (on : Option Name) → StandsFor w refs r on
      → TellsCall w l refs (call.Write r text) (does_write on text)
  writes w l refs r text None is = tells-no w l _ BadRef
  writes w l refs r text (Some k) is =
      subst (λ o. Tells w l (write_foot w.held o) (does_write (Some k) text)) (sym is.1)
      (subst (λ foot. Tells w l foot (does_write (Some k) text)) (whole-written w l k is.0 is.2 (slice_get w.held.opens is.0))
      (by-open w l k is.0 is.2 (write_by k text) (rest_written w l k is.0 is.2) (write-open w l k is.0 is.2 text)))
