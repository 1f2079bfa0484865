-- Write.
use Rattle.std.proofs.Common.{◌≡◌, ℕ, ◌+◌, [], ◌∷◌, ◌++◌, length, Bool, true, false, not, Option, Some, None, refl, sym, ◌∙◌, ap, subst}
use Rattle.std.specs.Prelude.{if◌then◌else◌, slice_get}
use Rattle.std.specs.Option.{option_map}
use Rattle.rk_base.specs.Text.{Text, written as text_written}
use Rattle.rk_base.specs.Canonical.{is_empty}
use Rattle.rk_base.specs.declared.errno.Errno.TheVariants.{BadRef}
use Rattle.rk_calls.specs.Refs.{RefsHeld}
use Rattle.rk_calls.specs.declared.answer.Answer.TheVariants as answer
use Rattle.rk_tree.specs.Entries.{is_dir, IsFit}
use Rattle.rk_tree.specs.Hierarchy.{node as node_at, file_bytes, mode_of, over_written, write}
use Rattle.rk_tree.specs.Node.{Node as TreeNode, File as AFile, Dir as ADir, Link as ALink}
use Rattle.rk_kernel.specs.World.{after_write, after_file_write, with_offset, text_of}
use Rattle.rk_kernel.specs.Rows.{giving}
use Rattle.rk_kernel.specs.Do.{write_ref}
use Rattle.rk_kernel.specs.Do.{write_by as kernel_write_by}
use Rattle.rk_kernel.specs.declared.description.Description as opening
use Rattle.rk_kernel.specs.declared.description.Source as reading
use Rattle.rk_kernel.specs.declared.description.Source.TheVariants as source
use Rattle.rk_kernel.proofs.PipeLemmas.{written_end}
use Rattle.rk_waves.specs.Programs.{One, Sets, Changes, Ends, Update, updated, written}
use Rattle.rk_feet.specs.Named.{Name, Plain, EntryOf, AboveOf, ModeOf, BytesOf, OpenOf, PipeOf, OutputText, ErrorText, Used, Value, Opened, Bytes, bytes}
use Rattle.rk_feet.specs.Naming.{same_name}
use Rattle.rk_feet.specs.NamingLemmas.{clash, name-is}
use Rattle.rk_feet.specs.CellLemmas.{cells}
use Rattle.rk_feet.specs.Course.{what_of}
use Rattle.rk_feet.specs.Transfers.{adds, write_to, write_by, does_write}
use Rattle.rk_feet.specs.World.{World, at, is_file, IsSource, source_named, description_named, opened_named, opened_in}
use Rattle.rk_feet.specs.Simulates.{Becomes, Simulates, ends_in}
use Rattle.rk_feet.specs.Laws as law
use Rattle.rk_feet.proofs.SimulationLemmas.{simulates-no, simulates-answer, simulates-unless, becomes-on, becomes-as}
use Rattle.rk_feet.proofs.OpenLemmas.{set-offset, set-pipe, set-out, set-err}
use Rattle.rk_feet.proofs.NodeChangeLemmas.{KeepsKind, set-bytes}
use Rattle.rk_feet.proofs.ReadLemmas.{by-open, file-below, pipe-read, shown}

keeps-over : (place : ℕ) (text : Text) → KeepsKind (over_written place text)
keeps-over place text = record { dir = dir; fit = fit; what = what }
  where
    dir : (it : TreeNode) → is_dir (Some (over_written place text it)) ≡ is_dir (Some it)
    dir (AFile mode content) = refl
    dir (ADir mode) = refl
    dir (ALink text) = refl

    fit : (it : TreeNode) → IsFit it → IsFit (over_written place text it)
    fit (AFile mode content) h = h
    fit (ADir mode) h = h
    fit (ALink text) h = h

    what : (it : TreeNode) → what_of (Some (over_written place text it)) ≡ what_of (Some it)
    what (AFile mode content) = refl
    what (ADir mode) = refl
    what (ALink text) = refl

over-mode : (place : ℕ) (text : Text) (it : TreeNode) → mode_of (Some (over_written place text it)) ≡ mode_of (Some it)
over-mode place text (AFile mode content) = refl
over-mode place text (ADir mode) = refl
over-mode place text (ALink more) = refl

-- the bytes of a file after them
over-bytes : (place : ℕ) (text : Text) (o : Option TreeNode) → is_file o ≡ true
    → file_bytes (option_map (over_written place text) o) ≡ text_written (file_bytes o) place text
over-bytes place text None h = absurd (clash false h refl)
over-bytes place text (Some (AFile mode content)) h = refl
over-bytes place text (Some (ADir mode)) h = absurd (clash false h refl)
over-bytes place text (Some (ALink more)) h = absurd (clash false h refl)

module _ (w : World) (refs : RefsHeld) (text : Text) (k : Name) (n : ℕ) (at_n : w.opens.number_of k ≡ Some n) (d : opening.Description)
    (is : slice_get w.held.opens n ≡ Some d) where
  module _ (m : ℕ) (stands : is_file (node_at w.held.tree m) ≡ true) where
    put : (place offset : ℕ) (u : Update Value)
        → Bytes (text_written (file_bytes (node_at w.held.tree m)) place text) ≡ updated u (Bytes (file_bytes (node_at w.held.tree m)))
        → Becomes w (record (with_offset w.held n d offset) { tree = write w.held.tree m place text })
        ((BytesOf (w.nodes.name_of m), u) ∷ (OpenOf k, Sets (Opened (Some (description_named w (record d { offset = offset }))))) ∷ [])
    put place offset u says =
        let a = set-bytes w (w.nodes.name_of m) m (w.nodes_named.back m (file-below w m stands)) (over_written place text) (keeps-over place text)
        (over-mode place text) u (ap Bytes (over-bytes place text (node_at w.held.tree m) stands) ∙ says) in
        becomes-on w _ _ ((BytesOf (w.nodes.name_of m), u) ∷ []) ((OpenOf k, Sets (Opened (Some (description_named w (record d { offset = offset }))))) ∷ [])
        a (set-offset a.next k n d offset at_n is)

    appends : d.append ≡ true → Becomes w (after_file_write w.held n d text m (length (file_bytes (node_at w.held.tree m))))
        ((BytesOf (w.nodes.name_of m), adds text) ∷ [])
    appends a =
        becomes-as w _ ((BytesOf (w.nodes.name_of m), adds text)
        ∷ (OpenOf k, Sets (Opened (Some (description_named w (record d { offset = length (file_bytes (node_at w.held.tree m)) + length text }))))) ∷ [])
        ((BytesOf (w.nodes.name_of m), adds text) ∷ [])
        (put (length (file_bytes (node_at w.held.tree m))) (length (file_bytes (node_at w.held.tree m)) + length text) (adds text)
        (ap Bytes (written_end (file_bytes (node_at w.held.tree m)) text)))
        same
      where
        hidden : (append : Bool) (x y : ℕ) → append ≡ true → (if append then 0 else x) ≡ (if append then 0 else y)
        hidden true x y e = refl
        hidden false x y e = absurd (clash false e refl)

        choose : (q : Name) (b : Bool) → same_name k q ≡ b
            → (if b then Opened (Some (description_named w (record d { offset = length (file_bytes (node_at w.held.tree m)) + length text }))) else at w
            (One (OpenOf q))) ≡ at w (One (OpenOf q))
        choose q false e = refl
        choose q true e =
            ap (λ o. Opened (Some (record (description_named w d) { offset = o })))
            (hidden d.append (length (file_bytes (node_at w.held.tree m)) + length text) d.offset a)
            ∙ ap (λ o. Opened (opened_named w o)) (sym is) ∙ ap (λ o. Opened (opened_in w o)) (sym at_n ∙ ap w.opens.number_of (name-is k q e))

        same : (p : Plain)
            → written cells ((BytesOf (w.nodes.name_of m), adds text)
            ∷ (OpenOf k, Sets (Opened (Some (description_named w (record d { offset = length (file_bytes (node_at w.held.tree m)) + length text }))))) ∷ [])
            p (at w (One p))
            ≡ written cells ((BytesOf (w.nodes.name_of m), adds text) ∷ []) p (at w (One p))
        same (EntryOf x y) = refl
        same (AboveOf x) = refl
        same (ModeOf x) = refl
        same (BytesOf x) = refl
        same (OpenOf x) = choose x (same_name k x) refl
        same (PipeOf x) = refl
        same OutputText = refl
        same ErrorText = refl
        same (Used r s) = refl

    at-offset : d.append ≡ false
        → Becomes w (after_file_write w.held n d text m d.offset)
        ((BytesOf (w.nodes.name_of m), Changes (λ old. Bytes (text_written (bytes old) (description_named w d).offset text)))
        ∷ (OpenOf k, Sets (Opened (Some (record (description_named w d) { offset = (description_named w d).offset + length text })))) ∷ [])
    at-offset a =
        subst (λ o. Becomes w (after_file_write w.held n d text m d.offset)
        ((BytesOf (w.nodes.name_of m), Changes (λ old. Bytes (text_written (bytes old) o text)))
        ∷ (OpenOf k, Sets (Opened (Some (record (description_named w d) { offset = o + length text })))) ∷ []))
        (sym (shown d.append d.offset a))
        (subst (λ o. Becomes w (after_file_write w.held n d text m d.offset)
        ((BytesOf (w.nodes.name_of m), Changes (λ old. Bytes (text_written (bytes old) d.offset text)))
        ∷ (OpenOf k, Sets (Opened (Some (record (description_named w d) { offset = o })))) ∷ []))
        (shown d.append (d.offset + length text) a)
        (put d.offset (d.offset + length text) (Changes (λ old. Bytes (text_written (bytes old) d.offset text))) refl))

    write-file : Simulates w (giving (after_write w.held n d text (source.Node m)) refs answer.Done)
        (ends_in w (write_to k (description_named w d) text (source_named w (source.Node m))))
    write-file = go d.append refl
      where
        go : (b : Bool) → d.append ≡ b
            → Simulates w (giving (after_file_write w.held n d text m (if b then length (file_bytes (node_at w.held.tree m)) else d.offset)) refs answer.Done)
            (ends_in w (if b then Ends answer.Done ((BytesOf (w.nodes.name_of m), adds text) ∷ [])
            else Ends answer.Done ((BytesOf (w.nodes.name_of m), Changes (λ old. Bytes (text_written (bytes old) (description_named w d).offset text)))
            ∷ (OpenOf k, Sets (Opened (Some (record (description_named w d) { offset = (description_named w d).offset + length text })))) ∷ [])))
        go true e = record { answer = refl; after = appends e }
        go false e = record { answer = refl; after = at-offset e }

  write-source : (s : reading.Source) → IsSource w.held.tree w.held.pipes s
      → Simulates w (giving (after_write w.held n d text s) refs answer.Done) (ends_in w (write_to k (description_named w d) text (source_named w s)))
  write-source (source.Node m) stands = write-file m stands
  write-source (source.Pipe p) stands = record {
    answer = refl;
    after = set-pipe w (w.pipes.name_of p) p (text_of (slice_get w.held.pipes p) ++ text) (adds text) (w.pipes_named.back p stands)
        (ap (λ v. Bytes (bytes v ++ text)) (sym (pipe-read w p stands)));
  }
  write-source source.Output stands = record { answer = refl; after = set-out w (w.held.out ++ text) (adds text) refl }
  write-source source.ErrorText stands = record { answer = refl; after = set-err w (w.held.err ++ text) (adds text) refl }
  write-source source.Nothing stands = simulates-answer w refs answer.Done

write-open :
    (w : World) (refs : RefsHeld) (text : Text) (k : Name) (n : ℕ) → w.opens.number_of k ≡ Some n → (o : Option opening.Description)
    → slice_get w.held.opens n ≡ o
    → Simulates w (kernel_write_by w.held refs text n o) (ends_in w (write_by k text (opened_named w o)))
write-open w refs text k n at_n None is = simulates-no w refs BadRef
write-open w refs text k n at_n (Some d) is =
    simulates-unless w refs (not d.write) (not d.write) BadRef [] _
    (if is_empty text then Ends answer.Done [] else write_to k (description_named w d) text (source_named w d.source)) refl (λ writes. go (is_empty text))
  where
    go : (b : Bool)
        → Simulates w (giving (if b then w.held else after_write w.held n d text d.source) refs answer.Done)
        (ends_in w (if b then Ends answer.Done [] else write_to k (description_named w d) text (source_named w d.source)))
    go true = simulates-answer w refs answer.Done
    go false = write-source w refs text k n at_n d is d.source (w.are_open n d is).stands

pub writes : law.Writes
writes w refs r text None e = subst (λ o. Simulates w (write_ref w.held refs text o) (ends_in w (does_write None text))) (sym e) (simulates-no w refs BadRef)
writes w refs r text (Some k) e =
    subst (λ o. Simulates w (write_ref w.held refs text o) (ends_in w (does_write (Some k) text))) (sym e)
    (by-open w (write_ref w.held refs text) (λ k d. write_by k text d) k (λ n at_n. write-open w refs text k n at_n (slice_get w.held.opens n) refl)
    (simulates-no w refs BadRef))
