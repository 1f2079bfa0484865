-- Read and ReadLine.
use Rattle.std.proofs.Common.{◌≡◌, ℕ, ◌<◌, [], ◌∷◌, length, Bool, true, false, not, Option, Some, None, refl, sym, ◌∙◌, ap, subst}
use Rattle.std.specs.Prelude.{if◌then◌else◌, drop, slice_get}
use Rattle.rk_base.specs.Text.{Text}
use Rattle.rk_base.specs.declared.errno.Errno.TheVariants.{BadRef}
use Rattle.rk_calls.specs.Given.{Given}
use Rattle.rk_calls.specs.Refs.{RefsHeld}
use Rattle.rk_calls.specs.declared.answer.Answer.TheVariants as answer
use Rattle.std.proofs.lemmas.Option.{slice_get_within}
use Rattle.rk_tree.specs.Node.{Node as TreeNode}
use Rattle.rk_tree.specs.Hierarchy.{Hierarchy, node as node_at, file_bytes}
use Rattle.rk_tree.proofs.ChangedLemmas.{length-entries}
use Rattle.rk_kernel.specs.World as kernel
use Rattle.rk_kernel.specs.World.{rest_of, after_read, line_of, line_end, after_line, after_read_line, text_of}
use Rattle.rk_kernel.specs.Rows.{giving}
use Rattle.rk_kernel.specs.Do.{read_ref, read_line_ref}
use Rattle.rk_kernel.specs.Do.{read_by as kernel_read_by, read_line_by as kernel_read_line_by}
use Rattle.rk_kernel.specs.declared.description.Description as opening
use Rattle.rk_kernel.specs.declared.description.Source as reading
use Rattle.rk_kernel.specs.declared.description.Source.TheVariants as source
use Rattle.rk_waves.specs.Programs.{Cell, One, Sets}
use Rattle.rk_waves.specs.Programs as Program
use Rattle.rk_feet.specs.Named.{Name, Description, OpenOf, BytesOf, PipeOf, Value, Opened, Bytes, opened, Does}
use Rattle.rk_feet.specs.Transfers.{read_bytes, read_pipe, read_line_bytes, read_line_pipe, read_from, read_by, does_read, read_line_from, read_line_by}
use Rattle.rk_feet.specs.Transfers.{does_read_line}
use Rattle.rk_feet.specs.World.{World, at, is_file, IsSource, source_named, description_named, opened_named, opened_in, bytes_in, pipe_in}
use Rattle.rk_feet.specs.Simulates.{Becomes, Simulates, ends_in}
use Rattle.rk_feet.specs.Laws.{Reads, ReadsLines}
use Rattle.rk_feet.proofs.SimulationLemmas.{simulates-no, simulates-answer, simulates-unless, simulates-reads}
use Rattle.rk_feet.specs.NamingLemmas.{clash}
use Rattle.rk_feet.proofs.OpenLemmas.{set-offset, set-pipe}

un : (b : Bool) → not b ≡ false → b ≡ true
un true e = refl
un false e = cc

-- a file has a number below the count
pub node-below : (w : World) (n : ℕ) (it : TreeNode) → node_at w.held.tree n ≡ Some it → n < length w.inodes
node-below w n it is = subst (λ c. n < c) (ap (λ (h : Hierarchy). length h.nodes) (sym w.tree.is) ∙ length-entries w.inodes)
    (slice_get_within w.held.tree.nodes n it is)

pub file-below : (w : World) (n : ℕ) → is_file (node_at w.held.tree n) ≡ true → n < length w.inodes
file-below w n h = go (node_at w.held.tree n) refl h
  where
    go : (o : Option TreeNode) → node_at w.held.tree n ≡ o → is_file o ≡ true → n < length w.inodes
    go None is h = absurd (clash false h refl)
    go (Some it) is h = node-below w n it is

-- what a description stands on, by its name

pub file-read : (w : World) (n : ℕ) → n < length w.inodes → at w (One (BytesOf (w.nodes.name_of n))) ≡ Bytes (file_bytes (node_at w.held.tree n))
file-read w n h = ap (λ o. Bytes (bytes_in w o)) (w.nodes_named.back n h)

pub pipe-read : (w : World) (p : ℕ) → p < length w.held.pipes → at w (One (PipeOf (w.pipes.name_of p))) ≡ Bytes (text_of (slice_get w.held.pipes p))
pipe-read w p h = ap (λ o. Bytes (pipe_in w o)) (w.pipes_named.back p h)

-- a description that is read shows its offset
pub shown : (append : Bool) (offset : ℕ) → append ≡ false → (if append then 0 else offset) ≡ offset
shown true offset e = absurd (clash true refl e)
shown false offset e = refl

module _ (w : World) (refs : RefsHeld) (k : Name) (n : ℕ) (at_n : w.opens.number_of k ≡ Some n) where
  becomes-to : (held : kernel.World) (u v : Value) → u ≡ v → Becomes w held ((OpenOf k, Sets u) ∷ []) → Becomes w held ((OpenOf k, Sets v) ∷ [])
  becomes-to held u v e b = subst (λ v. Becomes w held ((OpenOf k, Sets v) ∷ [])) e b

  -- the bytes from the offset on
  rest-named : (d : opening.Description) → d.append ≡ false → (text : Text) → drop d.offset text ≡ drop (if d.append then 0 else d.offset) text
  rest-named d plain text = ap (λ o. drop o text) (sym (shown d.append d.offset plain))

  read-source :
      (d : opening.Description) → slice_get w.held.opens n ≡ Some d → d.append ≡ false → (s : reading.Source) → IsSource w.held.tree w.held.pipes s
      → Simulates w (giving (after_read w.held n d s) refs (answer.Content (rest_of w.held d.offset s)))
      (ends_in w (read_from k (description_named w d) (source_named w s)))
  read-source d is plain (source.Node m) stands =
      simulates-reads w _ (One (BytesOf (w.nodes.name_of m))) (Bytes (file_bytes (node_at w.held.tree m))) (read_bytes k (description_named w d))
      (file-read w m (file-below w m stands))
      (record {
        answer = ap answer.Content (rest-named d plain (file_bytes (node_at w.held.tree m)));
        after = set-offset w k n d
            (length (file_bytes (node_at w.held.tree m))) at_n is;
      })
  read-source d is plain (source.Pipe p) stands =
      simulates-reads w _ (One (PipeOf (w.pipes.name_of p))) (Bytes (text_of (slice_get w.held.pipes p))) (read_pipe (w.pipes.name_of p)) (pipe-read w p stands)
      (record { answer = refl; after = set-pipe w (w.pipes.name_of p) p [] (Sets (Bytes [])) (w.pipes_named.back p stands) refl })
  read-source d is plain source.Output stands = simulates-answer w refs (answer.Content [])
  read-source d is plain source.ErrorText stands = simulates-answer w refs (answer.Content [])
  read-source d is plain source.Nothing stands = simulates-answer w refs (answer.Content [])

  read-open : (o : Option opening.Description) → slice_get w.held.opens n ≡ o
      → Simulates w (kernel_read_by w.held refs n o) (ends_in w (read_by k (opened_named w o)))
  read-open None is = simulates-no w refs BadRef
  read-open (Some d) is =
      simulates-unless w refs (not d.read) (not d.read) BadRef [] _ (read_from k (description_named w d) (source_named w d.source)) refl
      (λ reads. read-source d is ((w.are_open n d is).plain (un d.read reads)) d.source (w.are_open n d is).stands)

  line-source :
      (d : opening.Description) → slice_get w.held.opens n ≡ Some d → d.append ≡ false → (s : reading.Source) → IsSource w.held.tree w.held.pipes s
      → Simulates w (giving (after_read_line w.held n d s) refs (answer.Content (line_of (rest_of w.held d.offset s))))
      (ends_in w (read_line_from k (description_named w d) (source_named w s)))
  line-source d is plain (source.Node m) stands =
      simulates-reads w _ (One (BytesOf (w.nodes.name_of m))) (Bytes (file_bytes (node_at w.held.tree m))) (read_line_bytes k (description_named w d))
      (file-read w m (file-below w m stands))
      (record {
        answer = ap (λ t. answer.Content (line_of t)) (rest-named d plain (file_bytes (node_at w.held.tree m)));
        after = becomes-to _ _ _ (ap (λ o. Opened
            (Some (record (description_named w d) { offset = if d.append then 0 else line_end (file_bytes (node_at w.held.tree m)) o })))
            (sym (shown d.append d.offset plain)))
            (set-offset w k n d (line_end (file_bytes (node_at w.held.tree m)) d.offset) at_n is);
      })
  line-source d is plain (source.Pipe p) stands =
      simulates-reads w _ (One (PipeOf (w.pipes.name_of p))) (Bytes (text_of (slice_get w.held.pipes p))) (read_line_pipe (w.pipes.name_of p))
      (pipe-read w p stands)
      (record {
        answer = refl;
        after = set-pipe w (w.pipes.name_of p) p (after_line (text_of (slice_get w.held.pipes p)))
            (Sets (Bytes (after_line (text_of (slice_get w.held.pipes p))))) (w.pipes_named.back p stands) refl;
      })
  line-source d is plain source.Output stands = simulates-answer w refs (answer.Content [])
  line-source d is plain source.ErrorText stands = simulates-answer w refs (answer.Content [])
  line-source d is plain source.Nothing stands = simulates-answer w refs (answer.Content [])

  line-open : (o : Option opening.Description) → slice_get w.held.opens n ≡ o
      → Simulates w (kernel_read_line_by w.held refs n o) (ends_in w (read_line_by k (opened_named w o)))
  line-open None is = simulates-no w refs BadRef
  line-open (Some d) is =
      simulates-unless w refs (not d.read) (not d.read) BadRef [] _ (read_line_from k (description_named w d) (source_named w d.source)) refl
      (λ reads. line-source d is ((w.are_open n d is).plain (un d.read reads)) d.source (w.are_open n d is).stands)

-- by the name of a description, whose number may be none
pub by-open :
    (w : World) (given : Option ℕ → Given kernel.World) (program : Name → Option Description → Does) (k : Name)
    → ((n : ℕ) → w.opens.number_of k ≡ Some n → Simulates w (given (Some n)) (ends_in w (program k (opened_named w (slice_get w.held.opens n)))))
    → Simulates w (given None) (ends_in w (program k None))
    → Simulates w (given (w.opens.number_of k)) (ends_in w (Program.Reads (One (OpenOf k)) (λ d. program k (opened d))))
by-open w given program k some none = go (w.opens.number_of k) refl
  where
    go : (o : Option ℕ) → w.opens.number_of k ≡ o → Simulates w (given o) (ends_in w (Program.Reads (One (OpenOf k)) (λ d. program k (opened d))))
    go None e = simulates-reads w (given None) (One (OpenOf k)) (Opened None) (λ d. program k (opened d)) (ap (λ o. Opened (opened_in w o)) e) none
    go (Some n) e = simulates-reads w (given (Some n)) (One (OpenOf k)) (Opened (opened_named w (slice_get w.held.opens n))) (λ d. program k (opened d))
        (ap (λ o. Opened (opened_in w o)) e) (some n e)

pub reads : Reads
reads w refs r None e = subst (λ o. Simulates w (read_ref w.held refs o) (ends_in w (does_read None))) (sym e) (simulates-no w refs BadRef)
reads w refs r (Some k) e =
    subst (λ o. Simulates w (read_ref w.held refs o) (ends_in w (does_read (Some k)))) (sym e)
    (by-open w (read_ref w.held refs) read_by k (λ n at_n. read-open w refs k n at_n (slice_get w.held.opens n) refl) (simulates-no w refs BadRef))

pub reads-lines : ReadsLines
reads-lines w refs r None e = subst (λ o. Simulates w (read_line_ref w.held refs o) (ends_in w (does_read_line None))) (sym e) (simulates-no w refs BadRef)
reads-lines w refs r (Some k) e =
    subst (λ o. Simulates w (read_line_ref w.held refs o) (ends_in w (does_read_line (Some k)))) (sym e)
    (by-open w (read_line_ref w.held refs) read_line_by k (λ n at_n. line-open w refs k n at_n (slice_get w.held.opens n) refl) (simulates-no w refs BadRef))
