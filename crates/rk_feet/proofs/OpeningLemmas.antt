-- Open of what stands, and Pipe.
use Rattle.std.proofs.Common.{◌≡◌, ℕ, suc, ◌<◌, [], ◌∷◌, ◌++◌, length, Bool, true, false, ◌&&◌, Option, Some, None, refl, sym, ◌∙◌, ap, ap₂, subst, arith}
use Rattle.std.specs.Prelude.{◌==◌, if◌then◌else◌}
use Rattle.std.specs.Option.{option_map}
use Rattle.rk_base.specs.declared.errno.Errno.TheVariants.{IsDir, Denied}
use Rattle.rk_calls.specs.Given.{Given}
use Rattle.rk_calls.specs.Refs.{RefsHeld}
use Rattle.rk_calls.specs.declared.call.How.{How}
use Rattle.rk_calls.specs.declared.call.How.TheVariants as how
use Rattle.rk_calls.specs.declared.answer.Answer.TheVariants as answer
use Rattle.rk_tree.specs.Entries.{is_dir, IsFit}
use Rattle.rk_tree.specs.Hierarchy.{node as node_at, mode_of, file_bytes, replaced}
use Rattle.rk_tree.specs.Node.{Node as TreeNode, File as AFile, Dir as ADir, Link as ALink}
use Rattle.rk_tree.specs.Refusals.{is_there}
use Rattle.rk_kernel.specs.World as kernel
use Rattle.rk_kernel.specs.World.{with_tree, with_open, with_pipe, read_end, write_end}
use Rattle.rk_kernel.specs.Rows.{unless}
use Rattle.rk_kernel.specs.Opening.{lacks, emptied}
use Rattle.rk_kernel.specs.Opening as opening
use Rattle.rk_kernel.specs.Questions.{is_link}
use Rattle.rk_waves.specs.Programs.{One, Sets}
use Rattle.rk_feet.specs.Named.{Name, Made, OpenOf, BytesOf, ModeOf, Used, Mode, Bytes, Opened, Flag, Does}
use Rattle.rk_feet.specs.NamingLemmas.{clash, equal}
use Rattle.rk_feet.specs.Naming.{same_name}
use Rattle.rk_feet.specs.Course.{what_of}
use Rattle.rk_feet.specs.Opening.{opens, uses, empties, open_what, open_mode, once, once_by, pipe_read, pipe_write, makes_pipe}
use Rattle.rk_feet.specs.World.{World, is_file}
use Rattle.rk_feet.specs.Simulates.{Becomes, Simulates, ends_in}
use Rattle.rk_feet.specs.Laws as law
use Rattle.rk_feet.proofs.SimulationLemmas.{simulates-no, simulates-unless, simulates-reads, becomes-on}
use Rattle.rk_feet.proofs.NodeChangeLemmas.{KeepsKind, kept, set-bytes}
use Rattle.rk_feet.proofs.MakingLemmas.{length-more, mark, mark-next, marked, add-open, add-pipe}
use Rattle.rk_feet.proofs.PlaceLemmas.{node-back, mode-read}
use Rattle.rk_feet.specs.World.{is_file_what}
use Rattle.rk_waves.specs.Programs.{Ends}

keeps-empty : KeepsKind (replaced [])
keeps-empty = record { dir = dir; fit = fit; what = what }
  where
    dir : (it : TreeNode) → is_dir (Some (replaced [] it)) ≡ is_dir (Some it)
    dir (AFile mode content) = refl
    dir (ADir mode) = refl
    dir (ALink text) = refl

    fit : (it : TreeNode) → IsFit it → IsFit (replaced [] it)
    fit (AFile mode content) h = h
    fit (ADir mode) h = h
    fit (ALink text) h = h

    what : (it : TreeNode) → what_of (Some (replaced [] it)) ≡ what_of (Some it)
    what (AFile mode content) = refl
    what (ADir mode) = refl
    what (ALink text) = refl

empty-mode : (it : TreeNode) → mode_of (Some (replaced [] it)) ≡ mode_of (Some it)
empty-mode (AFile mode content) = refl
empty-mode (ADir mode) = refl
empty-mode (ALink text) = refl

empty-bytes : (o : Option TreeNode) → file_bytes (option_map (replaced []) o) ≡ []
empty-bytes None = refl
empty-bytes (Some (AFile mode content)) = refl
empty-bytes (Some (ADir mode)) = refl
empty-bytes (Some (ALink text)) = refl

-- what makes something, where it hasn't yet
pub simulates-once : (w : World) (r s : ℕ) (given : Given kernel.World) (x : Does) → w.used r s ≡ false → Simulates w given (ends_in w x)
    → Simulates w given (ends_in w (once r s x))
simulates-once w r s given x fresh h = simulates-reads w given (One (Used r s)) (Flag false) (once_by x) (ap Flag fresh) h

module _ (w : World) (refs : RefsHeld) (r s : ℕ) (fresh : w.used r s ≡ false) where
  abbrev me : Name
  me = Made r s 0 420

  module _ (n : ℕ) (file : is_file (node_at w.held.tree n) ≡ true) (there : is_there (node_at w.held.tree n) ≡ true) where
    no-read : (b : Bool) → false ≡ true → b ≡ false
    no-read b e = absurd (clash false e refl)

    opens-found : (h : How) → Becomes w (with_open (with_tree w.held (emptied h w.held.tree n)) (opening.description h n))
        (uses r s ∷ empties h (w.nodes.name_of n) ++ opens (Made r s 0 420) h (w.nodes.name_of n) ∷ [])
    opens-found how.Read =
        becomes-on w w.held _ (uses r s ∷ []) (opens (Made r s 0 420) how.Read (w.nodes.name_of n) ∷ []) (mark w r s)
        (add-open (mark-next w r s) r s 0 420 (opening.description how.Read n) (marked w r s) (w.unused r s 0 420 fresh).1
        (record { stands = file; plain = λ e. refl }))
    opens-found how.Append =
        becomes-on w w.held _ (uses r s ∷ []) (opens (Made r s 0 420) how.Append (w.nodes.name_of n) ∷ []) (mark w r s)
        (add-open (mark-next w r s) r s 0 420 (opening.description how.Append n) (marked w r s) (w.unused r s 0 420 fresh).1
        (record { stands = file; plain = no-read true }))
    opens-found how.Make =
        let emptied-one = set-bytes (mark-next w r s) (w.nodes.name_of n) n (node-back w n there) (replaced []) keeps-empty empty-mode (Sets (Bytes []))
        (ap Bytes (empty-bytes (node_at w.held.tree n))) in
        becomes-on w w.held _ (uses r s ∷ []) ((BytesOf (w.nodes.name_of n), Sets (Bytes [])) ∷ opens (Made r s 0 420) how.Make (w.nodes.name_of n) ∷ [])
        (mark w r s)
        (becomes-on (mark-next w r s) _ _ ((BytesOf (w.nodes.name_of n), Sets (Bytes [])) ∷ []) (opens (Made r s 0 420) how.Make (w.nodes.name_of n) ∷ [])
        emptied-one
        (add-open emptied-one.next r s 0 420 (opening.description how.Make n) (marked w r s) (w.unused r s 0 420 fresh).1
        (record {
          stands = kept (mark-next w r s) (w.nodes.name_of n) n (node-back w n there) (replaced []) keeps-empty is_file
              (λ it. ap is_file_what (keeps-empty.what it)) n ∙ file;
          plain = no-read false;
        })))

  pub open-node : (h : How) (n : ℕ) (o : Option TreeNode) → node_at w.held.tree n ≡ o → is_there o ≡ true → is_link o ≡ false
      → Simulates w (unless w.held refs ((is_dir o, IsDir) ∷ (lacks h (mode_of o), Denied) ∷ []) (opening.opened w.held refs (emptied h w.held.tree n) h n))
      (ends_in w (open_what r s h (w.nodes.name_of n) (what_of o)))
  open-node h n None is t l = absurd (clash false t refl)
  open-node h n (Some (AFile mode content)) is t l =
      simulates-reads w _ (One (ModeOf (w.nodes.name_of n))) (Mode mode) (open_mode r s h (w.nodes.name_of n))
      (mode-read w n (ap is_there is) ∙ ap (λ o. Mode (mode_of o)) is)
      (simulates-unless w refs (lacks h mode) (lacks h mode) Denied [] (opening.opened w.held refs (emptied h w.held.tree n) h n)
      (Ends answer.Opened (uses r s ∷ empties h (w.nodes.name_of n) ++ opens (Made r s 0 420) h (w.nodes.name_of n) ∷ [])) refl
      (λ ok. record { answer = refl; after = opens-found n (ap is_file is) (ap is_there is) h }))
  open-node h n (Some (ADir mode)) is t l = simulates-no w refs IsDir
  open-node h n (Some (ALink text)) is t l = absurd (clash true refl l)

-- Pipe

other-part : (r s : ℕ) → same_name (Made r s 0 0) (Made r s 1 0) ≡ false
other-part r s = ap₂ (λ a b. a && (b && ((0 == 1) && (0 == 0)))) (equal r) (equal s)

pub pipes : law.Pipes
pipes w refs r s fresh = simulates-once w r s _ (Ends answer.Piped (makes_pipe r s)) fresh (record { answer = refl; after = made })
  where
    below : (n : ℕ) → n < suc n
    below n = omega arith

    made : Becomes w (with_pipe w.held) (makes_pipe r s)
    made =
        let w1 = mark-next w r s in
        let a2 = add-pipe w1 r s 0 0 (marked w r s) (w.unused r s 0 0 fresh).2 in
        let stands : length w.held.pipes < length (w.held.pipes ++ [] ∷ []) = subst (λ c. length w.held.pipes < c) (sym (length-more w.held.pipes []))
        (below (length w.held.pipes)) in
        let a3 = add-open a2.next r s 0 0 (read_end (length w.held.pipes)) (marked w r s) (w.unused r s 0 0 fresh).1
        (record { stands = stands; plain = λ e. refl }) in
        let a4 = add-open a3.next r s 1 0 (write_end (length w.held.pipes)) (marked w r s)
        (ap (λ b. if b then Some (length w.held.opens) else w.opens.number_of (Made r s 1 0)) (other-part r s) ∙ (w.unused r s 1 0 fresh).1)
        (record { stands = stands; plain = λ e. refl }) in
        subst (λ b. Becomes w (with_pipe w.held) (uses r s
        ∷ (OpenOf (Made r s 0 0), Sets (Opened (Some (pipe_read (if b then Made r s 0 0 else w.pipes.name_of (length w.held.pipes))))))
        ∷ (OpenOf (Made r s 1 0), Sets (Opened (Some (pipe_write (if b then Made r s 0 0 else w.pipes.name_of (length w.held.pipes)))))) ∷ []))
        (equal (length w.held.pipes))
        (becomes-on w w.held _ (uses r s ∷ []) _ (mark w r s)
        (becomes-on w1 _ _ [] _ a2 (becomes-on a2.next _ _ (_ ∷ []) (_ ∷ []) a3 a4)))
