-- Open, Mkdir and Symlink.
use Rattle.std.proofs.Common.{◌≡◌, ℕ, ◌≤◌, [], ◌∷◌, length, true, false, Option, Some, None, refl, ◌∙◌, ap, subst, arith}
use Rattle.std.specs.Prelude.{if◌then◌else◌, nat_lt, ◌≢◌}
use Rattle.rk_base.specs.Text.{Text}
use Rattle.rk_base.specs.Canonical.{has_nul, is_empty}
use Rattle.rk_base.specs.declared.errno.Errno.TheVariants.{NoEntry, Exists, Denied, Invalid}
use Rattle.rk_calls.specs.Given.{Given}
use Rattle.rk_calls.specs.Refs.{RefsHeld}
use Rattle.rk_calls.specs.declared.call.How.{How}
use Rattle.rk_calls.specs.declared.call.How.TheVariants as how
use Rattle.rk_calls.specs.declared.answer.Answer.TheVariants as answer
use Rattle.rk_tree.specs.Entries.{is_dir, IsFit}
use Rattle.rk_tree.specs.declared.content.Content.TheVariants.{Own}
use Rattle.rk_tree.specs.Hierarchy.{node as node_at, mode_of, file_bytes, added}
use Rattle.rk_tree.specs.Node.{Node as TreeNode, File as AFile, Dir as ADir, Link as ALink}
use Rattle.rk_tree.specs.Refusals.{is_there, lacks_w}
use Rattle.rk_walk.specs.Places.{IsFreeName}
use Rattle.rk_walk.specs.declared.place.Place.TheVariants as place
use Rattle.rk_kernel.specs.World as kernel
use Rattle.rk_kernel.specs.World.{with_tree, with_open}
use Rattle.rk_kernel.specs.Rows.{unless, done, at_place, lacks_w_at}
use Rattle.rk_kernel.specs.Rows.{strict as kernel_strict}
use Rattle.rk_kernel.specs.Opening.{is_read}
use Rattle.rk_kernel.specs.Opening as opening
use Rattle.rk_kernel.specs.Changes as change
use Rattle.rk_waves.specs.Programs.{One, Sets, Ends}
use Rattle.rk_feet.specs.Named.{Made, File, Dir, Link, OpenOf, EntryOf, ModeOf, Entry, Mode, Opened, Does}
use Rattle.rk_feet.specs.NamingLemmas.{clash}
use Rattle.rk_feet.specs.Ways.{Absent}
use Rattle.rk_feet.specs.Course.{what_of}
use Rattle.rk_feet.specs.Checks.{strict, no, writing, writing_mode}
use Rattle.rk_feet.specs.Opening.{description, opens, uses, makes_file, open_at, open_path}
use Rattle.rk_feet.specs.Changing.{makes, mkdir_absent, mkdir_at, mkdir_path, symlink_found, symlink_at, symlink_path}
use Rattle.rk_feet.specs.World.{World, is_file}
use Rattle.rk_feet.specs.Simulates.{Becomes, Simulates, ends_in}
use Rattle.rk_feet.specs.Laws as law
use Rattle.rk_feet.proofs.LeadingLemmas.{Standing}
use Rattle.rk_feet.proofs.SimulationLemmas.{simulates-no, simulates-unless, simulates-reads, becomes-on}
use Rattle.rk_feet.proofs.MakingLemmas.{mark, mark-next, marked, add-open}
use Rattle.rk_feet.proofs.NodeMakingLemmas.{add-node, nodes-length, node-new, name-new}
use Rattle.rk_feet.proofs.OpeningLemmas.{simulates-once, open-node}
use Rattle.rk_feet.proofs.ChmodLemmas.{few-is}
use Rattle.rk_feet.proofs.PlaceLemmas.{by-path, mode-read}
use Rattle.rk_feet.proofs.QuestionLemmas.{strict-absent}
use Rattle.rk_feet.specs.World.{IsSource}
use Rattle.rk_feet.specs.World.{description_named}

pub there-dir : (o : Option TreeNode) → is_dir o ≡ true → is_there o ≡ true
there-dir None h = absurd (clash false h refl)
there-dir (Some it) h = refl

-- a directory that gains or loses a name needs `w`
pub simulates-writing :
    (w : World) (refs : RefsHeld) (d : ℕ) (given : Given kernel.World) (x : Does) → is_dir (node_at w.held.tree d) ≡ true → Simulates w given (ends_in w x)
    → Simulates w (unless w.held refs ((lacks_w w.held.tree d, Denied) ∷ []) given) (ends_in w (writing (w.nodes.name_of d) x))
simulates-writing w refs d given x dir h =
    simulates-reads w _ (One (ModeOf (w.nodes.name_of d))) (Mode (mode_of (node_at w.held.tree d))) (writing_mode x)
    (mode-read w d (there-dir (node_at w.held.tree d) dir))
    (simulates-unless w refs (lacks_w w.held.tree d) (lacks_w w.held.tree d) Denied [] given x refl (λ ok. h))

module _ (w : World) (refs : RefsHeld) (r s : ℕ) (fresh : w.used r s ≡ false) (d : ℕ) (name : Text) (is : IsFreeName w.held.tree d name)
    (stands_at : Standing w.held.tree d) where
  node-made : (m : ℕ) (it : TreeNode) → IsFit it → mode_of (Some it) ≡ m → file_bytes (Some it) ≡ []
      → Becomes w (with_tree w.held (added w.held.tree d name it)) (makes r s m (what_of (Some it)) (w.nodes.name_of d) name)
  node-made m it fit modes empty =
      becomes-on w w.held _ (uses r s ∷ []) _ (mark w r s)
      (add-node (mark-next w r s) r s 0 m (marked w r s) (w.unused r s 0 m fresh).0 d name it is stands_at.1 fit modes empty)

  blank : TreeNode
  blank = AFile 420 (Own [])

  file-fit : 420 ≤ 511
  file-fit = omega arith

  plain-open : (h : How) (n : ℕ) → (opening.description h n).read ≡ true → (opening.description h n).append ≡ false
  plain-open how.Read n e = refl
  plain-open how.Make n e = refl
  plain-open how.Append n e = absurd (clash false e refl)

  source-open : (h : How) (n : ℕ) → (opening.description h n).source ≡ Rattle.rk_kernel.specs.declared.description.Source.TheVariants.Node n
  source-open how.Read n = refl
  source-open how.Make n = refl
  source-open how.Append n = refl

  file-made : (h : How)
      → Becomes w (with_open (with_tree w.held (added w.held.tree d name (AFile 420 (Own [])))) (opening.description h (length w.held.tree.nodes)))
      (uses r s ∷ (EntryOf (w.nodes.name_of d) name, Sets (Entry (Some (record { name = Made r s 0 420; what = File }))))
      ∷ opens (Made r s 0 420) h (Made r s 0 420) ∷ [])
  file-made h =
      let w1 = mark-next w r s in
      let a = add-node w1 r s 0 420 (marked w r s) (w.unused r s 0 420 fresh).0 d name (AFile 420 (Own [])) is stands_at.1 file-fit refl refl in
      let number = nodes-length w1 r s 0 420 (marked w r s) (w.unused r s 0 420 fresh).0 d name (AFile 420 (Own [])) is stands_at.1 file-fit refl refl in
      let file : is_file (node_at a.next.held.tree (length w.held.tree.nodes)) ≡ true =
      ap (λ n. is_file (node_at a.next.held.tree n)) number
      ∙ ap is_file (node-new w1 r s 0 420 (marked w r s) (w.unused r s 0 420 fresh).0 d name (AFile 420 (Own [])) is stands_at.1 file-fit refl refl) in
      let named : a.next.nodes.name_of (length w.held.tree.nodes) ≡ Made r s 0 420 =
      ap a.next.nodes.name_of number ∙ name-new w1 r s 0 420 (marked w r s) (w.unused r s 0 420 fresh).0 d name (AFile 420 (Own [])) is stands_at.1 file-fit
      refl refl in
      becomes-on w w.held _ (uses r s ∷ []) _ (mark w r s)
      (becomes-on w1 _ _ (_ ∷ []) (_ ∷ []) a
      (subst (λ v. Becomes a.next (with_open (with_tree w.held (added w.held.tree d name (AFile 420 (Own []))))
      (opening.description h (length w.held.tree.nodes))) ((OpenOf (Made r s 0 420), Sets (Opened (Some v))) ∷ []))
      (value h a.next named)
      (add-open a.next r s 0 420 (opening.description h (length w.held.tree.nodes)) (marked w r s) (w.unused r s 0 420 fresh).1
      (record { stands = stood h a.next file; plain = plain-open h (length w.held.tree.nodes) }))))
    where
      value : (h : How) (v : World) → v.nodes.name_of (length w.held.tree.nodes) ≡ Made r s 0 420
          → description_named v (opening.description h (length w.held.tree.nodes)) ≡ description h (Made r s 0 420)
      value how.Read v e = ap (λ n. description how.Read n) e
      value how.Make v e = ap (λ n. description how.Make n) e
      value how.Append v e = ap (λ n. description how.Append n) e

      stood : (h : How) (v : World) → is_file (node_at v.held.tree (length w.held.tree.nodes)) ≡ true
          → IsSource v.held.tree v.held.pipes (opening.description h (length w.held.tree.nodes)).source
      stood how.Read v e = e
      stood how.Make v e = e
      stood how.Append v e = e

  open-absent : (h : How)
      → Simulates w (opening.open_at w.held refs h (place.Absent d name false)) (ends_in w (open_at r s h (Absent (w.nodes.name_of d) name false)))
  open-absent h =
      simulates-unless w refs (is_read h) (is_read h) NoEntry ((lacks_w w.held.tree d, Denied) ∷ []) _
      (writing (w.nodes.name_of d) (makes_file r s h (w.nodes.name_of d) name)) refl
      (λ reads. simulates-writing w refs d _ (makes_file r s h (w.nodes.name_of d) name) is.holds.in_dir (record { answer = refl; after = file-made h }))

pub opens-paths : law.Opens
opens-paths w refs r s path h fresh =
    simulates-once w r s _ (open_path r s path h) fresh
    (by-path w (strict (open_at r s h)) (λ spot. at_place w.held refs (kernel_strict spot) (opening.open_at w.held refs h)) path true
    (λ e. simulates-no w refs e)
    (λ here is plain. open-node w refs r s fresh h here.node (node_at w.held.tree here.node) refl is.there (plain refl))
    (λ dir name slash is at_dir. strict-absent w refs (opening.open_at w.held refs h) (open_at r s h) dir name slash
    (open-absent w refs r s fresh dir name is at_dir h)))

-- Mkdir

pub makes-dirs : law.MakesDirs
makes-dirs w refs r s path m fresh =
    simulates-once w r s _ (mkdir_path r s path m) fresh
    (by-path w (mkdir_at r s m) (λ spot. at_place w.held refs spot (change.mkdir_at w.held refs m)) path false (λ e. simulates-no w refs e)
    (λ here is plain. simulates-unless w refs (nat_lt 511 m) (nat_lt 511 m) Invalid ((true, Exists) ∷ (lacks_w_at w.held (place.Found here), Denied) ∷ [])
    (done w.held refs (change.added_at w.held.tree here.up (ADir m))) (no Exists) refl (λ few. simulates-no w refs Exists))
    (λ dir name slash is at_dir.
    simulates-unless w refs (nat_lt 511 m) (nat_lt 511 m) Invalid ((false, Exists) ∷ (lacks_w w.held.tree dir, Denied) ∷ [])
    (done w.held refs (added w.held.tree dir name (ADir m))) (mkdir_absent r s m (w.nodes.name_of dir) name) refl
    (λ few. simulates-writing w refs dir (done w.held refs (added w.held.tree dir name (ADir m)))
    (Ends answer.Done (makes r s m Dir (w.nodes.name_of dir) name)) is.holds.in_dir
    (record { answer = refl; after = node-made w refs r s fresh dir name is at_dir m (ADir m) (few-is m few) refl refl }))))

-- Symlink

some-text : (text : Text) → is_empty text ≡ false → text ≢ []
some-text [] e same = clash true refl e
some-text (b ∷ bs) e same = clash false (ap is_empty same) refl

pub makes-links : law.MakesLinks
makes-links w refs r s text path fresh =
    simulates-once w r s _ (symlink_path r s text path) fresh
    (by-path w (strict (symlink_at r s text)) (λ spot. at_place w.held refs (kernel_strict spot) (change.symlink_at w.held refs text)) path false
    (λ e. simulates-no w refs e)
    (λ here is plain.
    simulates-unless w refs (is_empty text) (is_empty text) NoEntry
    ((has_nul text, Invalid) ∷ (true, Exists) ∷ (lacks_w_at w.held (place.Found here), Denied) ∷ [])
    (done w.held refs (change.added_at w.held.tree here.up (ALink text))) (if has_nul text then no Invalid else no Exists) refl
    (λ full. simulates-unless w refs (has_nul text) (has_nul text) Invalid ((true, Exists) ∷ (lacks_w_at w.held (place.Found here), Denied) ∷ [])
    (done w.held refs (change.added_at w.held.tree here.up (ALink text))) (no Exists) refl (λ none. simulates-no w refs Exists)))
    (λ dir name slash is at_dir. strict-absent w refs (change.symlink_at w.held refs text) (symlink_at r s text) dir name slash
    (simulates-unless w refs (is_empty text) (is_empty text) NoEntry ((has_nul text, Invalid) ∷ (false, Exists) ∷ (lacks_w w.held.tree dir, Denied) ∷ [])
    (done w.held refs (added w.held.tree dir name (ALink text)))
    (if has_nul text then no Invalid else symlink_found r s text (Absent (w.nodes.name_of dir) name false)) refl
    (λ full. simulates-unless w refs (has_nul text) (has_nul text) Invalid ((false, Exists) ∷ (lacks_w w.held.tree dir, Denied) ∷ [])
    (done w.held refs (added w.held.tree dir name (ALink text))) (symlink_found r s text (Absent (w.nodes.name_of dir) name false)) refl
    (λ none. simulates-writing w refs dir (done w.held refs (added w.held.tree dir name (ALink text)))
    (Ends answer.Done (makes r s 511 (Link text) (w.nodes.name_of dir) name)) is.holds.in_dir
    (record { answer = refl; after = node-made w refs r s fresh dir name is at_dir 511 (ALink text) (some-text text full, none) refl refl }))))))
