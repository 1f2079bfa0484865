-- The folder allows the calls that are made for rows, one after another.
use Rattle.std.proofs.Common.{◌≡◌, List, [], ◌∷◌, reverse, Bool, true, cond, ◌⊎◌, inl, inr, Option, Some, None, refl, sym, ap, subst, ◌∙◌}
use Rattle.std.specs.List.{filter_map, cons_option}
use Rattle.std.specs.Ordering.{eq_by_cmp}
use Rattle.std.specs.declared.cmp.Ordering.TheVariants.{Less}
use Rattle.std.specs.Cmp.{eq_by_cmp_equiv}
use Rattle.std.specs.Cmp.Lexicographic.{nat_list_cmp_total}
use Rattle.std.specs.FinMap.{find}
use Rattle.rk_base.specs.Text.{Text, text_cmp}
use Rattle.rk_folder.specs.Told.{Held, standing}
use Rattle.rk_folder.specs.declared.folder.Standing.{Standing}
use Rattle.rk_tree.specs.Node.{Node as Entry}
use Rattle.rk_seal.specs.declared.ops.Op.{Op}
use Rattle.rk_seal.specs.Effects.{allowed, step, after_all, AllowsAll}
use Rattle.rk_changes.proofs.OrderLemmas.{clash, Below, InOrder, below_first, below_rest, in_order_first, in_order_rest, find_below, find_first, find_other, below_cons, less-not_tied, less_clash}
use Rattle.rk_tree.proofs.TextLemmas.{told_apart, ties_itself}
use Rattle.rk_changes.proofs.ReachLemmas.{standing-step, at_maybe, at_own, at_other, own_row, Makes, KeepsPath, made, made_at, odd-after, standing-after, at_end-rows_back, AllowsAll-append, cons_end, reverse_cons_option}

abbrev pub Rows : Type 0
Rows = List (Text × Entry)

abbrev step_maybe : Option Op → Held → Held
step_maybe None held = held
step_maybe (Some op) held = step op held

standing-maybe : (op : Option Op) (held : Held) (q : Text) → standing (step_maybe op held) q ≡ at_maybe op q (standing held q)
standing-maybe None held q = refl
standing-maybe (Some op) held q = standing-step op held q

tied_below : (q : Text) (row : Text × Entry) (rows : Rows) → Below q (row ∷ rows) → eq_by_cmp text_cmp q row.0 ≡ true → ⊥
tied_below q row rows b e = clash _ e (less-not_tied q row.0 (below_first q row rows b))

-- The calls of the rows up to here were made: what stands at each path.
abbrev pub Between : Makes → Rows → (Text → Option Standing) → Held → Rows → Type 0
Between make all stood held rows =
    (q : Text) → ((find text_cmp q all ≡ find text_cmp q rows) × (standing held q ≡ stood q))
    ⊎ (Below q rows × (standing held q ≡ made make q (find text_cmp q all) (stood q)))

between_more : (make : Makes) → KeepsPath make → (all : Rows) (stood : Text → Option Standing) (held : Held) (row : Text × Entry) (rows : Rows) → InOrder (row ∷ rows) → Between make all stood held (row ∷ rows) → Between make all stood (step_maybe (make row) held) rows
between_more make keeps all stood held row rows o h q = elim (told_apart q row.0) [
  | inl same ↦ elim (h q) [
    | inl now ↦ inr (
      subst (λ (p : Text). Below p rows) (sym same.0) (in_order_first row rows o),
      standing-maybe (make row) held q ∙ at_own (make row) row.0 q _ (keeps row) same.1 ∙ ap (made_at (make row)) now.1 ∙ own_row make row q (stood q) same.0
          ∙ sym (ap (λ (found : Option Entry). made make q found (stood q)) (now.0 ∙ ap (λ (b : Bool). cond b (Some row.1) (find text_cmp q rows)) same.1)),
    )
    | inr past ↦ absurd (tied_below q row rows past.0 same.1)
  ]
  | inr other ↦
      let still : standing (step_maybe (make row) held) q ≡ standing held q = standing-maybe (make row) held q ∙ at_other (make row) row.0 q _ (keeps row) other.1 in
      elim (h q) [
        | inl now ↦ inl (now.0 ∙ find_other q row rows other.1, still ∙ now.1)
        | inr past ↦ inr (below_rest q row rows past.0, still ∙ past.1)
      ]
]

-- what is known where the call of a row is to be made
abbrev pub Allowing : Makes → Rows → (Text → Option Standing) → Type 0
Allowing make all stood =
    (row : Text × Entry) (op : Op) (held : Held) → find text_cmp row.0 all ≡ Some row.1 → make row ≡ Some op → standing held row.0 ≡ stood row.0
    → ((q : Text) → text_cmp q row.0 ≡ Less → standing held q ≡ made make q (find text_cmp q all) (stood q)) → allowed op held ≡ true

at_row : (make : Makes) (all : Rows) (stood : Text → Option Standing) (held : Held) (row : Text × Entry) (rows : Rows) → Between make all stood held (row ∷ rows) → (find text_cmp row.0 all ≡ Some row.1) × (standing held row.0 ≡ stood row.0)
at_row make all stood held row rows h = elim (h row.0) [
  | inl now ↦ (now.0 ∙ find_first row rows, now.1)
  | inr past ↦ absurd (tied_below row.0 row rows past.0 (ties_itself row.0))
]

before_row : (make : Makes) (all : Rows) (stood : Text → Option Standing) (held : Held) (row : Text × Entry) (rows : Rows) → InOrder (row ∷ rows) → Between make all stood held (row ∷ rows) → (q : Text) → text_cmp q row.0 ≡ Less → standing held q ≡ made make q (find text_cmp q all) (stood q)
before_row make all stood held row rows o h q less = elim (h q) [
  | inl now ↦ now.1 ∙ sym (ap (λ (found : Option Entry). made make q found (stood q)) (now.0 ∙ find_below q (row ∷ rows) (below_cons q row rows less (in_order_first row rows o))))
  | inr past ↦ past.1
]

pub allows-rows : (make : Makes) → KeepsPath make → (all : Rows) (stood : Text → Option Standing) → Allowing make all stood → (rows : Rows) → InOrder rows → (held : Held) → Between make all stood held rows → AllowsAll (filter_map make rows) held
allows-rows make keeps all stood good [] o held h = tt
allows-rows make keeps all stood good (row ∷ rows) o held h =
    let here = at_row make all stood held row rows h in
    let later : AllowsAll (filter_map make rows) (step_maybe (make row) held) = allows-rows make keeps all stood good rows (in_order_rest row rows o) (step_maybe (make row) held) (between_more make keeps all stood held row rows o h) in
    elim (make row) as (λ (op : Option Op). make row ≡ op → AllowsAll (filter_map make rows) (step_maybe op held) → AllowsAll (cons_option op (filter_map make rows)) held) [
      | None ↦ λ e k. k
      | Some op ↦ λ e k. (good row op held here.0 e here.1 (before_row make all stood held row rows o h), k)
    ] refl later

-- From the last row to the first.

abbrev pub Above : Rows → Rows → Type 0
Above all rows = (q : Text) → (find text_cmp q all ≡ find text_cmp q rows) ⊎ Below q rows

above_more : (all : Rows) (row : Text × Entry) (rows : Rows) → InOrder (row ∷ rows) → Above all (row ∷ rows) → Above all rows
above_more all row rows o h q = elim (h q) [
  | inl now ↦ elim (told_apart q row.0) [
    | inl same ↦ inr (subst (λ (p : Text). Below p rows) (sym same.0) (in_order_first row rows o))
    | inr other ↦ inl (now ∙ find_other q row rows other.1)
  ]
  | inr past ↦ inr (below_rest q row rows past)
]

-- what is known where the call of a row is to be made
abbrev pub AllowingBack : Makes → Rows → Held → Type 0
AllowingBack make all old =
    (row : Text × Entry) (op : Op) (held : Held) → find text_cmp row.0 all ≡ Some row.1 → make row ≡ Some op → held.odd ≡ old.odd → standing held row.0 ≡ standing old row.0
    → ((q : Text) → text_cmp row.0 q ≡ Less → standing held q ≡ made make q (find text_cmp q all) (standing old q))
    → ((q : Text) → (standing held q ≡ standing old q) ⊎ (standing held q ≡ made make q (find text_cmp q all) (standing old q))) → allowed op held ≡ true

module _ (make : Makes) (keeps : KeepsPath make) (all : Rows) (old : Held) where
  reached : (rows : Rows) → InOrder rows → (q : Text) → standing (after_all (reverse (filter_map make rows)) old) q ≡ made make q (find text_cmp q rows) (standing old q)
  reached rows o q = standing-after (reverse (filter_map make rows)) old q ∙ at_end-rows_back make keeps rows o q (standing old q)

  found_here : (row : Text × Entry) (rows : Rows) → Above all (row ∷ rows) → find text_cmp row.0 all ≡ Some row.1
  found_here row rows h = elim (h row.0) [
    | inl now ↦ now ∙ find_first row rows
    | inr past ↦ absurd (tied_below row.0 row rows past (ties_itself row.0))
  ]

  reached_above : (row : Text × Entry) (rows : Rows) → InOrder (row ∷ rows) → Above all (row ∷ rows) → (q : Text) → text_cmp row.0 q ≡ Less → standing (after_all (reverse (filter_map make rows)) old) q ≡ made make q (find text_cmp q all) (standing old q)
  reached_above row rows o h q less = elim (h q) [
    | inl now ↦
        reached rows (in_order_rest row rows o) q
        ∙ sym (ap (λ (found : Option Entry). made make q found (standing old q)) (now ∙ find_other q row rows ((eq_by_cmp_equiv nat_list_cmp_total).symm q row.0 ∙ less-not_tied row.0 q less)))
    | inr past ↦ absurd (less_clash row.0 q less (below_first q row rows past))
  ]

  reached_any : (row : Text × Entry) (rows : Rows) → InOrder (row ∷ rows) → Above all (row ∷ rows) → (q : Text) → (standing (after_all (reverse (filter_map make rows)) old) q ≡ standing old q) ⊎ (standing (after_all (reverse (filter_map make rows)) old) q ≡ made make q (find text_cmp q all) (standing old q))
  reached_any row rows o h q = elim (above_more all row rows o h q) [
    | inl now ↦ inr (reached rows (in_order_rest row rows o) q ∙ sym (ap (λ (found : Option Entry). made make q found (standing old q)) now))
    | inr past ↦ inl (reached rows (in_order_rest row rows o) q ∙ ap (λ (found : Option Entry). made make q found (standing old q)) (find_below q rows past))
  ]

  pub allows-rows_back : AllowingBack make all old → (rows : Rows) → InOrder rows → Above all rows → AllowsAll (reverse (filter_map make rows)) old
  allows-rows_back good [] o h = tt
  allows-rows_back good (row ∷ rows) o h =
      let later : AllowsAll (reverse (filter_map make rows)) old = allows-rows_back good rows (in_order_rest row rows o) (above_more all row rows o h) in
      let own : standing (after_all (reverse (filter_map make rows)) old) row.0 ≡ standing old row.0 = reached rows (in_order_rest row rows o) row.0 ∙ ap (λ (found : Option Entry). made make row.0 found (standing old row.0)) (find_below row.0 rows (in_order_first row rows o)) in
      subst (λ (ops : List Op). AllowsAll ops old) (sym (reverse_cons_option (make row) (filter_map make rows))) (
      elim (make row) as (λ (op : Option Op). make row ≡ op → AllowsAll (cons_end op (reverse (filter_map make rows))) old) [
        | None ↦ λ e. later
        | Some op ↦ λ e. AllowsAll-append (reverse (filter_map make rows)) (op ∷ []) old later (
          good row op (after_all (reverse (filter_map make rows)) old) (found_here row rows h) e (odd-after (reverse (filter_map make rows)) old) own (reached_above row rows o h) (reached_any row rows o h),
          tt,
        )
      ] refl)
