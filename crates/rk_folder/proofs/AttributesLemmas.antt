-- The entries of a folder with rows: what stands at each path, and that they stay whole.
use Rattle.std.proofs.Common.{◌≡◌, ◌≢◌, ◌≤◌, ◌<◌, ℕ, length, arith, List, [], ◌∷◌, Bool, true, false, not, cond, nat_le, ◌==◌, inl, inr, Option, Some, None, refl, sym, ap, subst, ◌∙◌}
use Rattle.std.specs.List.{list_all}
use Rattle.std.specs.Option.{option_or}
use Rattle.std.specs.Ordering.{eq_by_cmp, is_eq, is_lt}
use Rattle.std.specs.declared.cmp.Ordering.{Ordering}
use Rattle.std.specs.declared.cmp.Ordering.TheVariants.{Less, Equal, Greater}
use Rattle.std.specs.Cmp.Lexicographic.{nat_list_cmp_total}
use Rattle.std.specs.FinMap.{get, find, get-insert}
use Rattle.std.proofs.lemmas.Bool.{leb-true}
use Rattle.std.proofs.lemmas.List.{nil_from_length}
use Rattle.rk_base.specs.Text.{Text, text_cmp, root, hidden, join, parent, is_root, is_within}
use Rattle.rk_base.specs.Canonical.{has_nul, is_canonical, is_empty}
use Rattle.rk_base.proofs.CanonicalLemmas.{both, denied}
use Rattle.rk_tree.specs.Copies.{put_found}
use Rattle.rk_tree.specs.Entries.{Entries, is_dir, IsFit, IsWholeSnapshot}
use Rattle.rk_tree.specs.Node.{Node as Entry, File, Dir, Link}
use Rattle.rk_tree.proofs.TextLemmas.{told_apart, ties_itself}
use Rattle.rk_attrs.specs.Rows.{file_mode, dir_mode, is_mode, is_link_text, suits, is_row, ascend_from, ascend}
use Rattle.rk_attrs.specs.declared.rows.AttrRow.{AttrRow}
use Rattle.rk_attrs.specs.declared.rows.AttrRow.TheVariants as row
use Rattle.rk_attrs.proofs.RowLemmas.{row_parts}
use Rattle.rk_folder.specs.Attributes.{put_by, with_row, with_rows, stands_with}

-- What a row puts.

-- at its own path
put_here : (snapshot : Entries) (path : Text) (o : Option Entry) → get (put_found snapshot path o) path ≡ option_or o (get snapshot path)
put_here snapshot path None = refl
put_here snapshot path (Some it) = get-insert nat_list_cmp_total snapshot path it path ∙ ap (λ (b : Bool). cond b (Some it) (get snapshot path)) (ties_itself path)

-- at another
put_there : (snapshot : Entries) (path : Text) (o : Option Entry) (q : Text) → eq_by_cmp text_cmp q path ≡ false → get (put_found snapshot path o) q ≡ get snapshot q
put_there snapshot path None q e = refl
put_there snapshot path (Some it) q e = get-insert nat_list_cmp_total snapshot path it q ∙ ap (λ (b : Bool). cond b (Some it) (get snapshot q)) e

-- directories stay, and no other comes
put_dir : (it : AttrRow) (d : Bool) (o : Option Entry) → is_dir (option_or (put_by it d o) o) ≡ is_dir o
put_dir (row.FileMode mode) d None = refl
put_dir (row.FileMode mode) d (Some (File old bytes)) = refl
put_dir (row.FileMode mode) d (Some (Dir old)) = refl
put_dir (row.FileMode mode) d (Some (Link text)) = refl
put_dir (row.DirMode mode) d None = refl
put_dir (row.DirMode mode) d (Some (File old bytes)) = refl
put_dir (row.DirMode mode) d (Some (Dir old)) = refl
put_dir (row.DirMode mode) d (Some (Link text)) = refl
put_dir (row.Link text) true None = refl
put_dir (row.Link text) false None = refl
put_dir (row.Link text) d (Some it) = refl

-- what a row puts where its path is, by what stands there
abbrev puts : Entries → Text × AttrRow → Option Entry
puts snapshot row = put_by row.1 (is_dir (get snapshot (parent row.0))) (get snapshot row.0)

row_here : (snapshot : Entries) (row : Text × AttrRow) (q : Text) → q ≡ row.0 → get (with_row snapshot row) q ≡ option_or (puts snapshot row) (get snapshot row.0)
row_here snapshot row q e = ap (λ (p : Text). get (with_row snapshot row) p) e ∙ put_here snapshot row.0 (puts snapshot row)

row_there : (snapshot : Entries) (row : Text × AttrRow) (q : Text) → eq_by_cmp text_cmp q row.0 ≡ false → get (with_row snapshot row) q ≡ get snapshot q
row_there snapshot row q e = put_there snapshot row.0 (puts snapshot row) q e

same_dirs : (snapshot : Entries) (row : Text × AttrRow) (q : Text) → is_dir (get (with_row snapshot row) q) ≡ is_dir (get snapshot q)
same_dirs snapshot row q = elim (told_apart q row.0) [
  | inl same ↦ ap is_dir (row_here snapshot row q same.0) ∙ put_dir row.1 (is_dir (get snapshot (parent row.0))) (get snapshot row.0) ∙ ap (λ (p : Text). is_dir (get snapshot p)) (sym same.0)
  | inr other ↦ ap is_dir (row_there snapshot row q other.1)
]

-- What stands at each path.

less : (o : Ordering) → is_lt o ≡ true → o ≡ Less
less Less h = refl
less Equal h = cc
less Greater h = cc

-- a path below the first has no row
below_none : (q p : Text) (rows : List (Text × AttrRow)) → text_cmp q p ≡ Less → ascend_from p rows ≡ true → find text_cmp q rows ≡ None
below_none q p [] l h = refl
below_none q p (row ∷ rows) l h =
    let up = both (is_lt (text_cmp p row.0)) (ascend_from row.0 rows) h in
    let below : text_cmp q row.0 ≡ Less = nat_list_cmp_total.trans q p row.0 l (less (text_cmp p row.0) up.0) in
    ap (λ (b : Bool). cond b (Some row.1) (find text_cmp q rows)) (ap is_eq below) ∙ below_none q row.0 rows below up.1

-- a path has one row
one_row : (p : Text) (rows : List (Text × AttrRow)) → ascend_from p rows ≡ true → find text_cmp p rows ≡ None
one_row p [] h = refl
one_row p (row ∷ rows) h =
    let up = both (is_lt (text_cmp p row.0)) (ascend_from row.0 rows) h in
    let below : text_cmp p row.0 ≡ Less = less (text_cmp p row.0) up.0 in
    ap (λ (b : Bool). cond b (Some row.1) (find text_cmp p rows)) (ap is_eq below) ∙ below_none p row.0 rows below up.1

still_ascend : (p : Text) (rows : List (Text × AttrRow)) → ascend_from p rows ≡ true → ascend rows ≡ true
still_ascend p [] h = refl
still_ascend p (row ∷ rows) h = (both (is_lt (text_cmp p row.0)) (ascend_from row.0 rows) h).1

pub get-with_rows : (snapshot : Entries) (rows : List (Text × AttrRow)) (path : Text) → ascend rows ≡ true
    → get (with_rows snapshot rows) path ≡ stands_with (find text_cmp path rows) (is_dir (get snapshot (parent path))) (get snapshot path)
get-with_rows snapshot [] path h = refl
get-with_rows snapshot (row ∷ rows) path h =
    let again = get-with_rows (with_row snapshot row) rows path (still_ascend row.0 rows h) in
    elim (told_apart path row.0) [
      | inl same ↦
          let none : find text_cmp path rows ≡ None = ap (λ (p : Text). find text_cmp p rows) same.0 ∙ one_row row.0 rows h in
          again
          ∙ ap (λ (r : Option AttrRow). stands_with r (is_dir (get (with_row snapshot row) (parent path))) (get (with_row snapshot row) path)) none
          ∙ row_here snapshot row path same.0
          ∙ ap (λ (p : Text). stands_with (Some row.1) (is_dir (get snapshot (parent p))) (get snapshot p)) (sym same.0)
          ∙ ap (λ (b : Bool). stands_with (cond b (Some row.1) (find text_cmp path rows)) (is_dir (get snapshot (parent path))) (get snapshot path)) (sym same.1)
      | inr other ↦
          again
          ∙ ap (λ (d : Bool). stands_with (find text_cmp path rows) d (get (with_row snapshot row) path)) (same_dirs snapshot row (parent path))
          ∙ ap (stands_with (find text_cmp path rows) (is_dir (get snapshot (parent path)))) (row_there snapshot row path other.1)
          ∙ ap (λ (b : Bool). stands_with (cond b (Some row.1) (find text_cmp path rows)) (is_dir (get snapshot (parent path))) (get snapshot path)) (sym other.1)
    ]

-- The entries stay whole.

nothing : (e : Entry) → None ≡ Some e → ⊥
nothing e h = cc

some_is : (a b : Entry) → Some a ≡ Some b → a ≡ b
some_is a b h = cc

-- what stands is in a directory
put_placed : (it : AttrRow) (d : Bool) (o : Option Entry) (e : Entry) → ((old : Entry) → o ≡ Some old → d ≡ true) → option_or (put_by it d o) o ≡ Some e → d ≡ true
put_placed (row.FileMode mode) d None e h at = absurd (nothing e at)
put_placed (row.FileMode mode) d (Some old) e h at = h old refl
put_placed (row.DirMode mode) d None e h at = absurd (nothing e at)
put_placed (row.DirMode mode) d (Some old) e h at = h old refl
put_placed (row.Link text) true None e h at = refl
put_placed (row.Link text) false None e h at = absurd (nothing e at)
put_placed (row.Link text) d (Some old) e h at = h old refl

mode_fits : (default mode : ℕ) → is_mode default mode ≡ true → mode ≤ 511
mode_fits default mode h = leb-true mode 511 (both (nat_le mode 511) (not (mode == default)) h).0

text_fits : (text : List ℕ) → is_link_text text ≡ true → (text ≢ []) × (has_nul text ≡ false)
text_fits text h =
    let p = both (not (is_empty text)) (not (has_nul text)) h in
    (λ e. empty_clash text (denied (is_empty text) p.0) e, denied (has_nul text) p.1) where
      empty_clash : (text : List ℕ) → is_empty text ≡ false → text ≡ [] → ⊥
      empty_clash [] n e = cc
      empty_clash (b ∷ bs) n e = cc

put_fit : (it : AttrRow) (path : Text) (d : Bool) (o : Option Entry) (e : Entry) → suits path it ≡ true → ((old : Entry) → o ≡ Some old → IsFit old) → option_or (put_by it d o) o ≡ Some e → IsFit e
put_fit (row.FileMode mode) path d None e s h at = absurd (nothing e at)
put_fit (row.FileMode mode) path d (Some (File old bytes)) e s h at = subst IsFit (some_is (File mode bytes) e at) (mode_fits file_mode mode s)
put_fit (row.FileMode mode) path d (Some (Dir old)) e s h at = h e at
put_fit (row.FileMode mode) path d (Some (Link text)) e s h at = h e at
put_fit (row.DirMode mode) path d None e s h at = absurd (nothing e at)
put_fit (row.DirMode mode) path d (Some (File old bytes)) e s h at = h e at
put_fit (row.DirMode mode) path d (Some (Dir old)) e s h at = subst IsFit (some_is (Dir mode) e at) (mode_fits dir_mode mode s)
put_fit (row.DirMode mode) path d (Some (Link text)) e s h at = h e at
put_fit (row.Link text) path true None e s h at = subst IsFit (some_is (Link text) e at) (text_fits text (both (is_link_text text) (not (is_root path)) s).0)
put_fit (row.Link text) path false None e s h at = absurd (nothing e at)
put_fit (row.Link text) path d (Some old) e s h at = h e at

with_row-whole : (snapshot : Entries) (row : Text × AttrRow) → IsWholeSnapshot snapshot → is_row row ≡ true → IsWholeSnapshot (with_row snapshot row)
with_row-whole snapshot row whole is =
    let p = row_parts row is in
    record {
      root_dir = same_dirs snapshot row root ∙ whole.root_dir;
      canonical = λ q e at. elim (told_apart q row.0) [
        | inl same ↦ ap is_canonical same.0 ∙ p.0
        | inr other ↦ whole.canonical q e (sym (row_there snapshot row q other.1) ∙ at)
      ];
      placed = λ q e at. same_dirs snapshot row (parent q) ∙ (elim (told_apart q row.0) [
        | inl same ↦
            ap (λ (t : Text). is_dir (get snapshot (parent t))) same.0
            ∙ put_placed row.1 (is_dir (get snapshot (parent row.0))) (get snapshot row.0) e (λ old there. whole.placed row.0 old there) (sym (row_here snapshot row q same.0) ∙ at)
        | inr other ↦ whole.placed q e (sym (row_there snapshot row q other.1) ∙ at)
      ]);
      unseen = λ q within. elim (told_apart q row.0) [
        | inl same ↦ absurd (seen (is_within (join root hidden) row.0) (sym (ap (is_within (join root hidden)) same.0) ∙ within) p.1)
        | inr other ↦ row_there snapshot row q other.1 ∙ whole.unseen q within
      ];
      fit = λ q e at. elim (told_apart q row.0) [
        | inl same ↦ put_fit row.1 row.0 (is_dir (get snapshot (parent row.0))) (get snapshot row.0) e p.2 (λ old there. whole.fit row.0 old there) (sym (row_here snapshot row q same.0) ∙ at)
        | inr other ↦ whole.fit q e (sym (row_there snapshot row q other.1) ∙ at)
      ];
    } where
      seen : (b : Bool) → b ≡ true → not b ≡ true → ⊥
      seen true h n = cc
      seen false h n = cc

pub with_rows-whole : (snapshot : Entries) (rows : List (Text × AttrRow)) → IsWholeSnapshot snapshot → list_all is_row rows ≡ true → IsWholeSnapshot (with_rows snapshot rows)
with_rows-whole snapshot [] whole is = whole
with_rows-whole snapshot (row ∷ rows) whole is =
    let p = both (is_row row) (list_all is_row rows) is in
    with_rows-whole (with_row snapshot row) rows (with_row-whole snapshot row whole p.0) p.1

-- no rows change nothing
pub with_rows-none : (snapshot : Entries) (rows found : List (Text × AttrRow)) → found ≡ rows → length found < 1 → with_rows snapshot rows ≡ snapshot
with_rows-none snapshot rows found same few =
    let none : length found ≡ 0 = omega (arith, few) in
    ap (with_rows snapshot) (sym same ∙ nil_from_length found none)
