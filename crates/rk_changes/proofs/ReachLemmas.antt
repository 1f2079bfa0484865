-- What stands at a path after calls that were made one after another.
use Rattle.std.proofs.Common.{◌≡◌, List, [], ◌∷◌, ◌++◌, reverse, Bool, true, false, cond, inl, inr, Option, Some, None, refl, sym, ap, ◌∙◌}
use Rattle.std.proofs.lemmas.List.{reverse-append}
use Rattle.std.specs.List.{filter_map, cons_option}
use Rattle.std.specs.Ordering.{eq_by_cmp}
use Rattle.std.specs.Cmp.Lexicographic.{nat_list_cmp_total}
use Rattle.std.specs.FinMap.{find, get-insert, get-remove}
use Rattle.rk_base.specs.Text.{Text, text_cmp}
use Rattle.rk_folder.specs.Told.{Held, standing}
use Rattle.rk_folder.specs.declared.folder.Standing.{Standing}
use Rattle.rk_folder.specs.declared.folder.Standing.TheVariants.{File, Dir}
use Rattle.rk_tree.specs.Node.{Node as Entry}
use Rattle.rk_seal.specs.declared.ops.Op.{Op}
use Rattle.rk_seal.specs.declared.ops.Op.TheVariants.{RemoveFile, RemoveDir, MakeDir, Write}
use Rattle.rk_seal.specs.Ops.{path_of}
use Rattle.rk_seal.specs.Effects.{step, after_all, AllowsAll, left_by}
use Rattle.rk_changes.proofs.OrderLemmas.{InOrder, in_order_first, in_order_rest, find_below, find_other}
use Rattle.rk_tree.proofs.TextLemmas.{told_apart}

abbrev pub at_step : Op → Text → Option Standing → Option Standing
at_step op q it = cond (eq_by_cmp text_cmp q (path_of op)) (left_by op) it

pub standing-step : (op : Op) (held : Held) (q : Text) → standing (step op held) q ≡ at_step op q (standing held q)
standing-step (RemoveFile path) held q = get-remove nat_list_cmp_total held.places path q
standing-step (RemoveDir path) held q = get-remove nat_list_cmp_total held.places path q
standing-step (MakeDir path) held q = get-insert nat_list_cmp_total held.places path Dir q
standing-step (Write path bytes) held q = get-insert nat_list_cmp_total held.places path (File bytes) q

pub odd-step : (op : Op) (held : Held) → (step op held).odd ≡ held.odd
odd-step (RemoveFile path) held = refl
odd-step (RemoveDir path) held = refl
odd-step (MakeDir path) held = refl
odd-step (Write path bytes) held = refl

-- what stands at a path after calls, by what stood there
abbrev pub at_end : List Op → Text → Option Standing → Option Standing
at_end [] q it = it
at_end (op ∷ ops) q it = at_end ops q (at_step op q it)

pub standing-after : (ops : List Op) (held : Held) (q : Text) → standing (after_all ops held) q ≡ at_end ops q (standing held q)
standing-after [] held q = refl
standing-after (op ∷ ops) held q = standing-after ops (step op held) q ∙ ap (at_end ops q) (standing-step op held q)

pub odd-after : (ops : List Op) (held : Held) → (after_all ops held).odd ≡ held.odd
odd-after [] held = refl
odd-after (op ∷ ops) held = odd-after ops (step op held) ∙ odd-step op held

pub at_end-append : (xs ys : List Op) (q : Text) (it : Option Standing) → at_end (xs ++ ys) q it ≡ at_end ys q (at_end xs q it)
at_end-append [] ys q it = refl
at_end-append (op ∷ xs) ys q it = at_end-append xs ys q (at_step op q it)

pub after_all-append : (xs ys : List Op) (held : Held) → after_all (xs ++ ys) held ≡ after_all ys (after_all xs held)
after_all-append [] ys held = refl
after_all-append (op ∷ xs) ys held = after_all-append xs ys (step op held)

pub AllowsAll-append : (xs ys : List Op) (held : Held) → AllowsAll xs held → AllowsAll ys (after_all xs held) → AllowsAll (xs ++ ys) held
AllowsAll-append [] ys held h k = k
AllowsAll-append (op ∷ xs) ys held h k = (h.0, AllowsAll-append xs ys (step op held) h.1 k)

-- A call for each row.

abbrev pub Makes : Type 0
Makes = Text × Entry → Option Op

-- each call is at its row's path
abbrev pub KeepsPath : Makes → Type 0
KeepsPath make = (row : Text × Entry) (op : Op) → make row ≡ Some op → path_of op ≡ row.0

abbrev pub made_at : Option Op → Option Standing → Option Standing
made_at None it = it
made_at (Some op) it = left_by op

-- what the rows' calls leave at a path at which they have this entry
abbrev pub made : Makes → Text → Option Entry → Option Standing → Option Standing
made make q None it = it
made make q (Some entry) it = made_at (make (q, entry)) it

abbrev pub cons_end : Option Op → List Op → List Op
cons_end None ops = ops
cons_end (Some op) ops = ops ++ op ∷ []

pub reverse_cons_option : (op : Option Op) (ops : List Op) → reverse (cons_option op ops) ≡ cons_end op (reverse ops)
reverse_cons_option None ops = refl
reverse_cons_option (Some op) ops = reverse-append (op ∷ []) ops

abbrev pub at_maybe : Option Op → Text → Option Standing → Option Standing
at_maybe None q it = it
at_maybe (Some op) q it = at_step op q it

at_end-cons_option : (op : Option Op) (ops : List Op) (q : Text) (it : Option Standing) → at_end (cons_option op ops) q it ≡ at_end ops q (at_maybe op q it)
at_end-cons_option None ops q it = refl
at_end-cons_option (Some op) ops q it = refl

at_end-cons_end : (op : Option Op) (ops : List Op) (q : Text) (it : Option Standing) → at_end (cons_end op ops) q it ≡ at_maybe op q (at_end ops q it)
at_end-cons_end None ops q it = refl
at_end-cons_end (Some op) ops q it = at_end-append ops (op ∷ []) q it

-- the call of the row at this path, and of one at another
pub at_own : (found : Option Op) (row : Text) (q : Text) (it : Option Standing) → ((op : Op) → found ≡ Some op → path_of op ≡ row) → eq_by_cmp text_cmp q row ≡ true → at_maybe found q it ≡ made_at found it
at_own None row q it keeps e = refl
at_own (Some op) row q it keeps e = ap (λ (p : Text). cond (eq_by_cmp text_cmp q p) (left_by op) it) (keeps op refl) ∙ ap (λ (b : Bool). cond b (left_by op) it) e

pub at_other : (found : Option Op) (row : Text) (q : Text) (it : Option Standing) → ((op : Op) → found ≡ Some op → path_of op ≡ row) → eq_by_cmp text_cmp q row ≡ false → at_maybe found q it ≡ it
at_other None row q it keeps e = refl
at_other (Some op) row q it keeps e = ap (λ (p : Text). cond (eq_by_cmp text_cmp q p) (left_by op) it) (keeps op refl) ∙ ap (λ (b : Bool). cond b (left_by op) it) e

pub own_row : (make : Makes) (row : Text × Entry) (q : Text) (it : Option Standing) → q ≡ row.0 → made_at (make row) it ≡ made make q (Some row.1) it
own_row make row q it same = ap (λ (p : Text). made_at (make (p, row.1)) it) (sym same)

-- what the rows' calls lead to, in the order of the rows and from the last row to the first
pub at_end-rows : (make : Makes) → KeepsPath make → (rows : List (Text × Entry)) → InOrder rows → (q : Text) (it : Option Standing) → at_end (filter_map make rows) q it ≡ made make q (find text_cmp q rows) it
at_end-rows make keeps [] o q it = refl
at_end-rows make keeps (row ∷ rows) o q it =
    at_end-cons_option (make row) (filter_map make rows) q it
    ∙ at_end-rows make keeps rows (in_order_rest row rows o) q (at_maybe (make row) q it)
    ∙ elim (told_apart q row.0) [
      | inl same ↦
          ap (λ (found : Option Entry). made make q found (at_maybe (make row) q it)) (ap (λ (p : Text). find text_cmp p rows) same.0 ∙ find_below row.0 rows (in_order_first row rows o))
          ∙ at_own (make row) row.0 q it (keeps row) same.1 ∙ own_row make row q it same.0
          ∙ sym (ap (λ (b : Bool). made make q (cond b (Some row.1) (find text_cmp q rows)) it) same.1)
      | inr other ↦
          ap (made make q (find text_cmp q rows)) (at_other (make row) row.0 q it (keeps row) other.1)
          ∙ sym (ap (λ (found : Option Entry). made make q found it) (find_other q row rows other.1))
    ]

pub at_end-rows_back : (make : Makes) → KeepsPath make → (rows : List (Text × Entry)) → InOrder rows → (q : Text) (it : Option Standing) → at_end (reverse (filter_map make rows)) q it ≡ made make q (find text_cmp q rows) it
at_end-rows_back make keeps [] o q it = refl
at_end-rows_back make keeps (row ∷ rows) o q it =
    ap (λ (ops : List Op). at_end ops q it) (reverse_cons_option (make row) (filter_map make rows))
    ∙ at_end-cons_end (make row) (reverse (filter_map make rows)) q it
    ∙ ap (at_maybe (make row) q) (at_end-rows_back make keeps rows (in_order_rest row rows o) q it)
    ∙ elim (told_apart q row.0) [
      | inl same ↦
          at_own (make row) row.0 q _ (keeps row) same.1
          ∙ ap (λ (found : Option Entry). made_at (make row) (made make q found it)) (ap (λ (p : Text). find text_cmp p rows) same.0 ∙ find_below row.0 rows (in_order_first row rows o))
          ∙ own_row make row q it same.0
          ∙ sym (ap (λ (b : Bool). made make q (cond b (Some row.1) (find text_cmp q rows)) it) same.1)
      | inr other ↦
          at_other (make row) row.0 q _ (keeps row) other.1
          ∙ sym (ap (λ (found : Option Entry). made make q found it) (find_other q row rows other.1))
    ]
