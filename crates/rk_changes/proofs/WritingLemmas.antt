-- The files that a plan writes.
use Rattle.std.proofs.Common.{◌≡◌, inl, inr, List, [], ◌∷◌, ◌++◌, Option, Some, None, refl, sym, ap, subst, ◌∙◌, append_assoc, append-nil}
use Rattle.std.specs.Prelude.{IfSome}
use Rattle.std.specs.List.{cons_option, filter_map}
use Rattle.std.specs.FinMap.{entries, entries_sorted, find, get, get-entries}
use Rattle.rk_base.specs.Text.{Text, text_cmp}
use Rattle.rk_seal.specs.declared.ops.Op.{Op}
use Rattle.rk_tree.specs.Entries.{Entries}
use Rattle.rk_tree.specs.Full.{Told, EntriesFrom, full_node, in_full}
use Rattle.rk_tree.specs.Node.{Node as Entry}
use Rattle.rk_changes.specs.Fetched.{AreWritings, IsFrom, IsWriting, full_writing}
use Rattle.rk_changes.specs.Holdings.{placed}
use Rattle.rk_changes.specs.Planned.{writing}
use Rattle.rk_changes.proofs.OrderLemmas.{InOrder, find_first, find_later, in_order_first, in_order_rest}

-- each row's bytes are from what is told
abbrev pub RowsFrom : Option Told → List (Text × Entry) → Type 0
RowsFrom o [] = Unit {0}
RowsFrom o (row ∷ rows) = IsFrom o (Some row.1) × RowsFrom o rows

pub at-from : (o : Option Told) (snapshot : Entries) → EntriesFrom o snapshot → (q : Text) → IsFrom o (get snapshot q)
at-from None snapshot all q = tt
at-from (Some told) snapshot all q = all q

each-from : (o : Option Told) (rows : List (Text × Entry)) → InOrder rows → ((row : Text × Entry) → find text_cmp row.0 rows ≡ Some row.1 → IsFrom o (Some row.1)) → RowsFrom o rows
each-from o [] h f = tt
each-from o (row ∷ rows) h f = (f row (find_first row rows), each-from o rows (in_order_rest row rows h) (λ r g. f r (find_later row rows r.0 r.1 (in_order_first row rows h) g)))

pub rows-from : (o : Option Told) (snapshot : Entries) → EntriesFrom o snapshot → RowsFrom o (entries snapshot)
rows-from o snapshot all = each-from o (entries snapshot) (entries_sorted snapshot) (λ row found. subst (IsFrom o) (get-entries snapshot row.0 ∙ found) (at-from o snapshot all row.0))

-- The calls so far, and whatever follows them.

abbrev pub Lead : List (Text × Entry) → List (Text × Entry) → List Op → Type 0
Lead all rows ops = (rest : List Op) → AreWritings rows rest → AreWritings all (ops ++ rest)

pub one_more : (row : Text × Entry) (rows : List (Text × Entry)) (op : Option Op) (rest : List Op) → IfSome op (λ o. IsWriting row.0 row.1 o) → AreWritings rows rest → AreWritings (row ∷ rows) (cons_option op [] ++ rest)
one_more row rows None rest is are = inl are
one_more row rows (Some op) rest is are = inr (op, rest, refl, is, are)

pub lead-first : (all rows : List (Text × Entry)) (ops : List Op) → ops ≡ [] → rows ≡ all → Lead all rows ops
lead-first all rows ops none same rest are = subst (λ (l : List Op). AreWritings all (l ++ rest)) (sym none) (subst (λ (r : List (Text × Entry)). AreWritings r rest) same are)

pub lead-more : (all iter rows : List (Text × Entry)) (row : Text × Entry) (ops new : List Op) (op : Option Op) → iter ≡ row ∷ rows → new ≡ ops ++ cons_option op [] → IfSome op (λ o. IsWriting row.0 row.1 o) → Lead all iter ops → Lead all rows new
lead-more all iter rows row ops new op steps adds is lead rest are =
    subst (AreWritings all) (sym (ap (λ (l : List Op). l ++ rest) adds ∙ append_assoc ops (cons_option op []) rest))
    (lead (cons_option op [] ++ rest) (subst (λ (r : List (Text × Entry)). AreWritings r (cons_option op [] ++ rest)) (sym steps) (one_more row rows op rest is are)))

pub lead-last : (all iter : List (Text × Entry)) (ops : List Op) → iter ≡ [] → Lead all iter ops → AreWritings all ops
lead-last all iter ops over lead = subst (AreWritings all) (append-nil ops) (lead [] (subst (λ (r : List (Text × Entry)). AreWritings r []) (sym over) refl))

-- The same in full.

abbrev pub Fulls : Option Told → Entries → List (Text × Entry) → List (Text × Entry) → List Op → Type 0
Fulls o before all rows ops = IfSome o (λ told. ops ++ filter_map (full_writing told before) rows ≡ filter_map (full_writing told before) all)

cons-then : (op : Option Op) (rest : List Op) → cons_option op [] ++ rest ≡ cons_option op rest
cons-then None rest = refl
cons-then (Some op) rest = refl

pub fulls-first : (o : Option Told) (before : Entries) (all rows : List (Text × Entry)) (ops : List Op) → ops ≡ [] → rows ≡ all → Fulls o before all rows ops
fulls-first None before all rows ops none same = tt
fulls-first (Some told) before all rows ops none same = ap (λ (l : List Op). l ++ filter_map (full_writing told before) rows) none ∙ ap (filter_map (full_writing told before)) same

pub fulls-more : (o : Option Told) (before : Entries) (all iter rows : List (Text × Entry)) (row : Text × Entry) (ops new : List Op) (op : Option Op) → iter ≡ row ∷ rows → new ≡ ops ++ cons_option op [] → IfSome o (λ told. op ≡ full_writing told before row) → Fulls o before all iter ops → Fulls o before all rows new
fulls-more None before all iter rows row ops new op steps adds is was = tt
fulls-more (Some told) before all iter rows row ops new op steps adds is was =
    let rest : List Op = filter_map (full_writing told before) rows in
    ap (λ (l : List Op). l ++ rest) adds
    ∙ append_assoc ops (cons_option op []) rest
    ∙ ap (λ (l : List Op). ops ++ l) (cons-then op rest)
    ∙ ap (λ (p : Option Op). ops ++ cons_option p rest) is
    ∙ sym (ap (λ (r : List (Text × Entry)). ops ++ filter_map (full_writing told before) r) steps)
    ∙ was

pub op-full : (o p : Option Told) (before : Entries) (path : Text) (it : Entry) (op : Option Op) (was : Option Entry) → o ≡ p → was ≡ get before path → IfSome o (λ told. op ≡ writing path (full_node told it) (placed (in_full told was))) → IfSome p (λ told. op ≡ full_writing told before (path, it))
op-full o p before path it op was same got is =
    subst (λ (x : Option Told). IfSome x (λ told. op ≡ full_writing told before (path, it))) same
    (subst (λ (x : Option Entry). IfSome o (λ told. op ≡ writing path (full_node told it) (placed (in_full told x)))) got is)

pub fulls-last : (o : Option Told) (before : Entries) (all iter : List (Text × Entry)) (ops : List Op) → iter ≡ [] → Fulls o before all iter ops → IfSome o (λ told. ops ≡ filter_map (full_writing told before) all)
fulls-last None before all iter ops over was = tt
fulls-last (Some told) before all iter ops over was = sym (append-nil ops) ∙ sym (ap (λ (r : List (Text × Entry)). ops ++ filter_map (full_writing told before) r) over) ∙ was

pub rows-later : (o : Option Told) (iter rows : List (Text × Entry)) (row : Text × Entry) → iter ≡ row ∷ rows → RowsFrom o iter → IsFrom o (Some row.1) × RowsFrom o rows
rows-later o iter rows row steps all = subst (RowsFrom o) steps all
