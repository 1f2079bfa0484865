-- The calls of a plan are such as a sealed list has, in its order.
use Rattle.std.proofs.Common.{◌≡◌, ◌⊎◌, inl, inr, ℕ, List, [], ◌∷◌, ◌++◌, reverse, Bool, true, false, not, ◌&&◌, ◌||◌, ◌==◌, nat_lt, cond, Option, Some, None, refl, sym, ap, subst, ◌∙◌, append_assoc, arith}
use Rattle.std.proofs.lemmas.Bool.{eq-eqb, eqb-true, lt-ltb, ltb-true}
use Rattle.std.proofs.lemmas.List.{reverse-append}
use Rattle.std.specs.List.{filter_map, cons_option, list_all}
use Rattle.std.specs.Ordering.{is_lt}
use Rattle.std.specs.declared.cmp.Ordering.TheVariants.{Less}
use Rattle.std.specs.FinMap.{entries, entries_sorted, find, get, get-entries}
use Rattle.rk_base.specs.Text.{Text, text_cmp, is_root, is_within, join, root, same_text}
use Rattle.rk_base.specs.Canonical.{is_canonical}
use Rattle.rk_base.proofs.CanonicalLemmas.{both}
use Rattle.rk_tree.specs.Entries.{Entries, IsWholeSnapshot}
use Rattle.rk_tree.specs.Entries as tree
use Rattle.rk_tree.specs.Node.{Node as Entry}
use Rattle.rk_tree.specs.Node as entry
use Rattle.rk_tree.proofs.TextLemmas.{same_is}
use Rattle.rk_folder.proofs.HiddenLemmas.{attrs_text-canonical, db_text-canonical, hidden_text-canonical}
use Rattle.rk_folder.specs.Told.{is_dir, is_file}
use Rattle.rk_seal.specs.Ops.{are_calls, attrs_file, db_file, follow, group, hidden_dir, is_before, is_call, path_of}
use Rattle.rk_seal.specs.declared.ops.Op.{Op}
use Rattle.rk_seal.specs.declared.ops.Op.TheVariants.{RemoveFile, RemoveDir, MakeDir, Write}
use Rattle.rk_changes.specs.Holdings.{placed}
use Rattle.rk_changes.specs.Fetched.{AreWritings, IsWriting}
use Rattle.rk_changes.specs.Planned.{attrs_calls, back_calls, db_calls, front_calls, hidden_making, is_bytes, making, making_of, removal, removal_of}
use Rattle.rk_changes.specs.declared.holding.Holding.{Holding}
use Rattle.rk_changes.proofs.OrderLemmas.{Below, InOrder, below_first, below_rest, in_order_first, in_order_rest, clash, find_first, find_later}
use Rattle.rk_changes.proofs.HiddenLemmas.{attrs_hidden, db_hidden, dir_hidden}

-- Lists of calls, each after the one before it.

abbrev in_order : List Op → Bool
in_order [] = true
in_order (op ∷ ops) = follow op ops

-- all in one group, or all in later ones
abbrev In : ℕ → List Op → Type 0
In g ops = list_all (λ op. group op == g) ops ≡ true

abbrev After : ℕ → List Op → Type 0
After g ops = list_all (λ op. nat_lt g (group op)) ops ≡ true

left_or : (a b : Bool) → a ≡ true → (a || b) ≡ true
left_or true b h = refl
left_or false b h = cc

right_or : (a b : Bool) → b ≡ true → (a || b) ≡ true
right_or true b h = refl
right_or false b h = h

and_true : (a b : Bool) → a ≡ true → b ≡ true → (a && b) ≡ true
and_true true b h g = g
and_true false b h g = cc

same_number : (a b : ℕ) → (a == b) ≡ true → a ≡ b
same_number a b h = eqb-true a b h

number_same : (a b : ℕ) → a ≡ b → (a == b) ≡ true
number_same a b h = eq-eqb a b h

-- a call of a later group comes after
later_group : (g : ℕ) (a b : Op) → group a ≡ g → nat_lt g (group b) ≡ true → is_before a b ≡ true
later_group g a b at above = left_or (nat_lt (group a) (group b)) _ (ap (λ (n : ℕ). nat_lt n (group b)) at ∙ above)

follow-then : (g : ℕ) (last : Op) (xs ys : List Op) → group last ≡ g → In g xs → follow last xs ≡ true → After g ys → in_order ys ≡ true → follow last (xs ++ ys) ≡ true
follow-then g last [] [] at in_g up after ordered = refl
follow-then g last [] (y ∷ ys) at in_g up after ordered = and_true (is_before last y) (follow y ys) (later_group g last y at (both (nat_lt g (group y)) _ after).0) ordered
follow-then g last (x ∷ xs) ys at in_g up after ordered =
    let a = both (group x == g) _ in_g in
    let u = both (is_before last x) (follow x xs) up in
    and_true (is_before last x) (follow x (xs ++ ys)) u.0 (follow-then g x xs ys (same_number (group x) g a.0) a.1 u.1 after ordered)

order-then : (g : ℕ) (xs ys : List Op) → In g xs → in_order xs ≡ true → After g ys → in_order ys ≡ true → in_order (xs ++ ys) ≡ true
order-then g [] ys in_g up after ordered = ordered
order-then g (x ∷ xs) ys in_g up after ordered = let a = both (group x == g) _ in_g in follow-then g x xs ys (same_number (group x) g a.0) a.1 up after ordered

after-append : (g : ℕ) (xs ys : List Op) → After g xs → After g ys → After g (xs ++ ys)
after-append g [] ys a b = b
after-append g (x ∷ xs) ys a b = let h = both (nat_lt g (group x)) _ a in and_true (nat_lt g (group x)) _ h.0 (after-append g xs ys h.1 b)

in-after : (g n : ℕ) (xs : List Op) → nat_lt g n ≡ true → In n xs → After g xs
in-after g n [] less a = refl
in-after g n (x ∷ xs) less a = let h = both (group x == n) _ a in and_true (nat_lt g (group x)) _ (ap (nat_lt g) (same_number (group x) n h.0) ∙ less) (in-after g n xs less h.1)

-- Calls made of rows in their order.

-- what a row makes is at its path, and in this group
record Makes (g : ℕ) (make : Text × Entry → Option Op) (rows : List (Text × Entry)) : Type 0 where
  path : (row : Text × Entry) (op : Op) → find text_cmp row.0 rows ≡ Some row.1 → make row ≡ Some op → path_of op ≡ row.0
  in_group : (row : Text × Entry) (op : Op) → find text_cmp row.0 rows ≡ Some row.1 → make row ≡ Some op → group op ≡ g

-- of two calls of one group: the order of their paths
ascending : (g : ℕ) (a b : Op) → group a ≡ g → group b ≡ g → (g == 0) ≡ false → text_cmp (path_of a) (path_of b) ≡ Less → is_before a b ≡ true
ascending g a b at bt not_zero less =
    right_or (nat_lt (group a) (group b)) _
    (and_true (group a == group b) _ (number_same (group a) (group b) (at ∙ sym bt))
    (ap (λ (z : Bool). cond z (is_lt (text_cmp (path_of b) (path_of a))) (is_lt (text_cmp (path_of a) (path_of b)))) (ap (λ (n : ℕ). n == 0) at ∙ not_zero) ∙ ap is_lt less))

descending : (a b : Op) → group a ≡ 0 → group b ≡ 0 → text_cmp (path_of b) (path_of a) ≡ Less → is_before a b ≡ true
descending a b at bt less =
    right_or (nat_lt (group a) (group b)) _
    (and_true (group a == group b) _ (number_same (group a) (group b) (at ∙ sym bt))
    (ap (λ (z : Bool). cond z (is_lt (text_cmp (path_of b) (path_of a))) (is_lt (text_cmp (path_of a) (path_of b)))) (ap (λ (n : ℕ). n == 0) at) ∙ ap is_lt less))

-- what is so of a row in the rest is so of it in all
behind : (g : ℕ) (make : Text × Entry → Option Op) (row : Text × Entry) (rows : List (Text × Entry)) → InOrder (row ∷ rows) → Makes g make (row ∷ rows) → Makes g make rows
behind g make row rows o makes = record {
  path = λ r op found is. makes.path r op (find_later row rows r.0 r.1 (in_order_first row rows o) found) is;
  in_group = λ r op found is. makes.in_group r op (find_later row rows r.0 r.1 (in_order_first row rows o) found) is;
}

follow_rows : (g : ℕ) (make : Text × Entry → Option Op) (last : Op) (rows : List (Text × Entry)) → (g == 0) ≡ false → InOrder rows → Makes g make rows → group last ≡ g → Below (path_of last) rows → follow last (filter_map make rows) ≡ true
follow_rows g make last [] z o makes at below = refl
follow_rows g make last (row ∷ rows) z o makes at below =
    by (make row) refl (follow_rows g make last rows z (in_order_rest row rows o) (behind g make row rows o makes) at (below_rest (path_of last) row rows below))
    (λ op group_op path_op. follow_rows g make op rows z (in_order_rest row rows o) (behind g make row rows o makes) group_op (subst (λ (p : Text). Below p rows) (sym path_op) (in_order_first row rows o))) where
      by : (found : Option Op) → make row ≡ found → follow last (filter_map make rows) ≡ true → ((op : Op) → group op ≡ g → path_of op ≡ row.0 → follow op (filter_map make rows) ≡ true) → follow last (cons_option found (filter_map make rows)) ≡ true
      by None e rest next = rest
      by (Some op) e rest next =
          let group_op = makes.in_group row op (find_first row rows) e in
          let path_op = makes.path row op (find_first row rows) e in
          and_true (is_before last op) _ (ascending g last op at group_op z (ap (text_cmp (path_of last)) path_op ∙ below_first (path_of last) row rows below)) (next op group_op path_op)

order_rows : (g : ℕ) (make : Text × Entry → Option Op) (rows : List (Text × Entry)) → (g == 0) ≡ false → InOrder rows → Makes g make rows → in_order (filter_map make rows) ≡ true
order_rows g make [] z o makes = refl
order_rows g make (row ∷ rows) z o makes =
    by (make row) refl (order_rows g make rows z (in_order_rest row rows o) (behind g make row rows o makes)) where
      by : (found : Option Op) → make row ≡ found → in_order (filter_map make rows) ≡ true → in_order (cons_option found (filter_map make rows)) ≡ true
      by None e rest = rest
      by (Some op) e rest =
          follow_rows g make op rows z (in_order_rest row rows o) (behind g make row rows o makes) (makes.in_group row op (find_first row rows) e) (subst (λ (p : Text). Below p rows) (sym (makes.path row op (find_first row rows) e)) (in_order_first row rows o))

-- and from the last to the first

abbrev BeforeAll : List Op → Op → Type 0
BeforeAll ops op = list_all (λ y. is_before y op) ops ≡ true

follow-end : (last : Op) (ys : List Op) (op : Op) → follow last ys ≡ true → is_before last op ≡ true → BeforeAll ys op → follow last (ys ++ op ∷ []) ≡ true
follow-end last [] op up before all = and_true (is_before last op) true before refl
follow-end last (y ∷ ys) op up before all =
    let u = both (is_before last y) (follow y ys) up in
    let a = both (is_before y op) (list_all (λ z. is_before z op) ys) all in
    and_true (is_before last y) _ u.0 (follow-end y ys op u.1 a.0 a.1)

order-end : (ys : List Op) (op : Op) → in_order ys ≡ true → BeforeAll ys op → in_order (ys ++ op ∷ []) ≡ true
order-end [] op up all = refl
order-end (y ∷ ys) op up all = let a = both (is_before y op) (list_all (λ z. is_before z op) ys) all in follow-end y ys op up a.0 a.1

all-append : (f : Op → Bool) (xs ys : List Op) → list_all f xs ≡ true → list_all f ys ≡ true → list_all f (xs ++ ys) ≡ true
all-append f [] ys a b = b
all-append f (x ∷ xs) ys a b = let h = both (f x) (list_all f xs) a in and_true (f x) _ h.0 (all-append f xs ys h.1 b)

all-reverse : (f : Op → Bool) (xs : List Op) → list_all f xs ≡ true → list_all f (reverse xs) ≡ true
all-reverse f [] a = refl
all-reverse f (x ∷ xs) a =
    let h = both (f x) (list_all f xs) a in
    ap (list_all f) (reverse-append (x ∷ []) xs) ∙ all-append f (reverse xs) (x ∷ []) (all-reverse f xs h.1) (and_true (f x) true h.0 refl)

-- each later row's removal comes before
before_rows : (make : Text × Entry → Option Op) (op : Op) (rows : List (Text × Entry)) → InOrder rows → Makes 0 make rows → group op ≡ 0 → Below (path_of op) rows → BeforeAll (filter_map make rows) op
before_rows make op [] o makes at below = refl
before_rows make op (row ∷ rows) o makes at below =
    by (make row) refl (before_rows make op rows (in_order_rest row rows o) (behind 0 make row rows o makes) at (below_rest (path_of op) row rows below)) where
      by : (found : Option Op) → make row ≡ found → BeforeAll (filter_map make rows) op → BeforeAll (cons_option found (filter_map make rows)) op
      by None e rest = rest
      by (Some y) e rest =
          and_true (is_before y op) _ (descending y op (makes.in_group row y (find_first row rows) e) at (ap (text_cmp (path_of op)) (makes.path row y (find_first row rows) e) ∙ below_first (path_of op) row rows below)) rest

order_back : (make : Text × Entry → Option Op) (rows : List (Text × Entry)) → InOrder rows → Makes 0 make rows → in_order (reverse (filter_map make rows)) ≡ true
order_back make [] o makes = refl
order_back make (row ∷ rows) o makes =
    by (make row) refl (order_back make rows (in_order_rest row rows o) (behind 0 make row rows o makes)) where
      by : (found : Option Op) → make row ≡ found → in_order (reverse (filter_map make rows)) ≡ true → in_order (reverse (cons_option found (filter_map make rows))) ≡ true
      by None e rest = rest
      by (Some op) e rest =
          let group_op = makes.in_group row op (find_first row rows) e in
          let path_op = makes.path row op (find_first row rows) e in
          ap in_order (reverse-append (op ∷ []) (filter_map make rows))
          ∙ order-end (reverse (filter_map make rows)) op rest
          (all-reverse (λ y. is_before y op) (filter_map make rows) (before_rows make op rows (in_order_rest row rows o) (behind 0 make row rows o makes) group_op (subst (λ (p : Text). Below p rows) (sym path_op) (in_order_first row rows o))))

all_rows : (f : Op → Bool) (make : Text × Entry → Option Op) (all rows : List (Text × Entry)) → InOrder rows → ((row : Text × Entry) (op : Op) → find text_cmp row.0 rows ≡ Some row.1 → make row ≡ Some op → f op ≡ true) → list_all f (filter_map make rows) ≡ true
all_rows f make all [] o each = refl
all_rows f make all (row ∷ rows) o each =
    by (make row) refl (all_rows f make all rows (in_order_rest row rows o) (λ r op found is. each r op (find_later row rows r.0 r.1 (in_order_first row rows o) found) is)) where
      by : (found : Option Op) → make row ≡ found → list_all f (filter_map make rows) ≡ true → list_all f (cons_option found (filter_map make rows)) ≡ true
      by None e rest = rest
      by (Some op) e rest = and_true (f op) _ (each row op (find_first row rows) e) rest

-- A path of whole entries.

record Seen (path : Text) : Type 0 where
  canonical : is_canonical path ≡ true
  below : is_root path ≡ false
  outside : is_within hidden_dir path ≡ false

seen_call : (op : Op) → Seen (path_of op) → is_call op ≡ true
seen_call op seen =
    and_true (is_canonical (path_of op)) _ seen.canonical
    (and_true (not (is_root (path_of op))) _ (ap not seen.below) (left_or (not (is_within hidden_dir (path_of op))) _ (ap not seen.outside)))

-- it is no state file, nor the hidden directory
apart_from : (path other : Text) → is_within hidden_dir other ≡ true → is_within hidden_dir path ≡ false → same_text path other ≡ false
apart_from path other inside out = by (same_text path other) refl where
  by : (b : Bool) → same_text path other ≡ b → same_text path other ≡ false
  by true e = absurd (clash _ inside (ap (is_within hidden_dir) (sym (same_is path other e)) ∙ out))
  by false e = e

remove_file_group : (path : Text) → is_within hidden_dir path ≡ false → group (RemoveFile path) ≡ 0
remove_file_group path out = ap (λ (b : Bool). cond b 4 0) (apart_from path attrs_file attrs_hidden out)

make_dir_group : (path : Text) → is_within hidden_dir path ≡ false → group (MakeDir path) ≡ 1
make_dir_group path out = ap (λ (b : Bool). cond b 3 1) (apart_from path hidden_dir dir_hidden out)

write_file_group : (path bytes : Text) → is_within hidden_dir path ≡ false → group (Write path bytes) ≡ 2
write_file_group path bytes out =
    ap (λ (b : Bool). cond b 4 (cond (same_text path db_file) 5 2)) (apart_from path attrs_file attrs_hidden out) ∙ ap (λ (b : Bool). cond b 5 2) (apart_from path db_file db_hidden out)

-- an entry that isn't the root's
module _ (snapshot : Entries) (whole : IsWholeSnapshot snapshot) where
  not_within : (path : Text) (it : Entry) → get snapshot path ≡ Some it → is_within hidden_dir path ≡ false
  not_within path it at = by (is_within hidden_dir path) refl where
    none : Some it ≡ None → ⊥
    none e = cc

    by : (b : Bool) → is_within hidden_dir path ≡ b → is_within hidden_dir path ≡ false
    by true e = absurd (none (sym at ∙ whole.unseen path e))
    by false e = e

  seen_at : (path : Text) (it : Entry) → get snapshot path ≡ Some it → is_root path ≡ false → Seen path
  seen_at path it at r = record { canonical = whole.canonical path it at; below = r; outside = not_within path it at }

  -- the root is a directory
  root_placed : is_dir (placed (get snapshot root)) ≡ true
  root_placed = by (get snapshot root) refl where
    by : (o : Option Entry) → get snapshot root ≡ o → is_dir (placed (get snapshot root)) ≡ true
    by None e = absurd (clash _ (sym (ap tree.is_dir e) ∙ whole.root_dir) refl)
    by (Some (entry.File mode content)) e = absurd (clash _ (sym (ap tree.is_dir e) ∙ whole.root_dir) refl)
    by (Some (entry.Dir mode)) e = ap (λ (o : Option Entry). is_dir (placed o)) e
    by (Some (entry.Link text)) e = absurd (clash _ (sym (ap tree.is_dir e) ∙ whole.root_dir) refl)

  -- no file or link stands there
  root_entry : (path : Text) (it : Entry) → get snapshot path ≡ Some it → is_root path ≡ true → (mode : ℕ) × (it ≡ entry.Dir mode)
  root_entry path it at r = by it (sym (ap tree.is_dir (ap (get snapshot) (sym (same_is path root r)) ∙ at)) ∙ whole.root_dir) where
    by : (e : Entry) → tree.is_dir (Some e) ≡ true → (mode : ℕ) × (e ≡ entry.Dir mode)
    by (entry.File mode content) h = absurd (clash _ h refl)
    by (entry.Dir mode) h = (mode, refl)
    by (entry.Link text) h = absurd (clash _ h refl)

-- What a row makes, by its entry.

no_op : (op : Op) → None ≡ Some op → ⊥
no_op op h = cc

one_op : (a b : Op) → Some a ≡ Some b → b ≡ a
one_op a b h = cc

if_made : (b : Bool) (a op : Op) → cond b None (Some a) ≡ Some op → (b ≡ false) × (op ≡ a)
if_made true a op h = absurd (no_op op h)
if_made false a op h = (refl, one_op a op h)

-- what is so of the call that a row makes
record IsMade (g : ℕ) (path : Text) (op : Op) : Type 0 where
  at : path_of op ≡ path
  in_group : group op ≡ g
  call : is_call op ≡ true

made_as : (g : ℕ) (path : Text) (a op : Op) → op ≡ a → path_of a ≡ path → group a ≡ g → Seen path → IsMade g path op
made_as g path a op is at in_g seen = record {
  at = ap path_of is ∙ at;
  in_group = ap group is ∙ in_g;
  call = ap is_call is ∙ seen_call a (subst Seen (sym at) seen);
}

not_root : (path : Text) → (is_root path ≡ true → ⊥) → is_root path ≡ false
not_root path h = by (is_root path) refl where
  by : (b : Bool) → is_root path ≡ b → is_root path ≡ false
  by true e = absurd (h e)
  by false e = e

removed : (before after : Entries) → IsWholeSnapshot before → IsWholeSnapshot after → (path : Text) (it : Entry) (op : Op) → get before path ≡ Some it → removal path it (placed (get after path)) ≡ Some op → IsMade 0 path op
removed before after whole new path (entry.File mode content) op at h =
    let m = if_made (is_file (placed (get after path))) (RemoveFile path) op h in
    let r = not_root path (λ r. no_dir (root_entry before whole path (entry.File mode content) at r).1) in
    made_as 0 path (RemoveFile path) op m.1 refl (remove_file_group path (not_within before whole path (entry.File mode content) at)) (seen_at before whole path (entry.File mode content) at r) where
      no_dir : {m : ℕ} → entry.File mode content ≡ entry.Dir m → ⊥
      no_dir e = cc
removed before after whole new path (entry.Dir mode) op at h =
    let m = if_made (is_dir (placed (get after path))) (RemoveDir path) op h in
    let r = not_root path (λ r. clash _ (ap (λ (p : Text). is_dir (placed (get after p))) (same_is path root r) ∙ root_placed after new) m.0) in
    made_as 0 path (RemoveDir path) op m.1 refl refl (seen_at before whole path (entry.Dir mode) at r)
removed before after whole new path (entry.Link text) op at h = absurd (no_op op h)

dir_made : (before after : Entries) → IsWholeSnapshot before → IsWholeSnapshot after → (path : Text) (it : Entry) (op : Op) → get after path ≡ Some it → making path it (placed (get before path)) ≡ Some op → IsMade 1 path op
dir_made before after whole new path (entry.File mode content) op at h = absurd (no_op op h)
dir_made before after whole new path (entry.Dir mode) op at h =
    let m = if_made (is_dir (placed (get before path))) (MakeDir path) op h in
    let r = not_root path (λ r. clash _ (ap (λ (p : Text). is_dir (placed (get before p))) (same_is path root r) ∙ root_placed before whole) m.0) in
    made_as 1 path (MakeDir path) op m.1 refl (make_dir_group path (not_within after new path (entry.Dir mode) at)) (seen_at after new path (entry.Dir mode) at r)
dir_made before after whole new path (entry.Link text) op at h = absurd (no_op op h)

-- A part of the plan, of one group.

record IsPart (g : ℕ) (ops : List Op) : Type 0 where
  in_group : In g ops
  calls : list_all is_call ops ≡ true
  ordered : in_order ops ≡ true

found_at : (snapshot : Entries) (row : Text × Entry) → find text_cmp row.0 (entries snapshot) ≡ Some row.1 → get snapshot row.0 ≡ Some row.1
found_at snapshot row found = get-entries snapshot row.0 ∙ found

makes_of : (g : ℕ) (snapshot : Entries) (make : Text × Entry → Option Op) → ((row : Text × Entry) (op : Op) → get snapshot row.0 ≡ Some row.1 → make row ≡ Some op → IsMade g row.0 op) → Makes g make (entries snapshot)
makes_of g snapshot make each = record {
  path = λ row op found is. (each row op (found_at snapshot row found) is).at;
  in_group = λ row op found is. (each row op (found_at snapshot row found) is).in_group;
}

up_part : (g : ℕ) (snapshot : Entries) (make : Text × Entry → Option Op) → (g == 0) ≡ false → ((row : Text × Entry) (op : Op) → get snapshot row.0 ≡ Some row.1 → make row ≡ Some op → IsMade g row.0 op) → IsPart g (filter_map make (entries snapshot))
up_part g snapshot make z each = record {
  in_group = all_rows (λ op. group op == g) make (entries snapshot) (entries snapshot) (entries_sorted snapshot) (λ row op found is. number_same (group op) g (each row op (found_at snapshot row found) is).in_group);
  calls = all_rows is_call make (entries snapshot) (entries snapshot) (entries_sorted snapshot) (λ row op found is. (each row op (found_at snapshot row found) is).call);
  ordered = order_rows g make (entries snapshot) z (entries_sorted snapshot) (makes_of g snapshot make each);
}

down_part : (snapshot : Entries) (make : Text × Entry → Option Op) → ((row : Text × Entry) (op : Op) → get snapshot row.0 ≡ Some row.1 → make row ≡ Some op → IsMade 0 row.0 op) → IsPart 0 (reverse (filter_map make (entries snapshot)))
down_part snapshot make each =
    let in_g = all_rows (λ op. group op == 0) make (entries snapshot) (entries snapshot) (entries_sorted snapshot) (λ row op found is. number_same (group op) 0 (each row op (found_at snapshot row found) is).in_group) in
    let calls = all_rows is_call make (entries snapshot) (entries snapshot) (entries_sorted snapshot) (λ row op found is. (each row op (found_at snapshot row found) is).call) in
    record {
      in_group = all-reverse (λ op. group op == 0) (filter_map make (entries snapshot)) in_g;
      calls = all-reverse is_call (filter_map make (entries snapshot)) calls;
      ordered = order_back make (entries snapshot) (entries_sorted snapshot) (makes_of 0 snapshot make each);
    }

none_part : (g : ℕ) → IsPart g []
none_part g = record { in_group = refl; calls = refl; ordered = refl }

one_part : (g : ℕ) (op : Op) → group op ≡ g → is_call op ≡ true → IsPart g (op ∷ [])
one_part g op in_g call = record { in_group = and_true (group op == g) true (number_same (group op) g in_g) refl; calls = and_true (is_call op) true call refl; ordered = refl }

maybe_part : (g : ℕ) (op : Op) (b : Bool) → group op ≡ g → is_call op ≡ true → IsPart g (cond b [] (op ∷ []))
maybe_part g op true in_g call = none_part g
maybe_part g op false in_g call = one_part g op in_g call

-- The parts of the hidden directory, one call each at most.

hidden-canonical : is_canonical hidden_dir ≡ true
unfolding join
hidden-canonical = hidden_text-canonical

attrs-canonical : is_canonical attrs_file ≡ true
unfolding join
attrs-canonical = attrs_text-canonical

db-canonical : is_canonical db_file ≡ true
unfolding join
db-canonical = db_text-canonical

hidden-rest : (not (is_root hidden_dir) && (not (is_within hidden_dir hidden_dir) || nat_lt 2 (group (MakeDir hidden_dir)))) ≡ true
unfolding is_within join
hidden-rest = refl

attrs_removed-rest : (not (is_root attrs_file) && (not (is_within hidden_dir attrs_file) || nat_lt 2 (group (RemoveFile attrs_file)))) ≡ true
unfolding is_within join
attrs_removed-rest = refl

attrs_written-rest : (bytes : Text) → (not (is_root attrs_file) && (not (is_within hidden_dir attrs_file) || nat_lt 2 (group (Write attrs_file bytes)))) ≡ true
unfolding is_within join
attrs_written-rest bytes = refl

db_written-rest : (bytes : Text) → (not (is_root db_file) && (not (is_within hidden_dir db_file) || nat_lt 2 (group (Write db_file bytes)))) ≡ true
unfolding is_within join
db_written-rest bytes = refl

hidden-group : group (MakeDir hidden_dir) ≡ 3
unfolding join
hidden-group = refl

attrs_removed-group : group (RemoveFile attrs_file) ≡ 4
unfolding join
attrs_removed-group = refl

attrs_written-group : (bytes : Text) → group (Write attrs_file bytes) ≡ 4
unfolding join
attrs_written-group bytes = refl

db_written-group : (bytes : Text) → group (Write db_file bytes) ≡ 5
unfolding join
db_written-group bytes = refl

hidden_part : (before after : Bool) → IsPart 3 (hidden_making before after)
hidden_part before false = none_part 3
hidden_part true true = none_part 3
hidden_part false true = one_part 3 (MakeDir hidden_dir) hidden-group (and_true (is_canonical hidden_dir) _ hidden-canonical hidden-rest)

attrs_part : (before after : Option Text) → IsPart 4 (attrs_calls before after)
attrs_part None None = none_part 4
attrs_part (Some old) None = one_part 4 (RemoveFile attrs_file) attrs_removed-group (and_true (is_canonical attrs_file) _ attrs-canonical attrs_removed-rest)
attrs_part None (Some bytes) = maybe_part 4 (Write attrs_file bytes) (is_bytes bytes None) (attrs_written-group bytes) (and_true (is_canonical attrs_file) _ attrs-canonical (attrs_written-rest bytes))
attrs_part (Some old) (Some bytes) = maybe_part 4 (Write attrs_file bytes) (is_bytes bytes (Some old)) (attrs_written-group bytes) (and_true (is_canonical attrs_file) _ attrs-canonical (attrs_written-rest bytes))

db_part : (before after : Option Text) → IsPart 5 (db_calls before after)
db_part before None = none_part 5
db_part before (Some bytes) = maybe_part 5 (Write db_file bytes) (is_bytes bytes before) (db_written-group bytes) (and_true (is_canonical db_file) _ db-canonical (db_written-rest bytes))

-- Files that are written, whatever their bytes.

file_call : (after : Entries) → IsWholeSnapshot after → (path : Text) (it : Entry) (bytes : Text) → get after path ≡ Some it → is_file (placed (Some it)) ≡ true → IsMade 2 path (Write path bytes)
file_call after new path (entry.File mode content) bytes at file =
    let r = not_root path (λ r. no_dir (root_entry after new path (entry.File mode content) at r).1) in
    made_as 2 path (Write path bytes) (Write path bytes) refl refl (write_file_group path bytes (not_within after new path (entry.File mode content) at)) (seen_at after new path (entry.File mode content) at r) where
      no_dir : {m : ℕ} → entry.File mode content ≡ entry.Dir m → ⊥
      no_dir e = cc
file_call after new path (entry.Dir mode) bytes at file = cc
file_call after new path (entry.Link text) bytes at file = cc

-- each row's file may be written
abbrev MayWrite : List (Text × Entry) → Type 0
MayWrite rows = (row : Text × Entry) (bytes : Text) → find text_cmp row.0 rows ≡ Some row.1 → is_file (placed (Some row.1)) ≡ true → IsMade 2 row.0 (Write row.0 bytes)

may_write-rest : (row : Text × Entry) (rows : List (Text × Entry)) → InOrder (row ∷ rows) → MayWrite (row ∷ rows) → MayWrite rows
may_write-rest row rows o may r bytes found file = may r bytes (find_later row rows r.0 r.1 (in_order_first row rows o) found) file

written_here : (row : Text × Entry) (rows : List (Text × Entry)) (op : Op) → MayWrite (row ∷ rows) → IsWriting row.0 row.1 op → IsMade 2 row.0 op
written_here row rows op may is = subst (IsMade 2 row.0) (sym is.1) (may row is.0 (find_first row rows) is.2)

follow_writings : (last : Op) (rows : List (Text × Entry)) (ops : List Op) → InOrder rows → MayWrite rows → group last ≡ 2 → Below (path_of last) rows → AreWritings rows ops → follow last ops ≡ true
follow_writings last [] ops o may at below are = ap (follow last) are
follow_writings last (row ∷ rows) ops o may at below (inl rest) = follow_writings last rows ops (in_order_rest row rows o) (may_write-rest row rows o may) at (below_rest (path_of last) row rows below) rest
follow_writings last (row ∷ rows) ops o may at below (inr some) =
    let made = written_here row rows some.0 may some.3 in
    ap (follow last) some.2
    ∙ and_true (is_before last some.0) _ (ascending 2 last some.0 at made.in_group refl (ap (text_cmp (path_of last)) made.at ∙ below_first (path_of last) row rows below))
    (follow_writings some.0 rows some.1 (in_order_rest row rows o) (may_write-rest row rows o may) made.in_group (subst (λ (p : Text). Below p rows) (sym made.at) (in_order_first row rows o)) some.4)

order_writings : (rows : List (Text × Entry)) (ops : List Op) → InOrder rows → MayWrite rows → AreWritings rows ops → in_order ops ≡ true
order_writings [] ops o may are = ap in_order are
order_writings (row ∷ rows) ops o may (inl rest) = order_writings rows ops (in_order_rest row rows o) (may_write-rest row rows o may) rest
order_writings (row ∷ rows) ops o may (inr some) =
    let made = written_here row rows some.0 may some.3 in
    ap in_order some.2
    ∙ follow_writings some.0 rows some.1 (in_order_rest row rows o) (may_write-rest row rows o may) made.in_group (subst (λ (p : Text). Below p rows) (sym made.at) (in_order_first row rows o)) some.4

all_writings : (f : Op → Bool) (rows : List (Text × Entry)) (ops : List Op) → InOrder rows → MayWrite rows → ((path : Text) (op : Op) → IsMade 2 path op → f op ≡ true) → AreWritings rows ops → list_all f ops ≡ true
all_writings f [] ops o may each are = ap (list_all f) are
all_writings f (row ∷ rows) ops o may each (inl rest) = all_writings f rows ops (in_order_rest row rows o) (may_write-rest row rows o may) each rest
all_writings f (row ∷ rows) ops o may each (inr some) =
    ap (list_all f) some.2
    ∙ and_true (f some.0) _ (each row.0 some.0 (written_here row rows some.0 may some.3)) (all_writings f rows some.1 (in_order_rest row rows o) (may_write-rest row rows o may) each some.4)

writings_part : (after : Entries) (ops : List Op) → IsWholeSnapshot after → AreWritings (entries after) ops → IsPart 2 ops
writings_part after ops new are =
    let may : MayWrite (entries after) = λ row bytes found file. file_call after new row.0 row.1 bytes (found_at after row found) file in
    let sorted = entries_sorted after in
    record {
      in_group = all_writings (λ op. group op == 2) (entries after) ops sorted may (λ path op made. number_same (group op) 2 made.in_group) are;
      calls = all_writings is_call (entries after) ops sorted may (λ path op made. made.call) are;
      ordered = order_writings (entries after) ops sorted may are;
    }

-- The whole plan.

-- what comes after a group
record IsTail (g : ℕ) (ops : List Op) : Type 0 where
  after : After g ops
  calls : list_all is_call ops ≡ true
  ordered : in_order ops ≡ true

less-then : (g n k : ℕ) → nat_lt g n ≡ true → nat_lt n k ≡ true → nat_lt g k ≡ true
less-then g n k a b = lt-ltb g k (omega (arith, ltb-true g n a, ltb-true n k b))

after-less : (g n : ℕ) (ops : List Op) → nat_lt g n ≡ true → After n ops → After g ops
after-less g n [] less a = refl
after-less g n (op ∷ ops) less a = let h = both (nat_lt n (group op)) _ a in and_true (nat_lt g (group op)) _ (less-then g n (group op) less h.0) (after-less g n ops less h.1)

last-tail : (g n : ℕ) (xs : List Op) → nat_lt g n ≡ true → IsPart n xs → IsTail g xs
last-tail g n xs less part = record { after = in-after g n xs less part.in_group; calls = part.calls; ordered = part.ordered }

more-tail : (g n : ℕ) (xs ys : List Op) → nat_lt g n ≡ true → IsPart n xs → IsTail n ys → IsTail g (xs ++ ys)
more-tail g n xs ys less part tail = record {
  after = after-append g xs ys (in-after g n xs less part.in_group) (after-less g n ys less tail.after);
  calls = all-append is_call xs ys part.calls tail.calls;
  ordered = order-then n xs ys part.in_group part.ordered tail.after tail.ordered;
}

calls-are : (ops : List Op) → list_all is_call ops ≡ true → in_order ops ≡ true → (ops ≡ []) ⊎ (are_calls ops ≡ true)
unfolding are_calls
calls-are [] calls ordered = inl refl
calls-are (op ∷ ops) calls ordered = inr (and_true (list_all is_call (op ∷ ops)) (follow op ops) calls ordered)

-- the calls of a plan between whole entries are none, or such as a sealed list has, whichever of the files they write
pub planned-are : (before after : Holding) (writings : List Op) → IsWholeSnapshot before.entries → IsWholeSnapshot after.entries → AreWritings (entries after.entries) writings
    → (front_calls before after ++ (writings ++ back_calls before after) ≡ []) ⊎ (are_calls (front_calls before after ++ (writings ++ back_calls before after)) ≡ true)
planned-are before after writings whole new are =
    let removals : List Op = reverse (filter_map (removal_of after.entries) (entries before.entries)) in
    let makings : List Op = filter_map (making_of before.entries) (entries after.entries) in
    let hidden : List Op = hidden_making before.rkr after.rkr in
    let attrs : List Op = attrs_calls before.state.attrs after.state.attrs in
    let db : List Op = db_calls before.state.db after.state.db in
    let first = down_part before.entries (removal_of after.entries) (λ row op at is. removed before.entries after.entries whole new row.0 row.1 op at is) in
    let from_db : IsTail 4 db = last-tail 4 5 db refl (db_part before.state.db after.state.db) in
    let from_attrs : IsTail 3 (attrs ++ db) = more-tail 3 4 attrs db refl (attrs_part before.state.attrs after.state.attrs) from_db in
    let from_hidden : IsTail 2 (hidden ++ (attrs ++ db)) = more-tail 2 3 hidden (attrs ++ db) refl (hidden_part before.rkr after.rkr) from_attrs in
    let from_writings : IsTail 1 (writings ++ (hidden ++ (attrs ++ db))) = more-tail 1 2 writings (hidden ++ (attrs ++ db)) refl (writings_part after.entries writings new are) from_hidden in
    let from_makings : IsTail 0 (makings ++ (writings ++ (hidden ++ (attrs ++ db)))) =
    more-tail 0 1 makings (writings ++ (hidden ++ (attrs ++ db))) refl (up_part 1 after.entries (making_of before.entries) refl (λ row op at is. dir_made before.entries after.entries whole new row.0 row.1 op at is)) from_writings in
    let rest : List Op = makings ++ (writings ++ (hidden ++ (attrs ++ db))) in
    let shape : (removals ++ makings) ++ (writings ++ ((hidden ++ attrs) ++ db)) ≡ removals ++ rest =
    append_assoc removals makings (writings ++ ((hidden ++ attrs) ++ db)) ∙ ap (λ (l : List Op). removals ++ (makings ++ (writings ++ l))) (append_assoc hidden attrs db) in
    subst (λ (ops : List Op). (ops ≡ []) ⊎ (are_calls ops ≡ true)) (sym shape)
    (calls-are (removals ++ rest) (all-append is_call removals rest first.calls from_makings.calls) (order-then 0 removals rest first.in_group first.ordered from_makings.after from_makings.ordered))
