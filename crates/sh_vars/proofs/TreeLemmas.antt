-- Rows in order, on both sides of one of them.
use Rattle.std.proofs.Common.{◌≡◌, List, [], ◌∷◌, ◌++◌, Bool, true, false, cond, Option, Some, None, Global, refl, sym, ap, subst, ◌∙◌, append_assoc, ◌&&◌, not}
use Rattle.std.specs.declared.rc.Rc.{Rc}
use Rattle.std.specs.List.{filter_map}
use Rattle.std.proofs.lemmas.List.Elements.{filter_map-append}
use Rattle.rk_base.specs.declared.vars.Var.{Var}
use Rattle.sh_vars.specs.Held.{exported_var}
use lib.Dec.{T}
use Rattle.std.specs.Ordering.{is_lt, is_eq, eq_by_cmp, ordering_reverse}
use Rattle.std.specs.declared.cmp.Ordering.{Ordering}
use Rattle.std.specs.declared.cmp.Ordering.TheVariants.{Less, Equal, Greater}
use Rattle.std.specs.Cmp.Lexicographic.{nat_list_cmp_total}
use Rattle.std.specs.FinMap.{find, put}
use Rattle.std.specs.FinMap.Entries.{by_order, below_all, is_sorted-put, is_sorted-where_key}
use Rattle.rk_base.specs.Text.{Text, text_cmp}
use Rattle.rk_base.proofs.WithinLemmas.{exact_texts}
use Rattle.sh_vars.specs.declared.variable.Variable.{Variable}
use Rattle.sh_vars.specs.declared.tree.Link.{Link}
use Rattle.sh_vars.specs.declared.tree.Link.TheVariants.{To}
use Rattle.sh_vars.specs.declared.tree.Node.{Node}
use Rattle.sh_vars.specs.TreeRows.{rows, rows_of, row_of}
use Rattle.std.specs.Option.{IfSome}
use Rattle.sh_vars.specs.Tree.{Row, IsInOrder, Replaces, without_row}

pub and_first : (a b : Bool) → T (a && b) → T a
and_first true b h = tt
and_first false b h = absurd h

pub and_second : (a b : Bool) → T (a && b) → T b
and_second true b h = h
and_second false b h = absurd h

and_both : (a b : Bool) → T a → T b → T (a && b)
and_both true b h k = k
and_both false b h k = absurd h

is_less : (o : Ordering) → T (is_lt o) → o ≡ Less
is_less Less h = refl
is_less Equal h = absurd h
is_less Greater h = absurd h

-- the order of two texts, from the other one's side
turned : (a b : Text) (o : Ordering) → text_cmp a b ≡ o → text_cmp b a ≡ ordering_reverse o
turned a b o e = nat_list_cmp_total.antisymm b a ∙ ap ordering_reverse e

-- below what lies below all
below_more : (q k : Text) (rows : List Row) → text_cmp q k ≡ Less → T (below_all text_cmp k rows) → T (below_all text_cmp q rows)
below_more q k [] less h = tt
below_more q k (row ∷ rows) less h =
    and_both _ _ (subst (λ o. T (is_lt o)) (sym (nat_list_cmp_total.trans q k row.0 less (is_less _ (and_first _ _ h)))) tt) (below_more q k rows less (and_second _ _ h))

-- what lies below a middle row, of rows that it lies below
below_middle : (x : Text) (l : List Row) (m : Row) (r : List Row) → T (below_all text_cmp x (l ++ m ∷ r)) → text_cmp x m.0 ≡ Less
below_middle x [] m r h = is_less _ (and_first _ _ h)
below_middle x (y ∷ l) m r h = below_middle x l m r (and_second _ _ h)

below_front : (x : Text) (l r : List Row) → T (below_all text_cmp x (l ++ r)) → T (below_all text_cmp x l)
below_front x [] r h = tt
below_front x (y ∷ l) r h = and_both _ _ (and_first _ _ h) (below_front x l r (and_second _ _ h))

below_back : (x : Text) (l r : List Row) → T (below_all text_cmp x (l ++ r)) → T (below_all text_cmp x r)
below_back x [] r h = h
below_back x (y ∷ l) r h = below_back x l r (and_second _ _ h)

below_append : (x : Text) (l r : List Row) → T (below_all text_cmp x l) → T (below_all text_cmp x r) → T (below_all text_cmp x (l ++ r))
below_append x [] r h k = k
below_append x (y ∷ l) r h k = and_both _ _ (and_first _ _ h) (below_append x l r (and_second _ _ h) k)

pub in_order_front : (l r : List Row) → IsInOrder (l ++ r) → IsInOrder l
in_order_front [] r h = tt
in_order_front (x ∷ l) r h = and_both _ _ (below_front x.0 l r (and_first _ _ h)) (in_order_front l r (and_second _ _ h))

pub in_order_back : (l r : List Row) → IsInOrder (l ++ r) → IsInOrder r
in_order_back [] r h = h
in_order_back (x ∷ l) r h = in_order_back l r (and_second _ _ h)

pub in_order_without : (l : List Row) (m : Row) (r : List Row) → IsInOrder (l ++ m ∷ r) → IsInOrder (l ++ r)
in_order_without [] m r h = and_second _ _ h
in_order_without (x ∷ l) m r h =
    let b = and_first _ _ h in
    and_both _ _ (below_append x.0 l r (below_front x.0 l (m ∷ r) b) (and_second _ _ (below_back x.0 l (m ∷ r) b))) (in_order_without l m r (and_second _ _ h))

-- the rows before the middle one are not tied to what isn't below that
after_left : (q : Text) (x : Row) (l : List Row) (m : Row) (r : List Row) → (o : Ordering) → text_cmp q m.0 ≡ o → T (not (is_lt o)) → IsInOrder (x ∷ l ++ m ∷ r) → text_cmp q x.0 ≡ Greater
after_left q x l m r Less e n h = absurd n
after_left q x l m r Equal e n h = ap (λ (t : Text). text_cmp t x.0) (exact_texts q m.0 e) ∙ turned x.0 m.0 Less (below_middle x.0 l m r (and_first _ _ h))
after_left q x l m r Greater e n h = turned x.0 q Less (nat_list_cmp_total.trans x.0 m.0 q (below_middle x.0 l m r (and_first _ _ h)) (turned q m.0 Greater e))

-- What is found.

find_below : (q : Text) (rows : List Row) → T (below_all text_cmp q rows) → find text_cmp q rows ≡ None
find_below q [] h = refl
find_below q (row ∷ rows) h = ap (λ o. cond (is_eq o) (Some row.1) (find text_cmp q rows)) (is_less _ (and_first _ _ h)) ∙ find_below q rows (and_second _ _ h)

pub find_left : (q : Text) (l : List Row) (m : Row) (r : List Row) → text_cmp q m.0 ≡ Less → IsInOrder (l ++ m ∷ r) → find text_cmp q (l ++ m ∷ r) ≡ find text_cmp q l
find_left q [] m r less h = find_below q (m ∷ r) (and_both _ _ (subst (λ o. T (is_lt o)) (sym less) tt) (below_more q m.0 r less (and_first _ _ h)))
find_left q (x ∷ l) m r less h = ap (cond (eq_by_cmp text_cmp q x.0) (Some x.1)) (find_left q l m r less (and_second _ _ h))

pub find_here : (q : Text) (l : List Row) (m : Row) (r : List Row) → text_cmp q m.0 ≡ Equal → IsInOrder (l ++ m ∷ r) → find text_cmp q (l ++ m ∷ r) ≡ Some m.1
find_here q [] m r same h = ap (λ o. cond (is_eq o) (Some m.1) (find text_cmp q r)) same
find_here q (x ∷ l) m r same h =
    ap (λ o. cond (is_eq o) (Some x.1) (find text_cmp q (l ++ m ∷ r))) (after_left q x l m r Equal same tt h) ∙ find_here q l m r same (and_second _ _ h)

pub find_right : (q : Text) (l : List Row) (m : Row) (r : List Row) → text_cmp q m.0 ≡ Greater → IsInOrder (l ++ m ∷ r) → find text_cmp q (l ++ m ∷ r) ≡ find text_cmp q r
find_right q [] m r more h = ap (λ o. cond (is_eq o) (Some m.1) (find text_cmp q r)) more
find_right q (x ∷ l) m r more h =
    ap (λ o. cond (is_eq o) (Some x.1) (find text_cmp q (l ++ m ∷ r))) (after_left q x l m r Greater more tt h) ∙ find_right q l m r more (and_second _ _ h)

-- What is put.

pub put_left : (q : Text) (v : Variable) (l : List Row) (m : Row) (r : List Row) → text_cmp q m.0 ≡ Less → put text_cmp q v (l ++ m ∷ r) ≡ put text_cmp q v l ++ m ∷ r
put_left q v [] m r less = ap (λ o. by_order o ((q, v) ∷ m ∷ r) ((m.0, v) ∷ r) (m ∷ put text_cmp q v r)) less
put_left q v (x ∷ l) m r less =
    elim (text_cmp q x.0) as (λ o. by_order o ((q, v) ∷ x ∷ l ++ m ∷ r) ((x.0, v) ∷ l ++ m ∷ r) (x ∷ put text_cmp q v (l ++ m ∷ r)) ≡ by_order o ((q, v) ∷ x ∷ l) ((x.0, v) ∷ l) (x ∷ put text_cmp q v l) ++ m ∷ r) [
      | Less ↦ refl
      | Equal ↦ refl
      | Greater ↦ ap (λ (rows : List Row). x ∷ rows) (put_left q v l m r less)
    ]

later : (q : Text) (v : Variable) (x : Row) (rows : List Row) → text_cmp q x.0 ≡ Greater → put text_cmp q v (x ∷ rows) ≡ x ∷ put text_cmp q v rows
later q v x rows more = ap (λ o. by_order o ((q, v) ∷ x ∷ rows) ((x.0, v) ∷ rows) (x ∷ put text_cmp q v rows)) more

pub put_here : (q : Text) (v : Variable) (l : List Row) (m : Row) (r : List Row) → text_cmp q m.0 ≡ Equal → IsInOrder (l ++ m ∷ r) → put text_cmp q v (l ++ m ∷ r) ≡ l ++ (m.0, v) ∷ r
put_here q v [] m r same h = ap (λ o. by_order o ((q, v) ∷ m ∷ r) ((m.0, v) ∷ r) (m ∷ put text_cmp q v r)) same
put_here q v (x ∷ l) m r same h =
    later q v x (l ++ m ∷ r) (after_left q x l m r Equal same tt h) ∙ ap (λ (rows : List Row). x ∷ rows) (put_here q v l m r same (and_second _ _ h))

pub put_right : (q : Text) (v : Variable) (l : List Row) (m : Row) (r : List Row) → text_cmp q m.0 ≡ Greater → IsInOrder (l ++ m ∷ r) → put text_cmp q v (l ++ m ∷ r) ≡ l ++ m ∷ put text_cmp q v r
put_right q v [] m r more h = later q v m r more
put_right q v (x ∷ l) m r more h =
    later q v x (l ++ m ∷ r) (after_left q x l m r Greater more tt h) ∙ ap (λ (rows : List Row). x ∷ rows) (put_right q v l m r more (and_second _ _ h))

pub in_order_put : (q : Text) (v : Variable) (rows : List Row) → IsInOrder rows → IsInOrder (put text_cmp q v rows)
in_order_put q v rows h = is_sorted-put text_cmp nat_list_cmp_total q v rows h

-- What is taken away.

kept_row : (q : Text) (x : Row) (rows : List Row) (o : Ordering) → text_cmp q x.0 ≡ o → is_eq o ≡ false → without_row q (x ∷ rows) ≡ x ∷ without_row q rows
kept_row q x rows o e other = ap (λ (b : Bool). cond (not b) (x ∷ without_row q rows) (without_row q rows)) (ap is_eq e ∙ other)

without_below : (q : Text) (rows : List Row) → T (below_all text_cmp q rows) → without_row q rows ≡ rows
without_below q [] h = refl
without_below q (row ∷ rows) h = kept_row q row rows Less (is_less _ (and_first _ _ h)) refl ∙ ap (λ (more : List Row). row ∷ more) (without_below q rows (and_second _ _ h))

pub without_left : (q : Text) (l : List Row) (m : Row) (r : List Row) → text_cmp q m.0 ≡ Less → IsInOrder (l ++ m ∷ r) → without_row q (l ++ m ∷ r) ≡ without_row q l ++ m ∷ r
without_left q [] m r less h = without_below q (m ∷ r) (and_both _ _ (subst (λ o. T (is_lt o)) (sym less) tt) (below_more q m.0 r less (and_first _ _ h)))
without_left q (x ∷ l) m r less h =
    elim (eq_by_cmp text_cmp q x.0) as (λ b. cond (not b) (x ∷ without_row q (l ++ m ∷ r)) (without_row q (l ++ m ∷ r)) ≡ cond (not b) (x ∷ without_row q l) (without_row q l) ++ m ∷ r) [
      | true ↦ without_left q l m r less (and_second _ _ h)
      | false ↦ ap (λ (rows : List Row). x ∷ rows) (without_left q l m r less (and_second _ _ h))
    ]

pub without_here : (q : Text) (l : List Row) (m : Row) (r : List Row) → text_cmp q m.0 ≡ Equal → IsInOrder (l ++ m ∷ r) → without_row q (l ++ m ∷ r) ≡ l ++ r
without_here q [] m r same h =
    ap (λ (b : Bool). cond (not b) (m ∷ without_row q r) (without_row q r)) (ap is_eq same)
    ∙ without_below q r (subst (λ (t : Text). T (below_all text_cmp t r)) (sym (exact_texts q m.0 same)) (and_first _ _ h))
without_here q (x ∷ l) m r same h =
    kept_row q x (l ++ m ∷ r) Greater (after_left q x l m r Equal same tt h) refl ∙ ap (λ (rows : List Row). x ∷ rows) (without_here q l m r same (and_second _ _ h))

pub without_right : (q : Text) (l : List Row) (m : Row) (r : List Row) → text_cmp q m.0 ≡ Greater → IsInOrder (l ++ m ∷ r) → without_row q (l ++ m ∷ r) ≡ l ++ m ∷ without_row q r
without_right q [] m r more h = kept_row q m r Greater more refl
without_right q (x ∷ l) m r more h =
    kept_row q x (l ++ m ∷ r) Greater (after_left q x l m r Greater more tt h) refl ∙ ap (λ (rows : List Row). x ∷ rows) (without_right q l m r more (and_second _ _ h))

pub in_order_taken : (q : Text) (rows : List Row) → IsInOrder rows → IsInOrder (without_row q rows)
in_order_taken q rows h = is_sorted-where_key text_cmp (λ (key : Text). not (eq_by_cmp text_cmp q key)) rows h

-- another variable at the same name
pub in_order_variable : (l : List Row) (m : Row) (v : Variable) (r : List Row) → IsInOrder (l ++ m ∷ r) → IsInOrder (l ++ (m.0, v) ∷ r)
in_order_variable [] m v r h = h
in_order_variable (x ∷ l) m v r h =
    let b = and_first _ _ h in
    and_both _ _ (below_append x.0 l ((m.0, v) ∷ r) (below_front x.0 l (m ∷ r) b) (below_back x.0 l (m ∷ r) b)) (in_order_variable l m v r (and_second _ _ h))

-- Turns.

pub grouped : (a : List Row) (m : Row) (b : List Row) (n : Row) (c : List Row) → (a ++ m ∷ b) ++ n ∷ c ≡ a ++ m ∷ (b ++ n ∷ c)
grouped a m b n c = append_assoc a (m ∷ b) (n ∷ c)

pub inner_left : (a : List Row) (m : Row) (b : List Row) (n : Row) (c : List Row) → IsInOrder (a ++ m ∷ (b ++ n ∷ c)) → IsInOrder (a ++ m ∷ b)
inner_left a m b n c h = in_order_front (a ++ m ∷ b) (n ∷ c) (subst IsInOrder (sym (grouped a m b n c)) h)

pub inner_right : (a : List Row) (m : Row) (b : List Row) (n : Row) (c : List Row) → IsInOrder ((a ++ m ∷ b) ++ n ∷ c) → IsInOrder (b ++ n ∷ c)
inner_right a m b n c h = in_order_back (m ∷ []) (b ++ n ∷ c) (in_order_back a (m ∷ (b ++ n ∷ c)) (subst IsInOrder (grouped a m b n c) h))

-- What is known of a tree's rows where its root is a node.

pub record AtNode (all : List Row) (node : Node) : Type 0 where
  pub is : all ≡ rows_of node
  pub in_order : IsInOrder (rows_of node)
  pub whole : IsInOrder all

pub at_node : {link : Link} {all : List Row} {node : Rc Node Global} → rows link ≡ all → IsInOrder (rows link) → link ≡ To node → AtNode all node.value
at_node {link} {all} {node} view_is in_order is = record { is = sym view_is ∙ ap rows is; in_order = subst IsInOrder (ap rows is) in_order; whole = subst IsInOrder view_is in_order }

-- What is put, or taken away, below the root.

put_at_left_is : (q : Text) (v : Variable) (node : Node) (left : List Row) → text_cmp q node.name ≡ Less → left ≡ put text_cmp q v node.left → left ++ row_of node ∷ node.right ≡ put text_cmp q v (rows_of node)
put_at_left_is q v node left less is = ap (λ (rows : List Row). rows ++ row_of node ∷ node.right) is ∙ sym (put_left q v node.left (row_of node) node.right less)

pub put_at_left : (q : Text) (v : Variable) (all : List Row) (node at from to : Node) (left : List Row) (o : Ordering) → AtNode all node → at ≡ node → o ≡ text_cmp q at.name → o ≡ Less → from ≡ node → left ≡ put text_cmp q v from.left → to ≡ node → left ++ row_of to ∷ to.right ≡ put text_cmp q v all
put_at_left q v all node at from to left o f a side less b is c =
    ap (λ (n : Node). left ++ row_of n ∷ n.right) c
    ∙ put_at_left_is q v node left (ap (λ (n : Node). text_cmp q n.name) (sym a) ∙ sym side ∙ less) (is ∙ ap (λ (n : Node). put text_cmp q v n.left) b)
    ∙ ap (put text_cmp q v) (sym f.is)

put_at_right_is : (q : Text) (v : Variable) (node : Node) (right : List Row) → text_cmp q node.name ≡ Greater → IsInOrder (rows_of node) → right ≡ put text_cmp q v node.right → node.left ++ row_of node ∷ right ≡ put text_cmp q v (rows_of node)
put_at_right_is q v node right more h is = ap (λ (rows : List Row). node.left ++ row_of node ∷ rows) is ∙ sym (put_right q v node.left (row_of node) node.right more h)

pub put_at_right : (q : Text) (v : Variable) (all : List Row) (node at from to : Node) (right : List Row) (o : Ordering) → AtNode all node → at ≡ node → o ≡ text_cmp q at.name → o ≡ Greater → from ≡ node → right ≡ put text_cmp q v from.right → to ≡ node → to.left ++ row_of to ∷ right ≡ put text_cmp q v all
put_at_right q v all node at from to right o f a side more b is c =
    ap (λ (n : Node). n.left ++ row_of n ∷ right) c
    ∙ put_at_right_is q v node right (ap (λ (n : Node). text_cmp q n.name) (sym a) ∙ sym side ∙ more) f.in_order (is ∙ ap (λ (n : Node). put text_cmp q v n.right) b)
    ∙ ap (put text_cmp q v) (sym f.is)

pub put_at : (q : Text) (v : Variable) (all : List Row) (node at to : Node) (o : Ordering) → AtNode all node → at ≡ node → o ≡ text_cmp q at.name → o ≡ Equal → to ≡ node → to.left ++ (to.name, v) ∷ to.right ≡ put text_cmp q v all
put_at q v all node at to o f a side same c =
    ap (λ (n : Node). ◌++◌ {A = Row} n.left ((n.name, v) ∷ n.right)) c
    ∙ sym (put_here q v node.left (row_of node) node.right (ap (λ (n : Node). text_cmp q n.name) (sym a) ∙ sym side ∙ same) f.in_order)
    ∙ ap (put text_cmp q v) (sym f.is)

taken_at_left_is : (q : Text) (node : Node) (left : List Row) → text_cmp q node.name ≡ Less → IsInOrder (rows_of node) → left ≡ without_row q node.left → left ++ row_of node ∷ node.right ≡ without_row q (rows_of node)
taken_at_left_is q node left less h is = ap (λ (rows : List Row). rows ++ row_of node ∷ node.right) is ∙ sym (without_left q node.left (row_of node) node.right less h)

pub taken_at_left : (q : Text) (all : List Row) (node at from to : Node) (left : List Row) (o : Ordering) → AtNode all node → at ≡ node → o ≡ text_cmp q at.name → o ≡ Less → from ≡ node → left ≡ without_row q from.left → to ≡ node → left ++ row_of to ∷ to.right ≡ without_row q all
taken_at_left q all node at from to left o f a side less b is c =
    ap (λ (n : Node). left ++ row_of n ∷ n.right) c
    ∙ taken_at_left_is q node left (ap (λ (n : Node). text_cmp q n.name) (sym a) ∙ sym side ∙ less) f.in_order (is ∙ ap (λ (n : Node). without_row q n.left) b)
    ∙ ap (without_row q) (sym f.is)

taken_at_right_is : (q : Text) (node : Node) (right : List Row) → text_cmp q node.name ≡ Greater → IsInOrder (rows_of node) → right ≡ without_row q node.right → node.left ++ row_of node ∷ right ≡ without_row q (rows_of node)
taken_at_right_is q node right more h is = ap (λ (rows : List Row). node.left ++ row_of node ∷ rows) is ∙ sym (without_right q node.left (row_of node) node.right more h)

pub taken_at_right : (q : Text) (all : List Row) (node at from to : Node) (right : List Row) (o : Ordering) → AtNode all node → at ≡ node → o ≡ text_cmp q at.name → o ≡ Greater → from ≡ node → right ≡ without_row q from.right → to ≡ node → to.left ++ row_of to ∷ right ≡ without_row q all
taken_at_right q all node at from to right o f a side more b is c =
    ap (λ (n : Node). n.left ++ row_of n ∷ right) c
    ∙ taken_at_right_is q node right (ap (λ (n : Node). text_cmp q n.name) (sym a) ∙ sym side ∙ more) f.in_order (is ∙ ap (λ (n : Node). without_row q n.right) b)
    ∙ ap (without_row q) (sym f.is)

pub taken_at : (q : Text) (all : List Row) (node at from to : Node) (o : Ordering) → AtNode all node → at ≡ node → o ≡ text_cmp q at.name → o ≡ Equal → from ≡ node → to ≡ node → from.left ++ to.right ≡ without_row q all
taken_at q all node at from to o f a side same b c =
    ap (λ (n : Node). n.left ++ to.right) b
    ∙ ap (λ (n : Node). node.left ++ n.right) c
    ∙ sym (without_here q node.left (row_of node) node.right (ap (λ (n : Node). text_cmp q n.name) (sym a) ∙ sym side ∙ same) f.in_order)
    ∙ ap (without_row q) (sym f.is)

pub in_order_sides : (all : List Row) (node from to : Node) → AtNode all node → from ≡ node → to ≡ node → IsInOrder (from.left ++ to.right)
in_order_sides all node from to f b c = subst IsInOrder (sym (ap (λ (n : Node). n.left ++ to.right) b ∙ ap (λ (n : Node). node.left ++ n.right) c)) (in_order_without node.left (row_of node) node.right f.in_order)

-- What is listed of both sides.

pub listed_at : (all : List Row) (node from own to : Node) (before left here last : List Var) → AtNode all node → from ≡ node → own ≡ node → to ≡ node → left ≡ before ++ filter_map exported_var from.left → here ≡ left ++ filter_map exported_var (row_of own ∷ []) → last ≡ here ++ filter_map exported_var to.right → last ≡ before ++ filter_map exported_var all
listed_at all node from own to before left here last f a b c l h r =
    r ∙ ap (λ (vars : List Var). vars ++ filter_map exported_var to.right) h
    ∙ append_assoc left _ _
    ∙ ap (λ (vars : List Var). vars ++ (filter_map exported_var (row_of own ∷ []) ++ filter_map exported_var to.right)) l
    ∙ append_assoc before _ _
    ∙ ap (λ (vars : List Var). before ++ vars)
    (ap (λ (n : Node). filter_map exported_var n.left ++ (filter_map exported_var (row_of own ∷ []) ++ filter_map exported_var to.right)) a
    ∙ ap (λ (n : Node). filter_map exported_var node.left ++ (filter_map exported_var (row_of n ∷ []) ++ filter_map exported_var to.right)) b
    ∙ ap (λ (n : Node). filter_map exported_var node.left ++ (filter_map exported_var (row_of node ∷ []) ++ filter_map exported_var n.right)) c
    ∙ ap (λ (vars : List Var). filter_map exported_var node.left ++ vars) (sym (filter_map-append exported_var (row_of node ∷ []) node.right))
    ∙ sym (filter_map-append exported_var node.left (row_of node ∷ node.right))
    ∙ ap (filter_map exported_var) (sym f.is))

-- What is replaced in place.

pub some_is : {A : Type 0} (P : A → Type 0) {r : Option A} {x : A} → r ≡ Some x → IfSome r P → P x
some_is P e h = subst (λ r. IfSome r P) e h

pub replaced_left : (q : Text) (v : Variable) (all : List Row) (node at : Node) (o : Ordering) (r : Option Variable) (left : List Row) → AtNode all node → at ≡ node → o ≡ text_cmp q at.name → o ≡ Less → Replaces q v at.left r left → Replaces q v all r (left ++ row_of at ∷ at.right)
replaced_left q v all node at o None left f a side less is = put_at_left q v all node at at at left o f a side less a is a
replaced_left q v all node at o (Some back) left f a side less is = (is.0, ap (λ (rows : List Row). rows ++ row_of at ∷ at.right) is.1 ∙ ap (λ (n : Node). rows_of n) a ∙ sym f.is)

pub replaced_right : (q : Text) (v : Variable) (all : List Row) (node at : Node) (o : Ordering) (r : Option Variable) (right : List Row) → AtNode all node → at ≡ node → o ≡ text_cmp q at.name → o ≡ Greater → Replaces q v at.right r right → Replaces q v all r (at.left ++ row_of at ∷ right)
replaced_right q v all node at o None right f a side more is = put_at_right q v all node at at at right o f a side more a is a
replaced_right q v all node at o (Some back) right f a side more is = (is.0, ap (λ (rows : List Row). at.left ++ row_of at ∷ rows) is.1 ∙ ap (λ (n : Node). rows_of n) a ∙ sym f.is)

pub in_order_replaced : (q : Text) (v : Variable) (old : List Row) (r : Option Variable) (new : List Row) → IsInOrder old → Replaces q v old r new → IsInOrder new
in_order_replaced q v old None new h is = subst IsInOrder (sym is) (in_order_put q v old h)
in_order_replaced q v old (Some back) new h is = subst IsInOrder (sym is.1) h

pub replaced : (q : Text) (v : Variable) (old : List Row) (r : Option Variable) (new : List Row) → r ≡ None → Replaces q v old r new → new ≡ put text_cmp q v old
replaced q v old r new e is = subst (λ (r : Option Variable). Replaces q v old r new) e is

pub put_afterwards : (q : Text) (v back : Variable) (old : List Row) (r : Option Variable) (new last : List Row) → r ≡ Some back → Replaces q v old r new → last ≡ put text_cmp q back new → last ≡ put text_cmp q v old
put_afterwards q v back old r new last e is put_is =
    let came = subst (λ (r : Option Variable). Replaces q v old r new) e is in
    put_is ∙ ap (λ (w : Variable). put text_cmp q w new) came.0 ∙ ap (put text_cmp q v) came.1
