-- Nodes and numbers that pass what reading tests are the spelling of the talks that are read.
use Rattle.std.proofs.Common.{◌≡◌, ◌∙◌, refl, sym, ap, subst, ℕ, zero, suc, ◌+◌, ◌-◌, ◌<◌, ◌≤◌, ◌↔◌, inl, inr, Bool, true, cond, ltb, List, [], ◌∷◌, ◌++◌, Some, None, length, map, take, slice_get, append_assoc, arith}
use Rattle.std.proofs.lemmas.Bool.{ltb-true, ltb-false}
use Rattle.std.specs.Prelude.{fold}
use Rattle.std.specs.Bool.{Decides}
use Rattle.std.specs.List.{position_or_len}
use Rattle.std.proofs.lemmas.List.{append-nil, length-append, length-map, length-take-le, take_all}
use Rattle.tr_nodes.specs.Nodes.{Node}
use Rattle.tr_nodes.specs.Tails.{Tail, same_tail, has, with_tail, needing, needed, head_in, node_in, nodes_of, heads_of, steps_of, steps_at, tail_after, tails_from, tails_of, talks_of, IsApart, IsSpelling, AreNodes, Uses, UsesAll}
use Rattle.tr_nodes.proofs.GetLemmas.{by_cases, get_below, get_some, get_none, get_front, get_last, get_map, get_take, take_next, same_gets, found, there}
use Rattle.tr_nodes.proofs.TailLemmas.{IsBuilt, tail_decides, head_steps, at_head, steps_head, steps_stay}
use Rattle.tr_nodes.proofs.WrittenLemmas.{written_nodes, written_used}

module _ {X : Type 0} where
  -- ---- the tails of nodes

  pub tails_length : (front : List (Tail X)) (nodes : List (Node X)) → length (tails_from front nodes) ≡ length front + length nodes
  tails_length front [] = omega arith
  tails_length front (node ∷ nodes) = let rest = tails_length (front ++ tail_after front node ∷ []) nodes in omega (arith, length-append front (tail_after front node ∷ []))

  tails_add : (front : List (Tail X)) (nodes : List (Node X)) → (more : List (Tail X)) × (tails_from front nodes ≡ front ++ more)
  tails_add front [] = ([], sym (append-nil front))
  tails_add front (node ∷ nodes) =
      let rest = tails_add (front ++ tail_after front node ∷ []) nodes in
      (tail_after front node ∷ rest.0, rest.1 ∙ append_assoc front (tail_after front node ∷ []) rest.0)

  same_tail_after : (front more : List (Tail X)) (node : Node X) → node.next ≤ length front → tail_after (front ++ more) node ≡ tail_after front node
  same_tail_after front more node le = ap (λ (l : List X). let t : Tail X = record { first = node.step; rest = l } in t) (steps_stay front more node.next le)

  tails_get : (front : List (Tail X)) (nodes : List (Node X)) (k n : ℕ) (node : Node X) → n ≡ length front + k → slice_get nodes k ≡ Some node → node.next ≤ n
      → ((j : ℕ) (other : Node X) → slice_get nodes j ≡ Some other → other.next ≤ length front + j) → slice_get (tails_from front nodes) n ≡ Some (tail_after (tails_from front nodes) node)
  tails_get front [] k n node is at le all = absurd (let e : None ≡ Some node = at in cc)
  tails_get front (first ∷ nodes) zero n node is at le all =
      let e : first ≡ node = cc in
      let next = front ++ tail_after front first ∷ [] in
      let rest = tails_add next nodes in
      let long = length-append front (tail_after front first ∷ []) in
      let here : n ≡ length front = omega arith in
      let low : node.next ≤ length front = omega arith in
      let now : tail_after (tails_from next nodes) node ≡ tail_after front node =
      ap (λ l. tail_after l node) (rest.1 ∙ append_assoc front (tail_after front first ∷ []) rest.0) ∙ same_tail_after front (tail_after front first ∷ [] ++ rest.0) node low
      in
      ap (λ l. slice_get l n) rest.1 ∙ ap (slice_get (next ++ rest.0)) here ∙ get_front next rest.0 (length front) (omega arith) ∙ get_last front (tail_after front first)
      ∙ ap (λ (m : Node X). Some (tail_after front m)) e ∙ ap (λ (t : Tail X). Some t) (sym now)
  tails_get front (first ∷ nodes) (suc k) n node is at le all =
      let next = front ++ tail_after front first ∷ [] in
      let long = length-append front (tail_after front first ∷ []) in
      tails_get next nodes k n node (omega arith) at le (λ j other there. let h = all (suc j) other there in omega arith)

  pub get_tail : (nodes : List (Node X)) → AreNodes nodes → (k : ℕ) (node : Node X) → slice_get nodes k ≡ Some node → slice_get (tails_of nodes) k ≡ Some (tail_after (tails_of nodes) node)
  unfolding tails_of
  get_tail nodes are k node at = tails_get [] nodes k k node (omega arith) at (are.earlier k node at) (λ j other there. let h = are.earlier j other there in omega arith)

  pub tails_long : (nodes : List (Node X)) → length (tails_of nodes) ≡ length nodes
  unfolding tails_of
  tails_long nodes = let h = tails_length [] nodes in omega arith

  -- the node of a tail
  pub node_at : (nodes : List (Node X)) → AreNodes nodes → (k : ℕ) (tail : Tail X) → slice_get (tails_of nodes) k ≡ Some tail → (node : Node X) × (slice_get nodes k ≡ Some node) × (tail ≡ tail_after (tails_of nodes) node)
  node_at nodes are k tail at =
      let lt = get_below (tails_of nodes) k tail at in
      let n = get_some nodes k (let long = tails_long nodes in omega arith) in
      let e : Some tail ≡ Some (tail_after (tails_of nodes) n.0) = sym at ∙ get_tail nodes are k n.0 n.1 in
      (n.0, n.1, (let f : tail ≡ tail_after (tails_of nodes) n.0 = cc in f))

  -- ---- no two are equal

  node_is : (a b : Node X) → a.next ≡ b.next → a.step ≡ b.step → a ≡ b
  node_is a b e f = ap (λ (n : ℕ). let m : Node X = record { next = n; step = a.step } in m) e ∙ ap (λ (x : X). let m : Node X = record { next = b.next; step = x } in m) f

  no_steps : (all : List (Tail X)) (m : ℕ) → m < length all → [] ≡ steps_at all (suc m) → ⊥
  no_steps all m lt e = let t = get_some all m lt in let f : [] ≡ t.0.first ∷ t.0.rest = e ∙ ap steps_of t.1 in cc

  same_number : (all : List (Tail X)) (a b : ℕ) → a ≤ length all → b ≤ length all → ((m n : ℕ) (t : Tail X) → m < a → slice_get all m ≡ Some t → slice_get all n ≡ Some t → m ≡ n) → steps_at all a ≡ steps_at all b → a ≡ b
  same_number all zero zero la lb apart e = refl
  same_number all zero (suc n) la lb apart e = absurd (no_steps all n (omega arith) e)
  same_number all (suc m) zero la lb apart e = absurd (no_steps all m (omega arith) (sym e))
  same_number all (suc m) (suc n) la lb apart e =
      let s = get_some all m (omega arith) in
      let t = get_some all n (omega arith) in
      let f : s.0.first ∷ s.0.rest ≡ t.0.first ∷ t.0.rest = sym (ap steps_of s.1) ∙ e ∙ ap steps_of t.1 in
      let first : s.0.first ≡ t.0.first = cc in
      let rest : s.0.rest ≡ t.0.rest = cc in
      let is : s.0 ≡ t.0 = ap (λ (x : X). let u : Tail X = record { first = x; rest = s.0.rest } in u) first ∙ ap (λ (l : List X). let u : Tail X = record { first = t.0.first; rest = l } in u) rest in
      ap suc (apart m n t.0 (omega arith) (s.1 ∙ ap (λ (u : Tail X). Some u) is) t.1)

  apart_up_to : (nodes : List (Node X)) → AreNodes nodes → (bound i j : ℕ) (t : Tail X) → i < bound → slice_get (tails_of nodes) i ≡ Some t → slice_get (tails_of nodes) j ≡ Some t → i ≡ j
  apart_up_to nodes are zero i j t lt at bt = absurd (omega arith)
  apart_up_to nodes are (suc bound) i j t lt at bt =
      let all = tails_of nodes in
      let a = node_at nodes are i t at in
      let b = node_at nodes are j t bt in
      let e : tail_after all a.0 ≡ tail_after all b.0 = sym a.2 ∙ b.2 in
      let low = are.earlier i a.0 a.1 in
      let low' = are.earlier j b.0 b.1 in
      let under = get_below all i t at in
      let under' = get_below all j t bt in
      let next : a.0.next ≡ b.0.next =
      same_number all a.0.next b.0.next (omega arith) (omega arith) (λ m n u less there other. apart_up_to nodes are bound m n u (omega arith) there other) (ap (λ (u : Tail X). u.rest) e)
      in
      let is : a.0 ≡ b.0 = node_is a.0 b.0 next (ap (λ (u : Tail X). u.first) e) in
      are.apart i j b.0 (a.1 ∙ ap (λ (n : Node X). Some n) is) b.1

  pub tails_apart : (nodes : List (Node X)) → AreNodes nodes → IsApart (tails_of nodes)
  tails_apart nodes are i j t at bt = apart_up_to nodes are (suc i) i j t (omega arith) at bt

module _ {X : Type 0} (same : X → X → Bool) (decides : (a b : X) → Decides (same a b) (a ≡ b)) where
  -- ---- the tails of nodes are such as talks need

  -- the number of a node's rest is the one that it has
  pub next_is : (nodes : List (Node X)) → AreNodes nodes → (k : ℕ) (node : Node X) → slice_get nodes k ≡ Some node → head_in same (tails_of nodes) (steps_at (tails_of nodes) node.next) ≡ node.next
  next_is nodes are k node at =
      let low = are.earlier k node at in
      let under = get_below nodes k node at in
      let long = tails_long nodes in
      head_steps same decides (tails_of nodes) node.next (tails_apart nodes are) (omega arith)

  pub tails_built : (nodes : List (Node X)) → AreNodes nodes → IsBuilt same decides (tails_of nodes)
  tails_built nodes are = record {
    apart = tails_apart nodes are;
    below = λ n tail at.
        let a = node_at nodes are n tail at in
        let e : head_in same (tails_of nodes) tail.rest ≡ a.0.next = ap (λ (t : Tail X). head_in same (tails_of nodes) t.rest) a.2 ∙ next_is nodes are n a.0 a.1 in
        let low = are.earlier n a.0 a.1 in
        omega arith;
  }

  -- the nodes are those of their tails
  pub nodes_again : (nodes : List (Node X)) → AreNodes nodes → nodes ≡ map (node_in same (tails_of nodes)) (tails_of nodes)
  nodes_again nodes are =
      let all = tails_of nodes in
      let long = tails_long nodes in
      let many = length-map all (node_in same all) in
      same_gets nodes (map (node_in same all) all) (λ n.
      by_cases (ltb n (length nodes)) (slice_get nodes n ≡ slice_get (map (node_in same all) all) n)
      (λ h.
      let a = get_some nodes n (ltb-true n (length nodes) h) in
      let t = get_map (node_in same all) all n (tail_after all a.0) (get_tail nodes are n a.0 a.1) in
      let e : node_in same all (tail_after all a.0) ≡ a.0 = ap (λ (k : ℕ). let m : Node X = record { next = k; step = a.0.step } in m) (next_is nodes are n a.0 a.1) in
      a.1 ∙ ap (λ (m : Node X). Some m) (sym e) ∙ sym t)
      (λ h.
      let le = ltb-false n (length nodes) h in
      get_none nodes n le ∙ sym (get_none (map (node_in same all) all) n (omega arith))))

  -- ---- what is in use, as talks are read

  module _ (all : List (Tail X)) (built : IsBuilt same decides all) where
    -- what has a number among the first ones needs nothing more
    needs_none : (used : ℕ) (steps : List X) → used ≤ length all → head_in same all steps ≤ used → needing same (take used all) steps ≡ take used all
    needs_none used [] le low = refl
    needs_none used (step ∷ steps) le low =
        let tail : Tail X = record { first = step; rest = steps } in
        let n = position_or_len (same_tail same tail) all in
        let at : slice_get all n ≡ Some tail = at_head same decides all step steps n (omega arith) refl in
        let under = built.below n tail at in
        let rest = needs_none used steps le (omega arith) in
        let here : has same (take used all) tail ≡ true = there (same_tail same) (tail_decides same decides) (take used all) n tail (get_take used all n (omega arith) ∙ at) in
        ap (λ l. with_tail same l tail) rest ∙ ap (λ b. cond b (take used all) (take used all ++ tail ∷ [])) here

    -- the next one is added
    adds_next : (n : ℕ) (tail : Tail X) → slice_get all n ≡ Some tail → with_tail same (take n all) tail ≡ take (suc n) all
    adds_next n tail at =
        let under = get_below all n tail at in
        let long = length-take-le n all (omega arith) in
        by_cases (has same (take n all) tail) (with_tail same (take n all) tail ≡ take (suc n) all)
        (λ h.
        let p = position_or_len (same_tail same tail) (take n all) in
        let other : slice_get (take n all) p ≡ Some tail = found (same_tail same) (tail_decides same decides) (take n all) tail h in
        let less = get_below (take n all) p tail other in
        let e : p ≡ n = built.apart p n tail (sym (get_take n all p (omega arith)) ∙ other) at in
        absurd (omega arith))
        (λ h. ap (λ b. cond b (take n all) (take n all ++ tail ∷ [])) h ∙ sym (take_next all n tail at))

    IsRow : ℕ → ℕ → Type 0
    IsRow used head = (k : ℕ) (tail : Tail X) → used < k → k < head → slice_get all k ≡ Some tail → head_in same all tail.rest ≡ k

    needs_next : (used d n : ℕ) → n ≡ used + d → n < length all → ((k : ℕ) (tail : Tail X) → used < k → k < suc n → slice_get all k ≡ Some tail → head_in same all tail.rest ≡ k) → needing same (take used all) (steps_at all (suc n)) ≡ take (suc n) all
    needs_next used zero n is lt row =
        let t = get_some all n lt in
        let e : used ≡ n = omega arith in
        let low = built.below n t.0 t.1 in
        ap (λ o. needing same (take used all) (steps_of o)) t.1
        ∙ ap (λ l. with_tail same l t.0) (needs_none used t.0.rest (omega arith) (omega arith))
        ∙ ap (λ k. with_tail same (take k all) t.0) e
        ∙ adds_next n t.0 t.1
    needs_next used (suc d) zero is lt row = absurd (omega arith)
    needs_next used (suc d) (suc m) is lt row =
        let t = get_some all (suc m) lt in
        let linked : head_in same all t.0.rest ≡ suc m = row (suc m) t.0 (omega arith) (omega arith) t.1 in
        let rest : t.0.rest ≡ steps_at all (suc m) = sym (steps_head same decides all t.0.rest (omega arith)) ∙ ap (steps_at all) linked in
        let before = needs_next used d m (omega arith) (omega arith) (λ k tail more less at. row k tail more (omega arith) at) in
        ap (λ o. needing same (take used all) (steps_of o)) t.1
        ∙ ap (λ l. with_tail same (needing same (take used all) l) t.0) rest
        ∙ ap (λ l. with_tail same l t.0) before
        ∙ adds_next (suc m) t.0 t.1

  pub record Read (nodes : List (Node X)) (used head now : ℕ) : Type 0 where
    pub needs : needing same (take used (tails_of nodes)) (steps_at (tails_of nodes) head) ≡ take now (tails_of nodes)
    pub within : now ≤ length nodes
    pub reached : head ≤ now

  read_one : (nodes : List (Node X)) → AreNodes nodes → (used head now : ℕ) → used ≤ length nodes → Uses nodes used head now → Read nodes used head now
  read_one nodes are used head now le uses =
      let all = tails_of nodes in
      let built = tails_built nodes are in
      let long = tails_long nodes in
      elim uses [
        | inl h ↦
            let low = h.0 in
            let same_now = h.1 in
            let head_now = head_steps same decides all head built.apart (omega arith) in
            record {
              needs = needs_none all built used (steps_at all head) (omega arith) (omega arith) ∙ ap (λ k. take k all) (sym same_now);
              within = omega arith;
              reached = omega arith;
            }
        | inr h ↦
            let more = h.0 in
            let under = h.1 in
            let is_now = h.3 in
            let n = head - 1 in
            let one : suc n ≡ head = omega arith in
            let row : (k : ℕ) (tail : Tail X) → used < k → k < suc n → slice_get all k ≡ Some tail → head_in same all tail.rest ≡ k = λ k tail lt less at.
            let a = node_at nodes are k tail at in
            let linked = h.2 k a.0 lt (omega arith) a.1 in
            ap (λ (t : Tail X). head_in same all t.rest) a.2 ∙ next_is nodes are k a.0 a.1 ∙ linked
            in
            record {
              needs = ap (λ k. needing same (take used all) (steps_at all k)) (sym one) ∙ needs_next all built used (n - used) n (omega arith) (omega arith) row ∙ ap (λ k. take k all) (one ∙ sym is_now);
              within = omega arith;
              reached = omega arith;
            }
      ]

  pub record ReadAll (nodes : List (Node X)) (used : ℕ) (heads : List ℕ) (now : ℕ) : Type 0 where
    pub needs : fold (needing same) (take used (tails_of nodes)) (talks_of nodes heads) ≡ take now (tails_of nodes)
    pub numbers : map (head_in same (tails_of nodes)) (talks_of nodes heads) ≡ heads
    pub within : (now ≤ length nodes) × (used ≤ now)

  read_all : (nodes : List (Node X)) → AreNodes nodes → (used : ℕ) (heads : List ℕ) (now : ℕ) → used ≤ length nodes → UsesAll nodes used heads now → ReadAll nodes used heads now
  read_all nodes are used [] now le e = record { needs = ap (λ k. take k (tails_of nodes)) e; numbers = refl; within = (omega arith, omega arith) }
  read_all nodes are used (head ∷ heads) now le h =
      let all = tails_of nodes in
      let mid = h.0 in
      let one = read_one nodes are used head mid le h.1 in
      let in_one = one.within in
      let low = one.reached in
      let rest = read_all nodes are mid heads now in_one h.2 in
      let long = tails_long nodes in
      let here = head_steps same decides all head (tails_apart nodes are) (omega arith) in
      record {
        needs = ap (λ l. fold (needing same) l (talks_of nodes heads)) one.needs ∙ rest.needs;
        numbers = ap (λ (k : ℕ). k ∷ map (head_in same all) (talks_of nodes heads)) here ∙ ap (λ l. head ∷ l) rest.numbers;
        within = (
          rest.within.0,
          let up = rest.within.1 in elim h.1 [ inl a ↦ let e = a.1 in omega arith | inr a ↦ let e = a.3 in let more = a.0 in omega arith ],
        );
      }

  -- ---- nodes and numbers that pass the tests are a spelling, and only they

  pub read_needed : (nodes : List (Node X)) (heads : List ℕ) → AreNodes nodes → UsesAll nodes 0 heads (length nodes) → needed same (talks_of nodes heads) ≡ tails_of nodes
  read_needed nodes heads are uses =
      let all = read_all nodes are 0 heads (length nodes) (omega arith) uses in
      let long = tails_long nodes in
      all.needs ∙ take_all (length nodes) (tails_of nodes) (omega arith)

  pub read_again : (nodes : List (Node X)) (heads : List ℕ) → AreNodes nodes → UsesAll nodes 0 heads (length nodes) → (nodes ≡ nodes_of same (talks_of nodes heads)) × (heads ≡ heads_of same (talks_of nodes heads))
  read_again nodes heads are uses =
      let talks = talks_of nodes heads in
      let e : tails_of nodes ≡ needed same talks = sym (read_needed nodes heads are uses) in
      let all = read_all nodes are 0 heads (length nodes) (omega arith) uses in (
        nodes_again nodes are ∙ ap (λ l. map (node_in same l) l) e,
        sym all.numbers ∙ ap (λ l. map (head_in same l) talks) e,
      )

  pub is_spelling : (nodes : List (Node X)) (heads : List ℕ) → IsSpelling same nodes heads ↔ (AreNodes nodes × UsesAll nodes 0 heads (length nodes))
  is_spelling nodes heads = (
    λ h.
        let talks = h.0 in (
          subst AreNodes (sym h.1) (written_nodes same decides talks),
          subst (λ (n : List (Node X)). UsesAll n 0 heads (length n)) (sym h.1) (subst (λ (l : List ℕ). UsesAll (nodes_of same talks) 0 l (length (nodes_of same talks))) (sym h.2) (written_used same decides talks)),
        ),
    λ h. let e = read_again nodes heads h.0 h.1 in (talks_of nodes heads, e.0, e.1),
  )
