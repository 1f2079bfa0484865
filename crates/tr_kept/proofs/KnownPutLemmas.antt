-- Steps that are put by their numbers among the nodes of a pool.
use Rattle.std.proofs.Common.{◌≡◌, ◌∙◌, refl, sym, ap, subst, ℕ, zero, suc, ◌-◌, ◌<◌, ◌≤◌, ◌⊎◌, inl, inr, true, false, cond, List, [], ◌∷◌, ◌++◌, Some, None, length, map, get_or, slice_get, arith}
use Rattle.std.specs.Prelude.{slice_set, replicate}
use Rattle.std.specs.List.{AllByRecursion}
use Rattle.std.proofs.lemmas.List.{length-append}
use Rattle.tr_nodes.specs.Nodes.{Node}
use Rattle.tr_nodes.specs.Tails.{Tail, has, same_tail, with_tail, needing, head_in, steps_of, steps_at, tails_of, node_in}
use Rattle.tr_nodes.proofs.GetLemmas.{get_below, get_some, get_map, there}
use Rattle.tr_nodes.proofs.ReadLemmas.{tails_built, tails_long, nodes_again}
use Rattle.tr_nodes.proofs.TailLemmas.{IsBuilt, tail_decides, grows, at_head, steps_head, head_stays}
use Rattle.tr_record.specs.Pool.{steps_under, next_by, next_of, AreSteps}
use Rattle.tr_record.specs.declared.steps.Step.{Step}
use Rattle.tr_kept.specs.KnownPut.{AreRenumbered, IsChain, noted_of, StepsPut}
use Rattle.tr_codec.specs.NodeKeys.{IsKeyed}
use Rattle.tr_codec.specs.NodesPut.{Holds, IsPut, in_front}
use Rattle.tr_codec.specs.Same.{same_step}
use Rattle.tr_codec.specs.Sound.{IsTyped}
use Rattle.tr_codec.specs.declared.node_pieces.NodeWriter.{NodeWriter}
use Rattle.tr_codec.proofs.NodesPutLemmas.{all_at}
use Rattle.tr_codec.proofs.SameLemmas.{step_decides}

abbrev Built : List (Tail Step) → Type 0
Built = IsBuilt same_step step_decides

pub holds_built : (tails : List (Tail Step)) (w : NodeWriter) → Holds tails w → Built tails
holds_built tails w h = subst Built h.tails_are (tails_built same_step step_decides h.nodes h.are)

-- ---- a chain of nodes

pub chain_none : (nodes : List (Node Step)) (head : ℕ) → IsChain nodes head [] head
chain_none nodes head = refl

pub chain_push : (nodes : List (Node Step)) (head : ℕ) (left : List ℕ) (at : ℕ) → 0 < at → at ≤ length nodes → IsChain nodes head left at → IsChain nodes head (left ++ at ∷ []) (next_of nodes at)
chain_push nodes head [] at some le h = (h, some, le, refl)
chain_push nodes head (x ∷ left) at some le h = (h.0, h.1, h.2, chain_push nodes (next_of nodes x) left at some le h.3)

pub chain_pop : (nodes : List (Node Step)) (head : ℕ) (left : List ℕ) (at end : ℕ) → IsChain nodes head (left ++ at ∷ []) end → IsChain nodes head left at × (0 < at) × (at ≤ length nodes) × (next_of nodes at ≡ end)
chain_pop nodes head [] at end h = (h.0, h.1, h.2, h.3)
chain_pop nodes head (x ∷ left) at end h =
    let rest = chain_pop nodes (next_of nodes x) left at end h.3 in
    ((h.0, h.1, h.2, rest.0), rest.1, rest.2, rest.3)

-- what follows a node is shorter
pub next_shorter : (nodes : List (Node Step)) (at : ℕ) → AreSteps nodes → 0 < at → at ≤ length nodes → length (steps_under nodes (next_of nodes at)) < length (steps_under nodes at)
next_shorter nodes zero steps some le = absurd (omega arith)
next_shorter nodes (suc k) steps some le =
    let node = get_some nodes k (omega arith) in
    let next : next_of nodes (suc k) ≡ node.0.next = ap next_by node.1 in
    let here : length (steps_under nodes (suc k)) ≡ suc (length (steps_under nodes node.0.next)) = ap (λ (l : List Step). length l) (steps k node.0 node.1) in
    let there : length (steps_under nodes (next_of nodes (suc k))) ≡ length (steps_under nodes node.0.next) = ap (λ n. length (steps_under nodes n)) next in
    omega arith

-- a node has a step
pub some_steps : (nodes : List (Node Step)) (at : ℕ) → 0 < at → at ≤ length nodes → steps_under nodes at ≡ [] → ⊥
some_steps nodes zero some le none = absurd (omega arith)
some_steps nodes (suc k) some le none =
    let long = tails_long nodes in
    let tail = get_some (tails_of nodes) k (omega arith) in
    let same : tail.0.first ∷ tail.0.rest ≡ [] = sym (ap steps_of tail.1) ∙ none in
    absurd cc

-- ---- what is there already

pub needing_there : (tails : List (Tail Step)) (steps : List Step) → Built tails → head_in same_step tails steps ≤ length tails → needing same_step tails steps ≡ tails
needing_there tails [] built le = refl
needing_there tails (step ∷ steps) built le =
    let tail : Tail Step = record { first = step; rest = steps } in
    let at = at_head same_step step_decides tails step steps _ le refl in
    let low = built.below _ tail at in
    let less = get_below tails _ tail at in
    let rest = needing_there tails steps built (omega arith) in
    let is : has same_step tails tail ≡ true = there (same_tail same_step) (tail_decides same_step step_decides) tails _ tail at in
    ap (λ l. with_tail same_step l tail) rest ∙ ap (λ b. cond b tails (tails ++ tail ∷ [])) is

-- more behind the tails changes no number
renumbered_behind : (tails more : List (Tail Step)) (nodes : List (Node Step)) (numbers : List ℕ) → AreRenumbered tails nodes numbers → AreRenumbered (tails ++ more) nodes numbers
renumbered_behind tails more nodes numbers h k n at =
    let so = h k n at in
    let long = length-append tails more in
    (head_stays same_step step_decides tails more (steps_under nodes (suc k)) (let e = so.0 in let w = so.1 in omega arith) ∙ so.0, (let w = so.1 in omega arith))

pub renumbered_more : (tails : List (Tail Step)) (steps : List Step) (nodes : List (Node Step)) (numbers : List ℕ) → Built tails → AreRenumbered tails nodes numbers → AreRenumbered (needing same_step tails steps) nodes numbers
renumbered_more tails steps nodes numbers built h =
    let g = grows same_step step_decides tails built steps in
    subst (λ (l : List (Tail Step)). AreRenumbered l nodes numbers) (sym g.adds) (renumbered_behind tails g.more nodes numbers h)

zeros : (n k m : ℕ) → slice_get (replicate n 0) k ≡ Some (suc m) → ⊥
zeros zero k m at = absurd (let e : None ≡ Some (suc m) = at in cc)
zeros (suc n) zero m at = absurd (let e : Some 0 ≡ Some (suc m) = at in cc)
zeros (suc n) (suc k) m at = zeros n k m at

pub renumbered_none : (tails : List (Tail Step)) (nodes : List (Node Step)) (numbers : List ℕ) (n : ℕ) → numbers ≡ replicate n 0 → AreRenumbered tails nodes numbers
renumbered_none tails nodes numbers n e k m at = absurd (zeros n k m (sym (ap (λ l. slice_get l k) e) ∙ at))

-- ---- steps that are put

noted_at : (numbers : List ℕ) (k : ℕ) (n : ℕ) → get_or numbers k 0 ≡ suc n → slice_get numbers k ≡ Some (suc n)
noted_at [] k n e = absurd (let z : 0 ≡ suc n = e in cc)
noted_at (x ∷ xs) zero n e = ap (λ (m : ℕ). Some m) e
noted_at (x ∷ xs) (suc k) n e = noted_at xs k n e

put_zero : (tails : List (Tail Step)) (nodes : List (Node Step)) (numbers : List ℕ) (w : NodeWriter) → Holds tails w → AreRenumbered tails nodes numbers → StepsPut tails nodes (steps_under nodes 0) 0 numbers w
put_zero tails nodes numbers w h so = record { holds = h; renumbered = so; is = refl; within = omega arith }

put_there : (tails : List (Tail Step)) (nodes : List (Node Step)) (numbers : List ℕ) (w : NodeWriter) (k n : ℕ) → Holds tails w → AreRenumbered tails nodes numbers → slice_get numbers k ≡ Some (suc n) → StepsPut tails nodes (steps_under nodes (suc k)) (suc n) numbers w
put_there tails nodes numbers w k n h so at =
    let steps = steps_under nodes (suc k) in
    let here = so k n at in
    let all : needing same_step tails steps ≡ tails = needing_there tails steps (holds_built tails w h) (let e = here.0 in let l = here.1 in omega arith) in
    record {
      holds = subst (λ (l : List (Tail Step)). Holds l w) (sym all) h;
      renumbered = subst (λ (l : List (Tail Step)). AreRenumbered l nodes numbers) (sym all) so;
      is = sym here.0 ∙ ap (λ l. head_in same_step l steps) (sym all);
      within = subst (λ (l : List (Tail Step)). suc n ≤ length l) (sym all) here.1;
    }

-- where what was noted begins
pub put_from : (tails : List (Tail Step)) (nodes : List (Node Step)) (numbers : List ℕ) (w : NodeWriter) (end : ℕ) → Holds tails w → AreRenumbered tails nodes numbers → (end ≡ 0) ⊎ (0 < noted_of numbers end) → StepsPut tails nodes (steps_under nodes end) (noted_of numbers end) numbers w
put_from tails nodes numbers w zero h so known = put_zero tails nodes numbers w h so
put_from tails nodes numbers w (suc k) h so known =
    elim known [
      | inl e ↦ absurd cc
      | inr lt ↦ noted_by (get_or numbers k 0) refl lt
    ]
  where
    noted_by : (m : ℕ) → get_or numbers k 0 ≡ m → 0 < m → StepsPut tails nodes (steps_under nodes (suc k)) m numbers w
    noted_by zero e lt = absurd (omega arith)
    noted_by (suc n) e lt = put_there tails nodes numbers w k n h so (noted_at numbers k n e)

set_get : (xs : List ℕ) (i v j y : ℕ) → slice_get (slice_set xs i v) j ≡ Some y → (slice_get xs j ≡ Some y) ⊎ ((j ≡ i) × (v ≡ y))
set_get [] i v j y at = inl at
set_get (x ∷ xs) zero v zero y at = inr (refl, (let e : v ≡ y = cc in e))
set_get (x ∷ xs) zero v (suc j) y at = inl at
set_get (x ∷ xs) (suc i) v zero y at = inl at
set_get (x ∷ xs) (suc i) v (suc j) y at = elim (set_get xs i v j y at) [ inl h ↦ inl h | inr h ↦ inr (ap suc h.0, h.1) ]

-- one more step in front
pub put_more : (tails : List (Tail Step)) (nodes : List (Node Step)) (numbers : List ℕ) (w new : NodeWriter) (k end number now : ℕ) (step : Step) → steps_under nodes (suc k) ≡ step ∷ steps_under nodes end → StepsPut tails nodes (steps_under nodes end) number numbers w
    → IsPut (needing same_step tails (steps_under nodes end)) number step now new → StepsPut tails nodes (steps_under nodes (suc k)) now (slice_set numbers k now) new
put_more tails nodes numbers w new k end number now step steps so p =
    let rest = steps_under nodes end in
    let front = needing same_step tails rest in
    let here : steps_at front number ≡ rest = ap (steps_at front) so.is ∙ steps_head same_step step_decides front rest (let e = so.is in let l = so.within in omega arith) in
    let tail : List Step → Tail Step = λ l. record { first = step; rest = l } in
    let all : with_tail same_step front (in_front front number step) ≡ needing same_step tails (steps_under nodes (suc k)) = ap (λ l. with_tail same_step front (tail l)) here ∙ ap (needing same_step tails) (sym steps) in
    let longer : step ∷ steps_at front number ≡ steps_under nodes (suc k) = ap (λ l. step ∷ l) here ∙ sym steps in
    let is : now ≡ head_in same_step (needing same_step tails (steps_under nodes (suc k))) (steps_under nodes (suc k)) =
    p.is ∙ ap (λ l. head_in same_step l (step ∷ steps_at front number)) all ∙ ap (head_in same_step (needing same_step tails (steps_under nodes (suc k)))) longer
    in
    let within : now ≤ length (needing same_step tails (steps_under nodes (suc k))) = subst (λ (l : List (Tail Step)). now ≤ length l) all p.within in
    let before : AreRenumbered (needing same_step tails (steps_under nodes (suc k))) nodes numbers =
    subst (λ (l : List (Tail Step)). AreRenumbered l nodes numbers) (ap (needing same_step tails) (sym steps)) (renumbered_one front (tail rest) so.renumbered)
    in
    record {
      holds = subst (λ (l : List (Tail Step)). Holds l new) all p.holds;
      renumbered = λ j n at. elim (set_get numbers k now j (suc n) at) [
        | inl old ↦ before j n old
        | inr same ↦
            let node : j ≡ k = same.0 in
            let value : now ≡ suc n = same.1 in (
              ap (λ i. head_in same_step (needing same_step tails (steps_under nodes (suc k))) (steps_under nodes (suc i))) node ∙ sym is ∙ value,
              subst (λ m. m ≤ length (needing same_step tails (steps_under nodes (suc k)))) value within,
            )
      ];
      is = is;
      within = within;
    }
  where
    renumbered_one : (front : List (Tail Step)) (tail : Tail Step) → AreRenumbered front nodes numbers → AreRenumbered (with_tail same_step front tail) nodes numbers
    renumbered_one front tail h = elim (has same_step front tail) as (λ b. AreRenumbered (cond b front (front ++ tail ∷ [])) nodes numbers) [ true ↦ h | false ↦ renumbered_behind front (tail ∷ []) nodes numbers h ]

-- the next one of a chain, from its last to its first
pub put_next : (tails : List (Tail Step)) (nodes : List (Node Step)) (numbers : List ℕ) (w new : NodeWriter) (at end number now : ℕ) (step : Step) → 0 < at → next_of nodes at ≡ end → steps_under nodes at ≡ step ∷ steps_under nodes (next_of nodes at)
    → StepsPut tails nodes (steps_under nodes end) number numbers w → IsPut (needing same_step tails (steps_under nodes end)) number step now new → StepsPut tails nodes (steps_under nodes at) now (slice_set numbers (at - 1) now) new
put_next tails nodes numbers w new zero end number now step some next steps so p = absurd (omega arith)
put_next tails nodes numbers w new (suc k) end number now step some next steps so p =
    let place : suc k - 1 ≡ k = omega arith in
    let here : steps_under nodes (suc k) ≡ step ∷ steps_under nodes end = steps ∙ ap (λ n. step ∷ steps_under nodes n) next in
    subst (λ i. StepsPut tails nodes (steps_under nodes (suc k)) now (slice_set numbers i now) new) (sym place) (put_more tails nodes numbers w new k end number now step here so p)

-- a talk that was put step by step
pub put_talk : (tails : List (Tail Step)) (nodes : List (Node Step)) (numbers : List ℕ) (w new : NodeWriter) (steps : List Step) (number : ℕ) → Holds tails w → AreRenumbered tails nodes numbers → Holds (needing same_step tails steps) new → number ≡ head_in same_step (needing same_step tails steps) steps
    → StepsPut tails nodes steps number numbers new
put_talk tails nodes numbers w new steps number h so holds is =
    let g = grows same_step step_decides tails (holds_built tails w h) steps in
    record { holds = holds; renumbered = renumbered_more tails steps nodes numbers (holds_built tails w h) so; is = is; within = (let l = g.head in omega arith) }

-- ---- what was put is typed

tail_typed : (tails : List (Tail Step)) (w : NodeWriter) (n : ℕ) (tail : Tail Step) → Holds tails w → slice_get tails n ≡ Some tail → IsTyped tail.first
tail_typed tails w n tail h at =
    let again = nodes_again same_step step_decides h.nodes h.are ∙ ap (λ (l : List (Tail Step)). map (node_in same_step l) l) h.tails_are in
    let there : slice_get h.nodes n ≡ Some (node_in same_step tails tail) = ap (λ (l : List (Node Step)). slice_get l n) again ∙ get_map (node_in same_step tails) tails n tail at in
    let keyed : IsKeyed (w.writer.blobs ++ []) (node_in same_step tails tail) = all_at (IsKeyed (w.writer.blobs ++ [])) h.nodes n (node_in same_step tails tail) (h.keyed []) there in
    keyed.typed

pub steps_typed : (tails : List (Tail Step)) (w : NodeWriter) (steps : List Step) → Holds tails w → head_in same_step tails steps ≤ length tails → AllByRecursion IsTyped steps
steps_typed tails w [] h le = tt
steps_typed tails w (step ∷ steps) h le =
    let tail : Tail Step = record { first = step; rest = steps } in
    let at = at_head same_step step_decides tails step steps _ le refl in
    let built = holds_built tails w h in
    let low = built.below _ tail at in
    let less = get_below tails _ tail at in
    (tail_typed tails w _ tail h at, steps_typed tails w steps h (omega arith))
