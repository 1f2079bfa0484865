-- Nodes of steps, as they are kept.
use Rattle.std.proofs.Common.{◌≡◌, ◌∙◌, sym, ap, subst, ℕ, suc, ◌+◌, ◌-◌, ◌<◌, ◌≤◌, inl, inr, List, [], ◌∷◌, ◌++◌, length, map, get_or, slice_get, arith}
use Rattle.std.proofs.lemmas.List.{map-append, length-map, length-append}
use Rattle.std.proofs.lemmas.List.Sums.{sum_by-cons}
use Rattle.tr_nodes.specs.Nodes.{Node}
use Rattle.tr_nodes.specs.Tails.{Tail, steps_of, steps_at, tail_after, tails_of}
use Rattle.tr_nodes.proofs.GetLemmas.{get_below, get_last, get_map, get_push, get_read, map_get}
use Rattle.tr_nodes.proofs.TailLemmas.{steps_stay}
use Rattle.tr_nodes.proofs.ReadLemmas.{tails_long}
use Rattle.tr_nodes.proofs.PutLemmas.{tails_more}
use Rattle.tr_record.specs.declared.steps.Step.{Step}
use Rattle.tr_record.specs.declared.pool.StepNode.{StepNode}
use Rattle.tr_record.specs.Costs.{steps_cost}
use Rattle.tr_record.specs.Pool.{Pool, steps_under, node_of, content_at, AreSteps, IsNoted, AreNoted, IsUnder}

-- ---- one node more

module _ (nodes : List (Node Step)) (node : Node Step) where
  -- the steps of the numbers that were there stay
  pub under_stays : (number : ℕ) → number ≤ length nodes → steps_under (nodes ++ node ∷ []) number ≡ steps_under nodes number
  under_stays number le =
      let long = tails_long nodes in
      ap (λ (l : List (Tail Step)). steps_at l number) (tails_more nodes node)
      ∙ steps_stay (tails_of nodes) (tail_after (tails_of nodes) node ∷ []) number (omega arith)

  -- those of the new one
  pub under_new : steps_under (nodes ++ node ∷ []) (suc (length nodes)) ≡ node.step ∷ steps_under nodes node.next
  under_new =
      let tails = tails_of nodes in
      let tail = tail_after tails node in
      ap (λ (l : List (Tail Step)). steps_at l (suc (length nodes))) (tails_more nodes node)
      ∙ ap steps_of (ap (slice_get (tails ++ tail ∷ [])) (sym (tails_long nodes)) ∙ get_last tails tail)

  noted_stays : (place : ℕ) (it : StepNode) → place < length nodes → IsNoted nodes place it → IsNoted (nodes ++ node ∷ []) place it
  noted_stays place it lt h =
      let low : it.next ≤ place = h.earlier in
      let here = under_stays (suc place) (omega arith) in
      let rest = under_stays it.next (omega arith) in
      record {
        earlier = h.earlier;
        steps = here ∙ h.steps ∙ ap (λ l. it.step ∷ l) (sym rest);
        count = h.count ∙ ap length (sym here);
        few = h.few;
        paid = h.paid ∙ ap steps_cost (sym here);
      }

cost_more : (step : Step) (steps : List Step) → steps_cost (step ∷ steps) ≡ step.cost + steps_cost steps
cost_more step steps = sum_by-cons (λ (s : Step). s.cost) step steps

module _ (kept : List StepNode) (it : StepNode) (are : AreNoted kept) (le : it.next ≤ length kept) (few : it.count ≤ suc (length kept)) (count : it.count ≡ length (steps_under (map node_of kept) it.next) + 1) (paid : it.paid ≡ it.step.cost + steps_cost (steps_under (map node_of kept) it.next)) where
  abbrev nodes : List (Node Step)
  nodes = map node_of kept

  long : length nodes ≡ length kept
  long = length-map kept node_of

  nodes_more : map node_of (kept ++ it ∷ []) ≡ nodes ++ node_of it ∷ []
  nodes_more = map-append node_of kept (it ∷ [])

  noted_last : IsNoted (nodes ++ node_of it ∷ []) (length kept) it
  noted_last =
      let e = long in
      let here : steps_under (nodes ++ node_of it ∷ []) (suc (length kept)) ≡ it.step ∷ steps_under nodes it.next = ap (λ (n : ℕ). steps_under (nodes ++ node_of it ∷ []) (suc n)) (sym e) ∙ under_new nodes (node_of it) in
      let rest = under_stays nodes (node_of it) it.next (omega arith) in
      let cost = cost_more it.step (steps_under nodes it.next) in
      record {
        earlier = le;
        steps = here ∙ ap (λ l. it.step ∷ l) (sym rest);
        count = (let one : it.count ≡ suc (length (steps_under nodes it.next)) = omega arith in one) ∙ ap length (sym here);
        few = few;
        paid = paid ∙ sym cost ∙ ap steps_cost (sym here);
      }

  pub noted_more : AreNoted (kept ++ it ∷ [])
  noted_more place other at =
      subst (λ (l : List (Node Step)). IsNoted l place other) (sym nodes_more)
      (elim (get_push kept it place other at) [
        | inl there ↦
            let lt = get_below kept place other there in
            let e = long in
            noted_stays nodes (node_of it) place other (omega arith) (are place other there)
        | inr last ↦ subst (λ (n : ℕ). IsNoted (nodes ++ node_of it ∷ []) n other) (sym last.0) (subst (λ (x : StepNode). IsNoted (nodes ++ node_of it ∷ []) (length kept) x) last.1 noted_last)
      ])

-- each node's steps are its own and those of its rest
pub are_steps : (kept : List StepNode) → AreNoted kept → AreSteps (map node_of kept)
are_steps kept are k node at =
    let m = map_get node_of kept k node at in
    (are k m.0 m.1).steps ∙ ap (λ (n : Node Step). n.step ∷ steps_under (map node_of kept) n.next) (sym m.2)

abbrev pool_of : List StepNode → Pool
pool_of kept = record { nodes = map node_of kept; contents = map content_at kept }

-- the node of a number
pub read_under : (kept : List StepNode) (number : ℕ) (it d : StepNode) → AreNoted kept → (number ≡ 0 → ⊥) → number ≤ length (map node_of kept) → it ≡ get_or kept (number - 1) d → IsUnder (pool_of kept) number it
read_under kept number it d are some le read =
    let place = number - 1 in
    let long = length-map kept node_of in
    let at = get_read kept (number - 1) it d (omega arith) read in
    record {
      place = number - 1;
      number_is = omega arith;
      node = get_map node_of kept (number - 1) it at;
      content = get_map content_at kept (number - 1) it at;
      noted = are (number - 1) it at;
    }

-- a node that is put, as it is told of what is in front
module _ (kept now : List StepNode) (pool : Pool) (view : pool_of kept ≡ pool) (it : StepNode) (e : now ≡ kept ++ it ∷ []) where
  nodes_are : map node_of kept ≡ pool.nodes
  nodes_are = ap (λ (p : Pool). p.nodes) view

  pub noted_push : (n : ℕ) → AreNoted kept → it.next ≤ length pool.nodes → it.count ≡ n + 1 → n ≡ length (steps_under pool.nodes it.next) → n ≤ it.next → it.paid ≡ it.step.cost + steps_cost (steps_under pool.nodes it.next) → AreNoted now
  noted_push n are le count long few paid =
      let many : length pool.nodes ≡ length kept = ap length (sym nodes_are) ∙ length-map kept node_of in
      let back : length (steps_under pool.nodes it.next) ≡ length (steps_under (map node_of kept) it.next) = ap (λ (l : List (Node Step)). length (steps_under l it.next)) (sym nodes_are) in
      subst (λ (l : List StepNode). AreNoted l) (sym e)
      (noted_more kept it are (omega arith) (omega arith) (omega arith) (paid ∙ ap (λ (l : List (Node Step)). it.step.cost + steps_cost (steps_under l it.next)) (sym nodes_are)))

  pub steps_push : (number : ℕ) → number ≡ length now → steps_under (map node_of now) number ≡ it.step ∷ steps_under pool.nodes it.next
  steps_push number is =
      let one = length-append kept (it ∷ []) in
      let long = length-map kept node_of in
      let all : length now ≡ length (kept ++ it ∷ []) = ap length e in
      let at : number ≡ suc (length (map node_of kept)) = omega arith in
      ap (λ (l : List StepNode). steps_under (map node_of l) number) e
      ∙ ap (λ (l : List (Node Step)). steps_under l number) (map-append node_of kept (it ∷ []))
      ∙ ap (steps_under (map node_of kept ++ node_of it ∷ [])) at
      ∙ under_new (map node_of kept) (node_of it)
      ∙ ap (λ (l : List (Node Step)). it.step ∷ steps_under l it.next) nodes_are
