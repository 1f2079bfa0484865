use Rattle.std.proofs.Common.{◌≡◌, ◌∙◌, ℕ, ◌-◌, ◌<◌, ◌⊎◌, List, sym, ap, subst, arith}
use Rattle.std.proofs.lemmas.List.{length-set}
use Rattle.tr_nodes.specs.Tails.{needing}
use Rattle.tr_record.specs.Pool.{steps_under}
use Rattle.tr_kept.specs.KnownPut.{IsChain, noted_of, StepsPut}
use Rattle.tr_codec.specs.Same.{same_step}
use Rattle.tr_kept.proofs.KnownPutLemmas.{chain_pop, some_steps, put_from, put_next}
use Rattle.tr_kept.proofs.known_pieces.put_under.Goals as goal

pub nodes-init : goal.nodes-init
nodes-init c =
    let nodes = c.args.pool.now.nodes in
    let numbers = c.args.numbers.now.items in
    let end = c.in_ok-left.end in
    let is : c.noted-number.result ≡ noted_of numbers end = c.noted-number.ensures ∙ ap (λ l. noted_of l end) c.as_slice-2.ensures.value in
    let known : (end ≡ 0) ⊎ (0 < noted_of numbers end) = subst (λ (l : List ℕ). (end ≡ 0) ⊎ (0 < noted_of l end)) c.as_slice.ensures.value c.in_ok-left.ensures.end in
    record {
      many = c.requires.many;
      put = (
        end,
        c.in_ok-left.ensures.chain,
        λ tails h so. subst (λ n. StepsPut tails nodes (steps_under nodes end) n numbers c.args.writer.now) (sym is) (put_from tails nodes numbers c.args.writer.now end h so known),
      );
    }

pub step-requires : goal.step-requires
step-requires c =
    let nodes = c.args.pool.now.nodes in
    let at = c.in-Some.at in
    let so = c.nodes.invariant.put in
    let pop = chain_pop nodes c.args.head c.pop.new.self.items at so.0 (subst (λ (l : List ℕ). IsChain nodes c.args.head l so.0) c.in-Some.ensures.items so.1) in
    pop.2

pub unreachable-requires : goal.unreachable-requires
unreachable-requires c =
    let nodes = c.args.pool.now.nodes in
    let at = c.in-Some.at in
    let so = c.nodes.invariant.put in
    let pop = chain_pop nodes c.args.head c.pop.new.self.items at so.0 (subst (λ (l : List ℕ). IsChain nodes c.args.head l so.0) c.in-Some.ensures.items so.1) in
    some_steps nodes at pop.1 pop.2 c.in_default-step.ensures.none

pub index_mut-requires : goal.index_mut-requires
index_mut-requires c =
    let nodes = c.args.pool.now.nodes in
    let at = c.in-Some.at in
    let so = c.nodes.invariant.put in
    let pop = chain_pop nodes c.args.head c.pop.new.self.items at so.0 (subst (λ (l : List ℕ). IsChain nodes c.args.head l so.0) c.in-Some.ensures.items so.1) in
    omega (arith, pop.1, pop.2, c.nodes.invariant.many)

pub nodes-preserved : goal.nodes-preserved
nodes-preserved c =
    let nodes = c.args.pool.now.nodes in
    let at = c.in-Some.at in
    let so = c.nodes.invariant.put in
    let pop = chain_pop nodes c.args.head c.pop.new.self.items at so.0 (subst (λ (l : List ℕ). IsChain nodes c.args.head l so.0) c.in-Some.ensures.items so.1) in
    record {
      many = length-set c.nodes.numbers.items (at - 1) c.in_ok-number.number ∙ c.nodes.invariant.many;
      put = (
        at,
        pop.0,
        λ tails h known.
            let steps = so.2 tails h known in
            let p = c.in_ok-number.ensures.put (needing same_step tails (steps_under nodes so.0)) steps.holds steps.within in
            put_next tails nodes c.nodes.numbers.items c.nodes.writer c.put_node.new.self at so.0 c.nodes.number c.in_ok-number.number c.in-Some-step.step.now pop.1 pop.3 c.in-Some-step.ensures.some steps p,
      );
    }
