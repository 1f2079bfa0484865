use Rattle.std.proofs.Common.{◌≡◌, ◌∙◌, ℕ, ◌-◌, ◌<◌, ◌≤◌, List, length, map, drop, get_or, refl, ap, subst, Bor, arith}
use Rattle.std.specs.List.{AllByRecursion}
use Rattle.std.proofs.lemmas.List.{length-map}
use Rattle.tr_nodes.specs.Tails.{Tail, with_tail, needing, head_in}
use Rattle.tr_nodes.proofs.LoopLemmas.{put_next, put_all}
use Rattle.tr_record.specs.declared.steps.Step.{Step}
use Rattle.tr_codec.specs.NodesPut.{Holds, in_front}
use Rattle.tr_codec.specs.Same.{same_step}
use Rattle.tr_codec.specs.Sound.{IsTyped}
use Rattle.tr_codec.proofs.LentLemmas.{lent_read, all_front}
use Rattle.tr_codec.proofs.SameLemmas.{step_decides}
use Rattle.tr_codec.proofs.node_pieces.NodeWriter.put_talk.Goals as goal

pub steps-preserved : goal.steps-preserved
steps-preserved c =
    let items = c.in_ok-steps.steps.items in
    let steps = map (λ (b : Bor Step). b.now) items in
    let step = c.index-step.result.now.now in
    let long = length-map items (λ (b : Bor Step). b.now) in
    let count = c.len-count.ensures in
    let i = c.steps.i in
    let n = c.len-count.result - 1 - i in
    let lt : i < length steps = let h = c.steps-test.true in omega arith in
    let place : n ≡ length steps - 1 - i = omega arith in
    let read : step ≡ get_or steps n step = lent_read items n c.index-step.result.now c.index-step.result.now (let h = c.steps-test.true in omega arith) c.index-step.ensures in
    record {
      put = λ first h.
          let so = c.steps.invariant.put first h in
          let p = c.in_ok-head.ensures.put so.0 so.1 so.2.within in
          let new = with_tail same_step so.0 (in_front so.0 c.steps.head step) in
          (new, p.holds, put_next same_step step_decides first steps i n so.0 c.steps.head step step new c.in_ok-head.head lt place read refl p.is p.within so.2);
      typed = all_front IsTyped steps i n step step lt place read c.in_ok-head.ensures.typed c.steps.invariant.typed;
    }

pub returns-clause-holds : goal.returns-clause-holds
returns-clause-holds c = λ tails h.
    let items = c.in_ok-steps.steps.items in
    let steps = map (λ (b : Bor Step). b.now) items in
    let long = length-map items (λ (b : Bor Step). b.now) in
    let count = c.len-count.ensures in
    let le : length steps ≤ c.steps.i = let h = c.steps-test.false in omega arith in
    let so = c.steps.invariant.put tails h in
    let all = put_all same_step step_decides tails steps c.steps.i so.0 c.steps.head le so.2 in
    let is : so.0 ≡ needing same_step tails c.args.steps.now = all.0 ∙ ap (needing same_step tails) c.in_ok-steps.ensures in
    subst (λ (l : List (Tail Step)). Holds l c.steps.self) is so.1

pub returns-clause-number : goal.returns-clause-number
returns-clause-number c = λ tails h.
    let items = c.in_ok-steps.steps.items in
    let steps = map (λ (b : Bor Step). b.now) items in
    let long = length-map items (λ (b : Bor Step). b.now) in
    let count = c.len-count.ensures in
    let le : length steps ≤ c.steps.i = let h = c.steps-test.false in omega arith in
    let so = c.steps.invariant.put tails h in
    let all = put_all same_step step_decides tails steps c.steps.i so.0 c.steps.head le so.2 in
    let is : so.0 ≡ needing same_step tails c.args.steps.now = all.0 ∙ ap (needing same_step tails) c.in_ok-steps.ensures in
    all.1 ∙ ap (λ l. head_in same_step l steps) is ∙ ap (head_in same_step (needing same_step tails c.args.steps.now)) c.in_ok-steps.ensures

pub returns-clause-typed : goal.returns-clause-typed
returns-clause-typed c =
    let items = c.in_ok-steps.steps.items in
    let steps = map (λ (b : Bor Step). b.now) items in
    let long = length-map items (λ (b : Bor Step). b.now) in
    let count = c.len-count.ensures in
    let none : length steps - c.steps.i ≡ 0 = let h = c.steps-test.false in omega arith in
    let all : AllByRecursion IsTyped steps = subst (λ (k : ℕ). AllByRecursion IsTyped (drop k steps)) none c.steps.invariant.typed in
    subst (λ (l : List Step). AllByRecursion IsTyped l) c.in_ok-steps.ensures all
