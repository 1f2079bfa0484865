use Rattle.std.proofs.Common.{◌-◌, List, length, map, drop, Bor}
use Rattle.std.specs.List.{AllByRecursion}
use Rattle.tr_nodes.specs.Tails.{Tail}
use Rattle.tr_nodes.proofs.LoopLemmas.{PutSoFar}
use Rattle.tr_record.specs.declared.steps.Step.{Step}
use Rattle.tr_codec.specs.NodesPut.{Holds}
use Rattle.tr_codec.specs.Same.{same_step}
use Rattle.tr_codec.specs.Sound.{IsTyped}
use Rattle.tr_codec.proofs.SameLemmas.{step_decides}
use Rattle.tr_codec.proofs.node_pieces.NodeWriter.put_talk.Given as goal

abbrev pub invariant-steps : goal.invariant-steps
invariant-steps l =
    let steps = map (λ (b : Bor Step). b.now) l.steps.items in
    record {
      put : (first : List (Tail Step)) → Holds first l.initial.self → (tails : List (Tail Step)) × Holds tails l.self × PutSoFar same_step step_decides first steps l.i tails l.head;
      typed : AllByRecursion IsTyped (drop (length steps - l.i) steps);
    }
