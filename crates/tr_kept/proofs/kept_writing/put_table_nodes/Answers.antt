use Rattle.std.proofs.Common.{◌≡◌, ◌≤◌, List, length, sym, subst, arith}
use Rattle.tr_nodes.specs.Nodes.{Node}
use Rattle.tr_nodes.proofs.GetLemmas.{get_read}
use Rattle.tr_record.specs.Pool.{steps_under}
use Rattle.tr_record.specs.declared.steps.Step.{Step}
use Rattle.tr_kept.proofs.KeptPutLemmas.{so_far_none, so_far_next, so_far_all}
use Rattle.tr_codec.proofs.ToldLemmas.{if_some_weaker}
use Rattle.tr_kept.proofs.kept_writing.put_table_nodes.Goals as goal

pub records-init : goal.records-init
records-init c = record {
  many = omega (arith, c.in_ok-numbers.ensures.len);
  put = λ before h. so_far_none before c.args.records.now c.args.heads.now.items c.pool-pool.result.now.nodes c.in_ok-numbers.numbers.items c.args.nodes.now c.len.result (c.in_ok-numbers.ensures.items_if_clones_equal (λ y is. is)) h;
}

pub put_steps-requires-clause-known : goal.put_steps-requires-clause-known
put_steps-requires-clause-known c =
    let rec = c.index-records-i.result in
    let at = get_read c.args.records.now c.records.i rec rec (omega arith) c.index-records-i.is in
    if_some_weaker c.head.result _ _
    (λ head is. subst (λ (l : List (Node Step)). (head ≤ length l) × (steps_under l head ≡ rec.steps)) (sym c.pool-pool.ensures) (c.requires c.records.i head rec is at))
    c.head.ensures

pub records-preserved : goal.records-preserved
records-preserved c =
    let rec = c.index-records-i.result in
    record {
      many = c.in_ok-head.ensures.many;
      put = λ before h.
          rw c.in_ok-push.ensures.items
          (so_far_next before c.args.records.now c.records.i rec rec c.records.heads.items c.in_ok-head.head c.pool-pool.result.now.nodes c.records.numbers.items c.put_steps.new.numbers.items c.records.nodes c.put_steps.new.writer
          (omega arith) c.index-records-i.is (c.records.invariant.put before h) c.in_ok-head.ensures.put);
    }

pub returns : goal.returns
returns c = λ before h.
    so_far_all before c.args.records.now c.records.i c.records.heads.items c.pool-pool.result.now.nodes c.records.numbers.items c.records.nodes (omega arith) (c.records.invariant.put before h)
