use Rattle.std.proofs.Common.{◌≡◌, ◌∙◌, ◌-◌, ◌+◌, [], List, sym, ap, subst, refl}
use Rattle.std.proofs.lemmas.Result.{err_from_is_err_and}
use Rattle.tr_nodes.specs.Tails.{Tail}
use Rattle.tr_record.specs.declared.steps.Step.{Step}
use Rattle.tr_codec.specs.NodesRead.{tails_in}
use Rattle.tr_codec.specs.Reading.{node_at, many_at}
use Rattle.tr_codec.specs.Used.{step_used, nodes_used}
use Rattle.tr_parts.proofs.LoopLemmas.{starts, goes_on, ends, is_done}
use Rattle.tr_codec.proofs.UsedLemmas.{more_used}
use Rattle.tr_codec.proofs.nodes.so_many_nodes.Goals as goal

pub nodes-init : goal.nodes-init
nodes-init c = record {
  read = rw c.in_ok-nodes.ensures.none (starts (node_at c.args.blobs.now) c.args.count c.args.bytes.now);
  are = c.in_ok-nodes.ensures.are c.args.blobs.now;
  used = rw c.in_ok-nodes.ensures.none refl;
}

pub returns-in_err-rest-clause-gives : goal.returns-in_err-rest-clause-gives
returns-in_err-rest-clause-gives c =
    let p = err_from_is_err_and c.from_residual-in_err-rest.result c.from_residual-in_err-rest.ensures.1 in
    rw (p.1, p.2) (ends (node_at c.args.blobs.now) c.in_err-rest.field-0.0 (tails_in c.nodes.nodes) c.args.count c.nodes.counter c.nodes.rest.now (many_at (node_at c.args.blobs.now) c.args.count [] c.args.bytes.now) c.nodes-test.true c.in_err-rest.ensures.fails c.nodes.invariant.read)

pub nodes-preserved : goal.nodes-preserved
nodes-preserved c =
    let n = c.in_ok-rest.ensures.read in
    record {
      read =
          subst (λ (l : List (Tail Step)). many_at (node_at c.args.blobs.now) (c.args.count - (c.nodes.counter + 1)) l c.in_ok-rest.rest.now ≡ many_at (node_at c.args.blobs.now) c.args.count [] c.args.bytes.now) (sym n.adds)
          (goes_on (node_at c.args.blobs.now) (tails_in c.nodes.nodes) c.args.count c.nodes.counter c.nodes.rest.now n.tail c.in_ok-rest.rest.now (many_at (node_at c.args.blobs.now) c.args.count [] c.args.bytes.now) c.nodes-test.true n.read c.nodes.invariant.read);
      are = n.are;
      used =
          more_used (λ used tail. step_used c.args.blobs.now used tail.first) c.args.used.now c.nodes.used c.node_of.new.used (tails_in c.nodes.nodes) n.tail c.nodes.invariant.used n.uses
          ∙ ap (nodes_used c.args.blobs.now c.args.used.now) (sym n.adds);
    }

pub returns-clause-gives : goal.returns-clause-gives
returns-clause-gives c = is_done (node_at c.args.blobs.now) (tails_in c.nodes.nodes) c.args.count c.nodes.counter c.nodes.rest.now (many_at (node_at c.args.blobs.now) c.args.count [] c.args.bytes.now) c.nodes-test.false c.nodes.invariant.read
