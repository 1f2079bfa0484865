use Rattle.std.proofs.lemmas.Result.{on_ok_weaker}
use Rattle.sh_vars.proofs.TreeLemmas.{at_node, listed_at}
use Rattle.sh_vars.proofs.tree.Tree.+list_exported.Goals as goal

pub returns-in_ok-list_own-in-To : goal.returns-in_ok-list_own-in-To
returns-in_ok-list_own-in-To t c =
    let f = at_node c.self.view_is c.self.invariant c.in-To.is in
    record {
      listed = on_ok_weaker c.list_exported-in-To.result (λ last. listed_at c.args.self.now c.in-To.node.value _ _ _ c.args.vars.now.items _ _ c.list_exported-in-To.new.vars.items f c.deref.ensures c.deref-in-To.ensures c.deref-in-To-2.ensures c.in_ok-list_exported-in-To.ensures.listed c.in_ok-list_own-in-To.ensures last) c.list_exported-in-To.ensures.listed;
      in_order = f.whole;
    }
