use Rattle.std.proofs.Common.{◌∙◌, sym, refl, None, Some}
use Rattle.rk_tree.proofs.RefusalLemmas.{remove_refusal-is, remove-allowed}
use Rattle.rk_tree.proofs.tree.Tree.remove.Goals as goal

pub removes-requires-clause-bare : goal.removes-requires-clause-bare
removes-requires-clause-bare c = remove-allowed c.args.self.now c.args.dir c.in-Some.n (sym c.in-None-loss_refusal.ensures)

pub returns-in-None : goal.returns-in-None
returns-in-None c = (sym (remove_refusal-is c.args.self.now c.args.dir c.args.name.now None c.in-None.ensures.found), refl)

pub returns-in-Some-loss_refusal : goal.returns-in-Some-loss_refusal
returns-in-Some-loss_refusal c = (sym (remove_refusal-is c.args.self.now c.args.dir c.args.name.now (Some c.in-Some.n) c.in-Some.ensures.found) ∙ sym c.in-Some-loss_refusal.ensures, refl)

pub returns-in-None-loss_refusal : goal.returns-in-None-loss_refusal
returns-in-None-loss_refusal c = (
  sym (remove_refusal-is c.args.self.now c.args.dir c.args.name.now (Some c.in-Some.n) c.in-Some.ensures.found) ∙ sym c.in-None-loss_refusal.ensures,
  c.removes.ensures,
)
