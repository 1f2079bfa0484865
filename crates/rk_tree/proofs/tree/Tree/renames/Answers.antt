use Rattle.std.proofs.Common.{◌∙◌, sym, refl}
use Rattle.rk_tree.proofs.RenamedLemmas.{renamed_same, rename_refusal-is}
use Rattle.rk_tree.proofs.tree.Tree.renames.Goals as goal

pub returns-then-is_same : goal.returns-then-is_same
returns-then-is_same c = renamed_same c.args.self.now c.args.dir c.args.n c.args.to c.args.name.now c.args.new.now c.found-over.result c.requires.found c.found-over.ensures.found (sym c.is_same.ensures ∙ c.if-is_same.true)

pub returns-in-Some : goal.returns-in-Some
returns-in-Some c = (
  sym (rename_refusal-is c.args.self.now c.args.dir c.args.n c.args.to c.args.name.now c.args.new.now c.found-over.result c.requires.found c.found-over.ensures.found (sym c.is_same.ensures ∙ c.if-is_same.false)) ∙ sym c.in-Some.ensures,
  refl,
)

pub returns-in_ok-moves-in-None : goal.returns-in_ok-moves-in-None
returns-in_ok-moves-in-None c = (
  sym (rename_refusal-is c.args.self.now c.args.dir c.args.n c.args.to c.args.name.now c.args.new.now c.found-over.result c.requires.found c.found-over.ensures.found (sym c.is_same.ensures ∙ c.if-is_same.false)) ∙ sym c.in-None.ensures,
  c.in_ok-moves-in-None.ensures.ok,
)
