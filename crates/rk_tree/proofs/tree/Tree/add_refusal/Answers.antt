use Rattle.std.proofs.Common.{◌∙◌, sym, ap, Option, [], ◌∷◌}
use Rattle.std.specs.Option.{option_or}
use Rattle.rk_base.specs.declared.errno.Errno.{Errno}
use Rattle.rk_base.specs.declared.errno.Errno.TheVariants.{Exists, Denied}
use Rattle.rk_tree.specs.Entries.{node_of}
use Rattle.rk_tree.specs.Hierarchy.{child}
use Rattle.rk_tree.specs.Refusals.{first_of, is_there, lacks_w}
use Rattle.rk_tree.proofs.RefusalLemmas.{add_refusal-is}
use Rattle.rk_tree.proofs.tree.Tree.add_refusal.Goals as goal

pub returns-in-Some : goal.returns-in-Some
returns-in-Some c =
    ap (λ (o : Option Errno). option_or o (first_of ((is_there (child c.args.self.now c.args.dir c.args.name.now), Exists) ∷ (lacks_w c.args.self.now c.args.dir, Denied) ∷ []))) c.in-Some.ensures
    ∙ sym (add_refusal-is c.args.self.now c.args.dir c.args.name.now (node_of c.args.it.now))

pub returns-in-None : goal.returns-in-None
returns-in-None c =
    c.gain_refusal.ensures
    ∙ ap (λ (o : Option Errno). option_or o (first_of ((is_there (child c.args.self.now c.args.dir c.args.name.now), Exists) ∷ (lacks_w c.args.self.now c.args.dir, Denied) ∷ []))) c.in-None.ensures
    ∙ sym (add_refusal-is c.args.self.now c.args.dir c.args.name.now (node_of c.args.it.now))
