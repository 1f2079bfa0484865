use Rattle.std.proofs.Common.{◌≡◌, ℕ, ◌≤◌, List, length, drop, sym, ap, ◌∙◌, arith}
use Rattle.std.proofs.lemmas.List.{at_drop_all}
use Rattle.rk_base.specs.Text.{Text}
use Rattle.sh_ast.specs.declared.command.Assignment.{Assignment}
use Rattle.sh_vars.specs.Held.{Held}
use Rattle.sh_means.specs.State.{put_back_variables}
use Rattle.sh_compound.proofs.Named.{called, names_are}
use Rattle.sh_compound.proofs.undoing.put_back_variables.Goals as goal

all_back : (as' : List Assignment) (i : ℕ) (before old now : Held) → length as' ≤ i → put_back_variables (called (drop i as')) before now ≡ put_back_variables (called as') before old → now ≡ put_back_variables (called as') before old
all_back as' i before old now h so = sym (at_drop_all (λ (as' : List Assignment). put_back_variables (called as') before now) as' i h) ∙ so

pub returns : goal.returns
returns c =
    all_back c.deref-a-items.result.now c.assignments.a-index c.args.before.now c.args.now.now c.assignments.now (omega arith) c.assignments.invariant
    ∙ ap (λ (ns : List Text). put_back_variables ns c.args.before.now c.args.now.now) (ap called c.deref-a-items.ensures.value ∙ sym (names_are c.args.assignments.now))
