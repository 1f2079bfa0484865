use Rattle.std.proofs.Common.{◌≡◌, ℕ, List, ◌++◌, sym, ap, ◌∙◌, Bool, true}
use Rattle.std.specs.Prelude.{not}
use Rattle.rk_base.specs.Text.{Text}
use Rattle.rk_base.specs.Sorted.{sorted}
use Rattle.sh_expand.specs.Fields.{all_names, named, or_as_was}
use Rattle.sh_expand.specs.Turns.{fields_left}
use Rattle.sh_expand.proofs.names.name_one.Goals as goal

pub returns-clause-talk : goal.returns-clause-talk
returns-clause-talk c =
    λ k p.
    let on : (not c.args.env.now.noglob) ≡ true = ap not c.if-env.false in
    ap (λ (b : Bool). named b c.args.text c.args.components.items (λ found e'. all_names (fields_left c.args.names) (c.args.names.done ++ found) k e') c.args.env.now p) on ∙ (sym (c.in_ok-glob.ensures (λ (found : List Text) (n : ℕ). all_names (fields_left c.args.names) (c.args.names.done ++ or_as_was c.args.text (sorted found)) k (record c.args.env.now { next = n })) c.args.env.now.next p) ∙ c.in_ok-named.ensures.talk k c.args.env.now p)
