use Rattle.std.proofs.Common.{◌≡◌, ℕ, ◌+◌, ◌<◌, ◌≤◌, ◌∷◌, List, length, drop, get_or, suc, sym, ap, ◌∙◌, arith, add-one, drop-cons, drop_of_length-le}
use Rattle.std.proofs.lemmas.Grind.{common_steps}
use Rattle.ut_filter.proofs.OutputLemmas.{put_nothing, put_more}
use Rattle.ut_filter.specs.declared.made.Input.{Input}
use Rattle.ut_filter.specs.Outputs.{Growing, put}
use Rattle.ut_grep.specs.Greps.{GrepValue, brought_told, told_all}
use Rattle.ut_grep.specs.Values.{grep_value}
use Rattle.ut_grep.proofs.grep.Grep.tell_all.Goals as goal

-- one input, behind which others come
told-on : (g : GrepValue) (inputs : List Input) (i : ℕ) (input : Input) (out more whole : Growing) → i < length inputs → input ≡ get_or inputs i input → more ≡ put out (brought_told g input.operand input.brought) → put out (told_all g (drop i inputs)) ≡ whole → put more (told_all g (drop (i + 1) inputs)) ≡ whole
told-on g inputs i input out more whole h is o all =
    let later : List Input = drop (i + 1) inputs in
    let split : drop i inputs ≡ input ∷ later = rw (add-one, drop-cons inputs i input h) (ap (λ (x : Input). x ∷ drop (suc i) inputs) (sym is)) in
    ap (λ (x : Growing). put x (told_all g later)) o
    ∙ put_more out (brought_told g input.operand input.brought) (told_all g later)
    ∙ ap (λ (x : List Input). put out (told_all g x)) (sym split)
    ∙ all

-- behind the last input
told-end : (g : GrepValue) (inputs : List Input) (i : ℕ) (out whole : Growing) → length inputs ≤ i → put out (told_all g (drop i inputs)) ≡ whole → out ≡ whole
told-end g inputs i out whole h all =
    sym (put_nothing out) ∙ ap (λ (x : List Input). put out (told_all g x)) (sym (drop_of_length-le inputs h)) ∙ all

pub inputs-preserved : goal.inputs-preserved
inputs-preserved c =
    let same : _ = c.inputs.invariant.1 in (
      told-on (grep_value c.args.self.now) c.args.inputs.now c.inputs.input-index c.input-item.result c.inputs.output c.tell_input.new.output _ c.inputs-test.true c.input-item.is c.in_ok-one.ensures.output c.inputs.invariant.0,
      grind (arith, common_steps),
    )

pub returns-clause-output : goal.returns-clause-output
returns-clause-output c =
    told-end (grep_value c.args.self.now) c.args.inputs.now c.inputs.input-index c.inputs.output _ c.inputs-test.false c.inputs.invariant.0
