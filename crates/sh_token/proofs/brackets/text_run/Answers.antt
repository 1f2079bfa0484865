use Rattle.std.proofs.Common.{sym, ap, subst, ◌∙◌, ◌+◌}
use Rattle.sh_token.specs.Bytes.{class_is}
use Rattle.sh_token.proofs.Symbols.{Run, run_on, run_stops, run_ends}
use Rattle.sh_token.proofs.brackets.text_run.Goals as goal

pub returns-then-not-is_in-clause-count : goal.returns-then-not-is_in-clause-count
returns-then-not-is_in-clause-count c =
    run_stops c.args.class c.args.text.now c.loop-at.left.now c.args.first_bracket c.in-Some.n c.loop-at.at
    (subst (λ h. Run c.args.class c.args.text.now c.loop-at.left.now c.args.first_bracket h c.loop-at.at) c.in-Some.is c.loop-at.invariant)
    (sym (ap (class_is c.args.class) c.first.ensures) ∙ sym c.is_in.ensures ∙ c.if-not-is_in.true)

pub loop-at-preserved : goal.loop-at-preserved
loop-at-preserved c =
    subst (λ h. Run c.args.class c.args.text.now c.rest-left.result.now c.args.first_bracket h (c.loop-at.at + 1)) (sym c.bracket_on-here.ensures)
    (run_on c.args.class c.args.text.now c.loop-at.left.now c.rest-left.result.now c.args.first_bracket c.in-Some.n c.loop-at.at
    (subst (λ h. Run c.args.class c.args.text.now c.loop-at.left.now c.args.first_bracket h c.loop-at.at) c.in-Some.is c.loop-at.invariant)
    (sym (ap (class_is c.args.class) c.first.ensures) ∙ sym c.is_in.ensures ∙ c.if-not-is_in.false) c.rest-left.ensures.read)

pub returns-clause-count : goal.returns-clause-count
returns-clause-count c = run_ends c.args.class c.args.text.now c.loop-at.left.now c.args.first_bracket c.loop-at.here c.loop-at.at c.loop-at.invariant c.loop-at.auto.at-end c.loop-at-test.false
