use Rattle.std.proofs.Common.{sym, ◌∙◌}
use Rattle.std.proofs.lemmas.Bool.{ne_eqb}
use Rattle.sh_token.specs.Bytes.{class_is}
use Rattle.sh_token.proofs.Unclosed.{unknown, passed_on, passed_ends, passed_shorter}
use Rattle.sh_token.proofs.brackets.unclosed_down_to.Goals as goal

pub returns-then-not-is_unquoted : goal.returns-then-not-is_unquoted
returns-then-not-is_unquoted c = passed_ends c.args.class c.args.text.now c.bytes.left.now c.bytes.invariant (sym c.is_unquoted.ensures ∙ c.if-not-is_unquoted.true)

pub returns-then-first-eq93 : goal.returns-then-first-eq93
returns-then-first-eq93 c = unknown (class_is c.args.class) c.args.text.now

pub bytes-preserved : goal.bytes-preserved
bytes-preserved c =
    passed_on c.args.class c.args.text.now c.bytes.left.now c.rest-left.result.now c.bytes.invariant (sym c.is_unquoted.ensures ∙ c.if-not-is_unquoted.false) (ne_eqb _ _ (λ h. c.if-first-eq93.false (c.first.ensures ∙ h))) c.rest-left.ensures.read c.rest-left.ensures.left

pub bytes-smaller : goal.bytes-smaller
bytes-smaller c = passed_shorter c.args.class c.bytes.left.now c.rest-left.result.now (sym c.is_unquoted.ensures ∙ c.if-not-is_unquoted.false) c.rest-left.ensures.read
