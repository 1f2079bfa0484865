use Rattle.std.proofs.Common.{sym, ap, drop, ◌∙◌}
use Rattle.std.specs.Prelude.{nat_eq}
use Rattle.sh_token.specs.Folded.{folded}
use Rattle.sh_token.specs.Steps.{ends_with_dash}
use Rattle.sh_token.proofs.Folding.{dash_one, dash_none}
use Rattle.sh_lex.proofs.documents.is_dashed.Goals as goal

pub bytes-preserved : goal.bytes-preserved
bytes-preserved c =
    let some = sym c.is_read_out.ensures ∙ c.if-is_read_out.false in
    c.bytes.invariant ∙ dash_one c.bytes.dashed (folded c.bytes.left.now) some
    ∙ ap (λ b. ends_with_dash (nat_eq b 45) (drop 1 (folded c.bytes.left.now))) (sym c.first-dashed.ensures)
    ∙ ap (λ r. ends_with_dash (nat_eq c.first-dashed.result 45) r) (sym c.rest-left.ensures.read)

pub returns-then-is_read_out : goal.returns-then-is_read_out
returns-then-is_read_out c = sym (c.bytes.invariant ∙ dash_none c.bytes.dashed (folded c.bytes.left.now) (sym c.is_read_out.ensures ∙ c.if-is_read_out.true))
