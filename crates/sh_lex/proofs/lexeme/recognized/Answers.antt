use Rattle.std.proofs.Common.{sym, ap, ◌∙◌}
use Rattle.sh_rules.specs.declared.token_kind.TokenKind.TheVariants as k
use Rattle.sh_token.specs.Bytes.{is_body_text, is_quoted_text, is_quoted_brace_text, is_arithmetic_text}
use Rattle.sh_token.specs.Folded.{folded, run_on}
use Rattle.sh_token.specs.Lexemes.{surrounded, recognized}
use Rattle.sh_token.specs.Tokens.{token}
use Rattle.sh_lex.proofs.lexeme.recognized.Goals as goal

pub returns-in-BodyText : goal.returns-in-BodyText
unfolding recognized
returns-in-BodyText c =
    ap (token k.BodyText) (c.run_on.ensures ∙ ap (λ xs. run_on is_body_text (folded xs)) c.bytes-bytes.ensures)
    ∙ ap (λ r. recognized r (surrounded c.args.whole c.args.closed c.args.nested c.args.words c.args.awaited.now) c.args.text.now) (sym c.in-BodyText.is)

pub returns-in-QuotedText : goal.returns-in-QuotedText
unfolding recognized
returns-in-QuotedText c =
    ap (token k.QuotedText) (c.run_on-in-QuotedText.ensures ∙ ap (λ xs. run_on is_quoted_text (folded xs)) c.bytes-bytes.ensures)
    ∙ ap (λ r. recognized r (surrounded c.args.whole c.args.closed c.args.nested c.args.words c.args.awaited.now) c.args.text.now) (sym c.in-QuotedText.is)

pub returns-in-QuotedBraceText : goal.returns-in-QuotedBraceText
unfolding recognized
returns-in-QuotedBraceText c =
    ap (token k.QuotedBraceText) (c.run_on-in-QuotedBraceText.ensures ∙ ap (λ xs. run_on is_quoted_brace_text (folded xs)) c.bytes-bytes.ensures)
    ∙ ap (λ r. recognized r (surrounded c.args.whole c.args.closed c.args.nested c.args.words c.args.awaited.now) c.args.text.now) (sym c.in-QuotedBraceText.is)

pub returns-in-ArithmeticText : goal.returns-in-ArithmeticText
unfolding recognized
returns-in-ArithmeticText c =
    ap (token k.ArithmeticText) (c.run_on-in-ArithmeticText.ensures ∙ ap (λ xs. run_on is_arithmetic_text (folded xs)) c.bytes-bytes.ensures)
    ∙ ap (λ r. recognized r (surrounded c.args.whole c.args.closed c.args.nested c.args.words c.args.awaited.now) c.args.text.now) (sym c.in-ArithmeticText.is)
