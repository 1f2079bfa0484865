use Rattle.std.proofs.Common.{◌≡◌, true, sym, ap, ◌∙◌}
use Rattle.sh_token.specs.Bytes.{class_is}
use Rattle.sh_token.specs.Folded.{folded, run_on}
use Rattle.sh_token.specs.Tokens.{token}
use Rattle.sh_token.proofs.Symbols.{bare}
use Rattle.sh_token.proofs.Unclosed.{look_unclosed}
use Rattle.sh_token.proofs.brackets.text_look.Goals as goal

pub returns-then-is_unquoted : goal.returns-then-is_unquoted
returns-then-is_unquoted c =
    let same = c.bytes-bytes.ensures in
    let unquoted : bare c.args.class (folded c.args.text.now) ≡ true = ap (λ xs. bare c.args.class (folded xs)) (sym same) ∙ sym c.is_unquoted.ensures ∙ c.if-is_unquoted.true in
    ap (token c.args.kind) (c.run_on.ensures ∙ ap (λ xs. run_on (class_is c.args.class) (folded xs)) same) ∙ look_unclosed c.args.class c.args.kind (folded c.args.text.now) (c.is_unclosed.ensures c.if-is_unclosed.true) unquoted
