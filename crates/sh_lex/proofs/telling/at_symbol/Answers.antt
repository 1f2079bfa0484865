use Rattle.std.proofs.Common.{◌≡◌, ap, ◌∙◌, ◌+◌, suc, drop, arith}
use Rattle.sh_token.specs.Brackets.{before_symbol}
use Rattle.sh_token.specs.Folded.{folded, behind}
use Rattle.sh_lex.proofs.telling.at_symbol.Goals as goal

pub returns-clause-left : goal.returns-clause-left
returns-clause-left c =
    let n = c.before_symbol-n.ensures.count ∙ ap before_symbol c.rest-behind.ensures.read in
    let m : c.before_symbol-n.result + 1 ≡ suc (before_symbol (drop 1 (folded c.args.text.now))) = omega (arith, n) in
    c.skip.ensures.left ∙ ap (λ k. behind k c.args.text.now) m
