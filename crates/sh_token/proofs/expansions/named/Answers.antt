use Rattle.std.proofs.Common.{◌+◌, ap, ◌∙◌}
use Rattle.sh_token.specs.Bytes.{is_name}
use Rattle.sh_token.specs.Folded.{run}
use Rattle.sh_token.specs.Tokens.{token}
use Rattle.sh_rules.specs.declared.token_kind.TokenKind.TheVariants as k
use Rattle.sh_token.proofs.expansions.named.Goals as goal

pub returns : goal.returns
returns c = ap (λ n. token k.Parameter (n + 1)) (c.run-name.ensures.count ∙ ap (λ xs. run is_name xs) c.skip-behind.ensures.read)
